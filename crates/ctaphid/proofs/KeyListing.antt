-- Of a key's list of vendor commands only the members count, on both interfaces. Assumes nothing.
use Prim.Native.Nat.{ℕ}
use mathlib.Core.Path.{◌≡◌, refl, ap, ◌∙◌}
use mathlib.Core.List.{List, [], ◌∷◌}
use Rattle.ctaphid.specs.Transport.{Next, next}
use Rattle.ctaphid.specs.Interfaces.{Interface, main, vendor, KeySettings, settings_on, Arrival, arrival, Both, both, seen_as, Key, key, main_of, with_main, with_vendor, key_step}
use Rattle.ctaphid.specs.KeyDemands.{standard_key, after_by, answer_by}
use Rattle.ctaphid.proofs.Listing.{relisted, Lists, lists-on, step-alike, leads, leads-on}

abbrev pub listing_on : List ℕ → KeySettings → KeySettings
listing_on l set = record { main = set.main; vendor = set.vendor; u2f = set.u2f; commands = l }

module _ (l : List ℕ) where
  abbrev relisted_both : Both → Both
  relisted_both b = both (relisted l b.main) (relisted l b.vendor)

  abbrev pub relisted_key : Key → Key
  relisted_key k = key (relisted_both k.transports) k.wink

  abbrev relisted_key_next : Next Key → Next Key
  relisted_key_next n = next (relisted_key n.state) n.answer

  -- both interfaces have the list's members
  abbrev Listed : Key → Type 0
  Listed k = Lists l k.transports.main.settings × Lists l k.transports.vendor.settings

  module _ (k : Key) (t : ℕ) (p : List ℕ) (same : Listed k) where
    key-step-alike : (i : Interface) → key_step (relisted_key k) (arrival i t p) ≡ relisted_key_next (key_step k (arrival i t p))
    key-step-alike main = ap (with_main (relisted_key k)) (leads l (main_of k) (seen_as k.transports (arrival main t p)) same.0)
    key-step-alike vendor = ap (with_vendor (relisted_key k)) (step-alike l k.transports.vendor (seen_as k.transports (arrival vendor t p)) same.1)

    listed-on : (i : Interface) → Listed (key_step k (arrival i t p)).state
    listed-on main = (leads-on l (main_of k) (seen_as k.transports (arrival main t p)) same.0, same.1)
    listed-on vendor = (same.0, lists-on l k.transports.vendor (seen_as k.transports (arrival vendor t p)) same.1)

module _ (set : KeySettings) (l : List ℕ) (same : Lists l (settings_on set main)) where
  listed-after : (past : List Arrival) → Listed l (after_by standard_key set past)
  listed-after [] = (same, same)
  listed-after (a ∷ past) = listed-on l (after_by standard_key set past) a.time a.packet (listed-after past) a.interface

  step_after : (past : List Arrival) (a : Arrival) → key_step (relisted_key l (after_by standard_key set past)) a ≡ relisted_key_next l (key_step (after_by standard_key set past) a)
  step_after past a = key-step-alike l (after_by standard_key set past) a.time a.packet (listed-after past) a.interface

  pub key-after-alike : (past : List Arrival) → after_by standard_key (listing_on l set) past ≡ relisted_key l (after_by standard_key set past)
  key-after-alike [] = refl
  key-after-alike (a ∷ past) = ap (λ (k : Key). (key_step k a).state) (key-after-alike past) ∙ ap (λ (n : Next Key). n.state) (step_after past a)

  pub key-answer-alike : (past : List Arrival) (a : Arrival) → answer_by standard_key (listing_on l set) past a ≡ answer_by standard_key set past a
  key-answer-alike past a = ap (λ (k : Key). (key_step k a).answer) (key-after-alike past) ∙ ap (λ (n : Next Key). n.answer) (step_after past a)
