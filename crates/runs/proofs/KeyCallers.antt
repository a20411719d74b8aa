-- Buffers that are lent back untouched, with a refused call before each arrival, are lent as they must be. Assumes nothing.
use Prim.Native.Nat.{ℕ, ◌≤◌}
use native.Mathlib.Omega.{arith}
use mathlib.Core.Path.{◌≡◌, refl, sym, subst}
use mathlib.Core.List.{List, [], ◌∷◌}
use lib.ListN.{length}
use Rattle.ctaphid.specs.Choice.{pick}
use Rattle.ctaphid.specs.Interfaces.{Interface, main, vendor, KeySettings, Arrival, arrival}
use Rattle.ctaphid.specs.KeyDemands.{KeyPermitted, TakenBy, after_by}
use Rattle.hid.specs.declared.CtapHid.{CtapHid}
use Rattle.key.specs.Soundness.{KeySound}
use Rattle.key.specs.Stepping.{KeyStepping, main_key_of}
use Rattle.runs.specs.Steps.{Buffers, buffers}
use Rattle.runs.specs.Lending.{Lends}
use Rattle.runs.specs.Callers.{unless_first}
use Rattle.runs.specs.KeySteps.{hid_on}
use Rattle.runs.specs.KeyShare.{KeyHeld, left_on, KeyCaller, held_after, key_code, AllRefused, Minds, MindsWell, own, fixed_key, FixedKeyServes}
use Rattle.runs.proofs.KeyShared.{KeyStands, called, room-on, MindedSoFar, plain, ready, key-stands, key-code-serves}

-- after an interface's first call what was left there is long enough; before it there is no transaction there
abbrev LeftAs : (declared maximum : ℕ) → (left : List ℕ) → List Arrival → Type 0
LeftAs n max left [] = n ≡ 0
LeftAs n max left (a ∷ past) = max ≤ length left

abbrev Left : KeyHeld → Type 0
Left h = (i : Interface) → LeftAs (hid_on h.key i).assembler.len (hid_on h.key i).max (left_on h i).message (own i h.past)

lends_back : (s : CtapHid) (t : ℕ) (first left r : List ℕ) (past : List Arrival) → s.max ≤ length first → 17 ≤ length r → LeftAs s.assembler.len s.max left past → Lends s t left (buffers (unless_first past first left) r)
lends_back s t first left r [] long short none = record { roomy = record { message = long; short = short }; kept = λ on. absurd (on.begun none) }
lends_back s t first left r (a ∷ past) long short room = record { roomy = record { message = room; short = short }; kept = λ on. refl }

-- a call leaves the other interface's part alone
left-on : (h : KeyHeld) (i : Interface) (t : ℕ) (p : List ℕ) (b : Buffers) → Left h → (hid_on (called h (arrival i t p) b).key i).max ≤ length (called h (arrival i t p) b).message → Left (held_after h (arrival i t p) (called h (arrival i t p) b))
left-on h main t p b left room main = room
left-on h main t p b left room vendor = left vendor
left-on h vendor t p b left room main = left main
left-on h vendor t p b left room vendor = room

module _ (m v r : List ℕ) (long : 7609 ≤ length m) (wide : 7609 ≤ length v) (short : 17 ≤ length r) where
  abbrev caller : KeyCaller
  caller = fixed_key m v r

  -- a packet without bytes is refused, whatever the key
  refused-before : (h : KeyHeld) (a : Arrival) → AllRefused h.key (caller.before h a)
  unfolding main_key_of pick
  refused-before h a = (tt, tt)

  lends-on : (h : KeyHeld) (i : Interface) (t : ℕ) → KeySound h.key → Left h → Lends (hid_on h.key i) t (left_on h i).message (caller.lent h (arrival i t []))
  lends-on h main t sound left = lends_back h.key.main.hid t m h.main.message r (own main h.past) (omega (arith, long, sound.main.maximum)) short (left main)
  lends-on h vendor t sound left = lends_back (hid_on h.key vendor) t v h.vendor.message r (own vendor h.past) (omega (arith, wide, sound.vendor.maximum)) short (left vendor)

  module _ (set : KeySettings) (permitted : KeyPermitted set) where
    abbrev at : List Arrival → KeyHeld
    at past = after_by (key_code caller) set past

    minds : (past : List Arrival) (a : Arrival) → KeyStands set past (at past) → Left (at past) → Minds caller (at past) a
    minds past a s left = record { refused = refused-before (at past) a; lends = lends-on (at past) a.interface a.time s.follows.sound left }

    both : (past : List Arrival) → TakenBy past → MindedSoFar caller set permitted past × Left (at past)
    both [] taken = (tt, none)
      where
        none : Left (at [])
        none main = refl
        none vendor = refl
    both (a ∷ past) taken =
        let so_far = both past taken.2 in
        let s : KeyStands set past (at past) = key-stands caller set permitted past taken.2 so_far.0 in
        let d : Minds caller (at past) a = minds past a s so_far.1 in
        let b : Buffers = caller.lent (at past) a in (
          (d, so_far.0),
          subst (λ (x : KeyStepping). Left (held_after (at past) a x)) (sym (plain caller set permitted past a d))
              (left-on (at past) a.interface a.time a.packet b so_far.1 (room-on (at past) _ s.follows a.time a.packet b a.interface (ready caller set permitted past a d taken s))),
        )

  pub fixed-minds-well : MindsWell caller
  fixed-minds-well set permitted past a taken =
      let so_far = both set permitted past taken.2 in
      minds set permitted past a (key-stands caller set permitted past taken.2 so_far.0) so_far.1

pub fixed-key-serves : FixedKeyServes
fixed-key-serves m v r long wide short = key-code-serves (fixed_key m v r) (fixed-minds-well m v r long wide short)
