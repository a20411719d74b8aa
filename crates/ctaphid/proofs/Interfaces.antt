-- Two interfaces: the transport of each is the single transport on what that interface saw, and never two locks run. Assumes nothing.
use Prim.Native.Nat.{ℕ, ◌≤◌, ◌<◌}
use native.Mathlib.Omega.{arith}
use mathlib.Core.Path.{◌≡◌, refl, ap, sym, subst, ◌∙◌}
use mathlib.Core.List.{List, [], ◌∷◌}
use mathlib.Core.Bool.{Bool, true, false}
use borrow.Author.Tests.{ltb-true, ltb-false}
use lib.Dec.{eqb}
use Rattle.ctaphid.specs.Choice.{pick}
use Rattle.ctaphid.specs.Packets.{Packet, read}
use Rattle.ctaphid.specs.Settings.{Settings}
use Rattle.ctaphid.specs.Transport.{Lock, Transport, Event, Next, is_valid, is_locked, is_locked_by, is_shut, hear, step}
use Rattle.ctaphid.specs.Demands.{standard, Proper, Taken, latest, after}
use Rattle.ctaphid.specs.Interfaces.{Interface, main, vendor, the, KeySettings, settings_on, Arrival, arrival, Both, side, put, fresh_both, seen_as, both_step}
use Rattle.ctaphid.specs.KeyDemands.{standard_both, bare, latest_of, TakenBy, after_by, only, seen, unchecked, SidesAgree, NeverTwoLocks}
use Rattle.ctaphid.proofs.Tests.{pick_true, pick-both}

-- ---- an arrival is this interface's or the other's

pub apart : main ≡ vendor → ⊥
apart e = let z : ◌≡◌ {A = ℕ} 0 1 = cc in omega arith

-- what holds of both: where it is, one more is seen, and where it isn't, no more
pub only-known : (P : (Event → List Event → List Event) → Type 0) (j i : Interface) → (j ≡ i → P (λ e l. e ∷ l)) → ((j ≡ i → ⊥) → P (λ e l. l)) → P (only j i)
only-known P main main own theirs = own refl
only-known P main vendor own theirs = theirs apart
only-known P vendor main own theirs = theirs (λ e. apart (sym e))
only-known P vendor vendor own theirs = own refl

-- what holds of both holds of either
pub the-both : {A : Type 0} (P : A → Type 0) (i : Interface) (x y : A) → P x → P y → P (the i x y)
the-both P main x y p q = p
the-both P vendor x y p q = q

-- ---- each transport is the single one on what it saw

side-step : (j i : Interface) (e : Event) (b : Both) (set : Settings) (l : List Event) → side b i ≡ after standard set l → side (put b j (step (side b j) e).state) i ≡ after standard set (only j i e l)
side-step main main e b set l h = ap (λ (d : Transport). (step d e).state) h
side-step main vendor e b set l h = h
side-step vendor main e b set l h = h
side-step vendor vendor e b set l h = ap (λ (d : Transport). (step d e).state) h

fresh-side : (i : Interface) (set : KeySettings) → side (fresh_both set) i ≡ after standard (settings_on set i) []
fresh-side main set = refl
fresh-side vendor set = refl

pub sides : (i : Interface) (set : KeySettings) (past : List Arrival) → side (after_by standard_both set past) i ≡ after standard (settings_on set i) (seen i set past)
sides i set [] = fresh-side i set
sides i set (a ∷ past) =
    side-step a.interface i (seen_as (after_by standard_both set past) a) (after_by standard_both set past) (settings_on set i) (seen i set past) (sides i set past)

pub both-agree : SidesAgree unchecked standard_both
both-agree set permitted past a taken =
    ap (λ (d : Transport). (step d (seen_as (after_by standard_both set past) a)).answer) (sides a.interface set past)

-- what it saw is a history, no later than that of both
pub record Seen (now : ℕ) (l : List Event) : Type 0 where
  pub taken : Taken l
  pub onward : latest l ≤ now

pub proper-seen : (b : Both) (a : Arrival) → Proper (bare a) → Proper (seen_as b a)
proper-seen b a p = record { size = p.size; bytes = p.bytes; early = p.early }

pub seen-taken : (i : Interface) (set : KeySettings) (past : List Arrival) → TakenBy past → Seen (latest_of past) (seen i set past)
seen-taken i set [] taken = record { taken = tt; onward = omega arith }
seen-taken i set (a ∷ past) taken =
    let k : Seen (latest_of past) (seen i set past) = seen-taken i set past taken.2 in
    only-known (λ o. Seen a.time (o (seen_as (after_by standard_both set past) a) (seen i set past))) a.interface i
    (λ q. record { taken = (proper-seen (after_by standard_both set past) a taken.0, omega arith, k.taken); onward = omega arith })
    (λ n. record { taken = k.taken; onward = omega arith })

-- and so is what it would see next
pub seen_next : (i : Interface) (set : KeySettings) (a : Arrival) (past : List Arrival) → TakenBy (a ∷ past) → Taken (seen_as (after_by standard_both set past) a ∷ seen i set past)
seen_next i set a past taken =
    let k : Seen (latest_of past) (seen i set past) = seen-taken i set past taken.2 in
    (proper-seen (after_by standard_both set past) a taken.0, omega (arith, k.onward, taken.1), k.taken)

-- ---- never two locks

-- a packet that meets a disabled transport alters nothing
hear-disabled : (d : Transport) (time : ℕ) (p : Packet) → (hear d time true p).state ≡ d
unfolding hear is_shut pick
hear-disabled d time p = pick-both (λ (n : Next Transport). n.state ≡ d) (is_valid d.allocated p) _ _ refl refl

-- from now on the two never run at once
abbrev pub Apart : (now : ℕ) → Lock → Lock → Type 0
Apart now l m = (time : ℕ) → now ≤ time → time < l.until → time < m.until → ⊥

pub apart-hear : (d : Transport) (l : Lock) (now t : ℕ) (p : Packet) → now ≤ t → Apart now d.lock l → Apart t (hear d t (is_locked l t) p).state.lock l
apart-hear d l now t p h k time g m v = by-lock (is_locked l t) refl
  where
    by-lock : (x : Bool) → is_locked l t ≡ x → ⊥
    by-lock true e =
        k time (omega arith) (subst (λ (o : Transport). time < o.lock.until) (ap (λ (x : Bool). (hear d t x p).state) e ∙ hear-disabled d t p) m) v
    by-lock false e = omega (arith, ltb-false t l.until e)

apart-step : (j : Interface) (t : ℕ) (p : List ℕ) (b : Both) (now : ℕ) → now ≤ t → Apart now b.main.lock b.vendor.lock → Apart t (both_step b (arrival j t p)).state.main.lock (both_step b (arrival j t p)).state.vendor.lock
apart-step main t p b now h k = apart-hear b.main b.vendor.lock now t (read p) h k
apart-step vendor t p b now h k = λ time g m v. apart-hear b.vendor b.main.lock now t (read p) h (λ u q x y. k u q y x) time g v m

apart-after : (set : KeySettings) (past : List Arrival) → TakenBy past → Apart (latest_of past) (after_by standard_both set past).main.lock (after_by standard_both set past).vendor.lock
apart-after set [] taken = λ time h m v. omega arith
apart-after set (a ∷ past) taken =
    apart-step a.interface a.time a.packet (after_by standard_both set past) (latest_of past) taken.1 (apart-after set past taken.2)

locked-runs : (l : Lock) (c time : ℕ) → is_locked_by l c time ≡ true → time < l.until
unfolding is_locked_by
locked-runs l c time h = ltb-true time l.until (pick_true (is_locked l time) (eqb l.holder c) h).0

pub both-never-two : NeverTwoLocks standard_both
both-never-two set permitted past taken time onward c o m v =
    apart-after set past taken time onward (locked-runs _ c time m) (locked-runs _ o time v)
