-- On each interface of a key transactions and locks end, no one is shut out for long, and unknown commands are told at once, as the single transport has it of what that
-- interface saw: of any key that is as the two transports are. Assumes nothing.
use Prim.Native.Nat.{ℕ, ◌+◌, ◌≤◌, ◌<◌}
use native.Mathlib.Omega.{arith}
use mathlib.Core.Path.{◌≡◌, refl, ap, sym, ◌∙◌}
use mathlib.Core.List.{List, [], ◌∷◌}
use mathlib.Core.Bool.{Bool, true, false}
use mathlib.Core.Logic.{◌⊎◌, inl, inr, ⊎_elim}
use borrow.Author.Tests.{eq-eqb}
use Rattle.ctaphid.specs.Choice.{pick}
use Rattle.ctaphid.specs.Commands.{LOCK}
use Rattle.ctaphid.specs.Transport.{Lock, Event, nothing, reply, is_locked, is_locked_by}
use Rattle.ctaphid.specs.Demands.{standard, on, First, Begun, Since, AsksLock, Locked, Holding, busy_on, HeldBy}
use Rattle.ctaphid.specs.Interfaces.{Interface, other, KeySettings, settings_on, Arrival, Both, side, is_hindered, seen_as}
use Rattle.ctaphid.specs.KeyDemands.{AnyKey, standard_both, KeyPermitted, bare, latest_of, TakenBy, after_by, answer_by, seen, Behind, SinceOn, LockedOn, TransactionsEndOnEach, HoldingOn, LocksEndOnEach, HeldOn, HeldAcross, NoneShutOutOnEach, UnknownToldOnEach}
use Rattle.ctaphid.proofs.Bounds.{transactions-end, locks-end}
use Rattle.ctaphid.proofs.Shut.{none-shut-out}
use Rattle.ctaphid.proofs.Unknown.{unknown-told-at-once}
use Rattle.ctaphid.proofs.Interfaces.{only-known, sides, Seen, seen-taken, seen_next}
use Rattle.ctaphid.proofs.Behind.{AsBoth, named-on}

asks-bare : (c k : ℕ) (b : Both) (a : Arrival) → AsksLock c k (seen_as b a) → AsksLock c k (bare a)
asks-bare c k b a h = record { channel = h.channel; command = h.command; high = h.high; low = h.low; seconds = h.seconds }

-- a lock that runs is its holder's
runs-holder : (l : Lock) (time : ℕ) → is_locked l time ≡ true → is_locked_by l l.holder time ≡ true
unfolding is_locked_by pick
runs-holder l time h = simp (h, eq-eqb l.holder l.holder refl)

-- ---- what the single transport's history says, the key's says of its interface
module _ {f : Behind} {D : AnyKey} (like : AsBoth f D) (set : KeySettings) (permitted : KeyPermitted set) where
  since-on : (i : Interface) (c time : ℕ) (first : Event) → on first ≡ c → time < first.time + 12800 → (past : List Arrival) → TakenBy past → Begun standard (settings_on set i) (seen i set past) first → SinceOn D set i c past time
  since-on i c time first channel within [] taken = λ b. absurd b
  since-on i c time first channel within (a ∷ past) taken =
      only-known (λ o. Begun standard (settings_on set i) (o (seen_as (after_by standard_both set past) a) (seen i set past)) first → SinceOn D set i c (a ∷ past) time) a.interface i
      (λ q.
      let same = named-on like set permitted past a taken q nothing refl in
      ⊎_elim
      (λ b. record { first = a; begun = inl (q, b.0, same.1 b.1, refl); channel = ap on b.2 ∙ channel; within = omega (arith, ap (λ (e : Event). e.time) b.2) })
      (λ b. older (λ p k z. b.0 k (same.0 z)) (since-on i c time first channel within past taken.2 b.1)))
      (λ n b. older (λ q. absurd (n q)) (since-on i c time first channel within past taken.2 b))
    where
      older : (a.interface ≡ i → First (bare a) → answer_by D set past a ≡ nothing → ⊥) → SinceOn D set i c past time → SinceOn D set i c (a ∷ past) time
      older h s = record { first = s.first; begun = inr (h, s.begun); channel = s.channel; within = s.within }

  locked-on : (i : Interface) (c k t : ℕ) (past : List Arrival) → TakenBy past → Locked standard (settings_on set i) c (seen i set past) k t → LockedOn D set i c past k t
  unfolding pick
  locked-on i c k t [] taken = λ b. b
  locked-on i c k t (a ∷ past) taken =
      only-known (λ o. Locked standard (settings_on set i) c (o (seen_as (after_by standard_both set past) a) (seen i set past)) k t → LockedOn D set i c (a ∷ past) k t) a.interface i
      (λ q.
      let same = named-on like set permitted past a taken q (reply c LOCK []) refl in
      ⊎_elim
      (λ b. inl (q, asks-bare c k (after_by standard_both set past) a b.0, same.1 b.1, b.2))
      (λ b. inr ((λ p z. b.0 (same.0 z)), locked-on i c k t past taken.2 b.1)))
      (λ n b. inr ((λ q. absurd (n q)), locked-on i c k t past taken.2 b))

  module _ (past : List Arrival) (taken : TakenBy past) (time : ℕ) (onward : latest_of past ≤ time) (i : Interface) where
    since : (c : ℕ) → Since 12800 standard (settings_on set i) c (seen i set past) time → SinceOn D set i c past time
    since c s = since-on i c time s.first s.channel s.within past taken s.begun

    holding : (c : ℕ) → Holding standard (settings_on set i) c (seen i set past) time → HoldingOn D set i c past time
    holding c h =
        record { seconds = h.seconds; start = h.start; locked = locked-on i c h.seconds h.start past taken h.locked; some = h.some; most = h.most; within = h.within }

    lock-ends : (c : ℕ) → standard_both.is_locked_by (after_by standard_both set past) i c time ≡ true → HoldingOn D set i c past time
    lock-ends c runs =
        let k : Seen (latest_of past) (seen i set past) = seen-taken i set past taken in
        holding c (locks-end (settings_on set i) (permitted i) (seen i set past) k.taken time (omega (arith, k.onward)) c (rw (sides i set past) at runs))

-- ---- so the bounds are the single transport's
module _ {f : Behind} {D : AnyKey} (like : AsBoth f D) where
  pub transactions-end-on-each : TransactionsEndOnEach D
  transactions-end-on-each set permitted past taken time onward i c live =
      let k : Seen (latest_of past) (seen i set past) = seen-taken i set past taken in
      since like set permitted past taken time onward i c
      (transactions-end (settings_on set i) (permitted i) (seen i set past) k.taken time (omega (arith, k.onward)) c
      (rw (sides i set past) at (sym (like.alike set permitted past taken time onward i c).0 ∙ live)))

  pub locks-end-on-each : LocksEndOnEach D
  locks-end-on-each set permitted past taken time onward i c runs =
      lock-ends like set permitted past taken time onward i c (sym (like.alike set permitted past taken time onward i c).1 ∙ runs)

  pub none-shut-out-on-each : NoneShutOutOnEach D
  unfolding pick
  none-shut-out-on-each set permitted past a taken told = by-lock (is_hindered b i a.time) refl
    where
      b : Both
      b = after_by standard_both set past

      i : Interface
      i = a.interface

      by-lock : (x : Bool) → is_hindered b i a.time ≡ x → HeldOn D set i past (on (bare a)) a.time ⊎ HeldAcross D set i past a.time
      by-lock true e =
          let l : Lock = (side b (other i)).lock in
          inr (record { holder = l.holder; holds = lock-ends like set permitted past taken.2 a.time taken.1 (other i) l.holder (runs-holder l a.time e) })
      by-lock false e =
          let h : HeldBy standard (settings_on set i) (seen i set past) (on (bare a)) a.time =
          none-shut-out (settings_on set i) (permitted i) (seen i set past) (seen_as b a) (seen_next i set a past taken) e
          ((named-on like set permitted past a taken refl (busy_on (on (bare a))) refl).0 told) in
          inl (record {
            holder = h.holder;
            another = h.another;
            holds =
                ⊎_elim
                (λ s. inl (since like set permitted past taken.2 a.time taken.1 i h.holder s))
                (λ s. inr (holding like set permitted past taken.2 a.time taken.1 i h.holder s))
                h.holds;
          })

  pub unknown-told-on-each : UnknownToldOnEach D
  unknown-told-on-each set permitted past a taken first hushed =
      unknown-told-at-once (settings_on set a.interface) (permitted a.interface) (seen a.interface set past) (seen_as (after_by standard_both set past) a)
      (seen_next a.interface set a past taken) first
      ((named-on like set permitted past a taken refl nothing refl).0 hushed)
