-- A caller that lends as it must wherever the buffers that were left are long enough lends well; and so do those that leave the buffers alone, or overwrite all that
-- they may. Assumes nothing.
use Prim.Native.Nat.{ℕ, ◌+◌, ◌-◌, ◌≤◌, ◌<◌}
use native.Mathlib.Omega.{arith}
use native.Mathlib.Decide.{dec_lt, ℕ_discrete}
use mathlib.Core.Path.{◌≡◌, refl, sym, ap, subst, ◌∙◌}
use mathlib.Core.List.{List, [], ◌∷◌}
use borrow.Author.Tests.{eq-eqb, ne_eqb, lt-ltb, le-ltb}
use lib.ListN.{length, take, replicate, length-append, length-replicate}
use lib.Seq.{length-take-le, take_at}
use Rattle.ctaphid.specs.Choice.{pick}
use Rattle.ctaphid.specs.Settings.{Settings}
use Rattle.ctaphid.specs.Transport.{Event}
use Rattle.ctaphid.specs.Demands.{Permitted, Taken, after}
use Rattle.hid.specs.declared.CtapHid.{CtapHid}
use Rattle.hid.specs.Soundness.{Sound}
use Rattle.runs.specs.Steps.{Buffers, buffers, Roomy}
use Rattle.runs.specs.Lending.{On, Lends}
use Rattle.runs.specs.Share.{Held, Caller, code, LendsWell}
use Rattle.runs.specs.Callers.{unless_first, untouched, owed, overwritten, scribbling, UntouchedGivesShare, FixedGivesShare, ScribblingGivesShare}
use Rattle.runs.proofs.Refines.{leaves}
use Rattle.runs.proofs.Shared.{Stands, LentSoFar, comes, stands, code-gives-share}

-- after the first call the buffers that were left are long enough; before it there is no transaction
abbrev Left : Held → List Event → Type 0
Left h [] = h.hid.assembler.len ≡ 0
Left h (e ∷ past) = Roomy h.hid h.left

pub record Ready (h : Held) : Type 0 where
  pub sound : Sound h.hid 0
  pub left : Left h h.past

abbrev pub Careful : Caller → Type 0
Careful lent = (h : Held) (e : Event) → Ready h → Lends h.hid e.time h.left.message (lent h e)

module _ (lent : Caller) (careful : Careful lent) (set : Settings) (most : Permitted set) where
  abbrev at : List Event → Held
  at past = after (code lent) set past

  both : (past : List Event) → Taken past → LentSoFar lent set most past × Ready (at past)
  both [] taken = (tt, record { sound = (stands lent set most [] taken tt).follows.sound; left = refl })
  both (e ∷ past) taken =
      let h : Held = at past in
      let ih = both past taken.2 in
      let lends : Lends h.hid e.time h.left.message (lent h e) = careful h e ih.1 in
      let s : Stands set past h = stands lent set most past taken.2 ih.0 in
      let l = leaves h.hid e (lent h e) s.follows.sound (comes past e taken h.hid.last s.last) lends.roomy in (
        (lends, ih.0),
        record {
          sound = (stands lent set most (e ∷ past) taken (lends, ih.0)).follows.sound;
          left = record { message = omega (arith, l.max, l.message, lends.roomy.message); short = omega (arith, l.short, lends.roomy.short) };
        },
      )

pub careful-lends-well : (lent : Caller) → Careful lent → LendsWell lent
careful-lends-well lent careful set most past e taken = careful (after (code lent) set past) e (both lent careful set most past taken.2).1

-- ---- lent back untouched
pub untouched-careful : (first : (maximum : ℕ) → Buffers) → ((max : ℕ) → max ≤ 7609 → (max ≤ length (first max).message) × (17 ≤ length (first max).short)) → Careful (untouched first)
untouched-careful first long h e ready = by-past h.past ready.left
  where
    by-past : (past : List Event) → Left h past → Lends h.hid e.time h.left.message (unless_first past (first h.hid.max) h.left)
    by-past [] none =
        let there = long h.hid.max ready.sound.maximum in
        record { roomy = record { message = there.0; short = there.1 }; kept = λ on. absurd (on.begun none) }
    by-past (f ∷ past) roomy = record { roomy = roomy; kept = λ on. refl }

pub untouched-gives-share : UntouchedGivesShare
untouched-gives-share first long = code-gives-share (untouched first) (careful-lends-well (untouched first) (untouched-careful first long))

pub fixed-gives-share : FixedGivesShare
fixed-gives-share m r long roomy = untouched-gives-share (λ max. buffers m r) (λ max most. (omega arith, roomy))

-- ---- overwritten

-- so many bytes were left, and the maximum is no lower
module _ (h : Held) (kept : ℕ) (there : kept ≤ length h.left.message) (most : kept ≤ h.hid.max) where
  abbrev b : Buffers
  b = overwritten kept h

  size : length (take kept h.left.message) ≡ kept
  size = length-take-le kept h.left.message there

  overwritten-roomy : Roomy h.hid b
  overwritten-roomy =
      let all : length b.message ≡ kept + (h.hid.max - kept) = simp (length-append, size, length-replicate) in
      let short : length b.short ≡ 17 = refl in
      record { message = omega arith; short = omega arith }

  overwritten-kept : take kept b.message ≡ take kept h.left.message
  overwritten-kept = take_at (take kept h.left.message) (replicate (h.hid.max - kept) 0xee) kept size

pub scribbling-careful : Careful scribbling
unfolding pick
scribbling-careful h e ready = by-len (ℕ_discrete s.assembler.len 0)
  where
    s : CtapHid
    s = h.hid

    Out : Type 0
    Out = Lends s e.time h.left.message (scribbling h e)

    -- where nothing is owed
    none : owed s e.time ≡ 0 → (On s e.time → ⊥) → Out
    none z off = record {
      roomy = subst (λ (k : ℕ). Roomy s (overwritten k h)) (sym z) (overwritten-roomy h 0 (omega arith) (omega arith));
      kept = λ on. absurd (off on);
    }

    by-time : (s.assembler.len ≡ 0 → ⊥) → Dec (e.time < s.assembler.deadline) → Out
    by-time some (no over) = none (simp (ne_eqb _ _ some, le-ltb e.time s.assembler.deadline (omega arith))) (λ on. over on.live)
    by-time some (yes live) =
        let z : owed s e.time ≡ s.assembler.taken = simp (ne_eqb _ _ some, lt-ltb e.time s.assembler.deadline live) in
        let t = ready.sound.transaction some in
        let low : s.assembler.taken ≤ s.max = omega (arith, t.lengths.below, t.lengths.bytes, t.lengths.within) in
        let long : s.max ≤ length h.left.message = roomy h.past ready.left in
        record {
          roomy = subst (λ (k : ℕ). Roomy s (overwritten k h)) (sym z) (overwritten-roomy h s.assembler.taken (omega arith) low);
          kept = λ on. ap (λ (k : ℕ). take s.assembler.taken (overwritten k h).message) z ∙ overwritten-kept h s.assembler.taken (omega arith) low;
        }
      where
        roomy : (past : List Event) → Left h past → s.max ≤ length h.left.message
        roomy [] z = absurd (some z)
        roomy (f ∷ past) r = r.message

    by-len : Dec (s.assembler.len ≡ 0) → Out
    by-len (yes z) = none (simp (eq-eqb _ _ z)) (λ on. on.begun z)
    by-len (no some) = by-time some (dec_lt e.time s.assembler.deadline)

pub scribbling-gives-share : ScribblingGivesShare
scribbling-gives-share = code-gives-share scribbling (careful-lends-well scribbling scribbling-careful)
