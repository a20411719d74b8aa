-- A key's soundness: the test and the facts agree, and what each interface makes of it. Assumes nothing.
use Prim.Native.Nat.{ℕ, ◌≤◌, ◌<◌}
use native.Mathlib.Omega.{arith}
use native.Mathlib.Decide.{dec_lt}
use mathlib.Core.Path.{◌≡◌, refl, sym, ap, ◌∙◌}
use mathlib.Core.Bool.{Bool, true, false, true≢false}
use borrow.Author.Tests.{leb-true, eqb-true, lt-ltb, le-ltb, le-leb, lt-leb}
use lib.Dec.{leb, eqb}
use Rattle.ctaphid.specs.Choice.{pick}
use Rattle.ctaphid.proofs.Tests.{pick_true, pick_known}
use Rattle.hid.specs.declared.CtapHid.{CtapHid}
use Rattle.hid.specs.Soundness.{Sound, is_sound}
use Rattle.hid.proofs.Sound.{sound-is, is-sound}
use Rattle.hid.proofs.Counting.{due-0}
use Rattle.key.specs.declared.Key.{Key}
use Rattle.key.specs.Meaning.{vendor_in}
use Rattle.key.specs.Soundness.{KeySound, is_apart, is_fit, is_key_sound, is_quiet}

-- ---- not two locks
module _ (last one another : ℕ) where
  pub apart-one : one ≤ last → is_apart last one another ≡ true
  unfolding is_apart pick
  apart-one h = simp (le-ltb last one h)

  pub apart-another : another ≤ last → is_apart last one another ≡ true
  unfolding is_apart
  apart-another h = pick_known (λ (b : Bool). b ≡ true) _ (leb another last) true (λ e. le-leb another last h) (λ e. refl)

  pub apart-neither : last < one → last < another → is_apart last one another ≡ false
  unfolding is_apart pick
  apart-neither h k = simp (lt-ltb last one h) (lt-leb another last k)

  apart-is : is_apart last one another ≡ true → last < one → last < another → ⊥
  apart-is e h k = true≢false (sym e ∙ apart-neither h k)

  is-apart : (last < one → last < another → ⊥) → is_apart last one another ≡ true
  is-apart never = by-lock (dec_lt last one)
    where
      by-lock : Dec (last < one) → is_apart last one another ≡ true
      by-lock (yes h) = let still : last < another → ⊥ = never h in apart-another (omega (arith, still))
      by-lock (no h) = apart-one (omega (arith, h))

-- whichever comes first
apart-either : (last one another : ℕ) → is_apart last one another ≡ is_apart last another one
apart-either last one another = by-locks (dec_lt last one) (dec_lt last another)
  where
    by-locks : Dec (last < one) → Dec (last < another) → is_apart last one another ≡ is_apart last another one
    by-locks (yes h) (yes k) = apart-neither last one another h k ∙ sym (apart-neither last another one k h)
    by-locks (no h) k = apart-one last one another (omega (arith, h)) ∙ sym (apart-another last another one (omega (arith, h)))
    by-locks (yes h) (no k) = apart-another last one another (omega (arith, k)) ∙ sym (apart-one last another one (omega (arith, k)))

-- ---- a quiet interface is fit, where the last time can be
module _ (s : CtapHid) (wink : ℕ) (quiet : is_quiet s wink ≡ true) where
  quiet-sound : s.last ≤ 0xffff_ffff_ffff → Sound s wink
  unfolding is_quiet
  quiet-sound early =
      let p₁ = pick_true (leb s.lock s.last) _ quiet in
      let p₂ = pick_true (leb wink s.last) _ p₁.1 in
      let p₃ = pick_true (eqb s.still_due 0) _ p₂.1 in
      let p₄ = pick_true (leb s.max 7609) _ p₃.1 in
      let p₅ = pick_true (leb s.allocated 0xffff_fffe) _ p₄.1 in
      let p₆ = pick_true (leb s.assembler.deadline s.last) _ p₅.1 in
      let lock : s.lock ≤ s.last = leb-true _ _ p₁.0 in
      let wink : wink ≤ s.last = leb-true _ _ p₂.0 in
      let deadline : s.assembler.deadline ≤ s.last = leb-true _ _ p₆.0 in
      let none : s.assembler.len ≡ 0 = eqb-true _ _ p₆.1 in
      record {
        maximum = leb-true _ _ p₄.0;
        count = leb-true _ _ p₅.0;
        last = early;
        deadline = omega (arith, deadline);
        lock = omega (arith, lock);
        wink = omega (arith, wink);
        holder = λ running. absurd (omega (arith, running, lock));
        transaction = λ some. absurd (some none);
        due = eqb-true _ _ p₃.0 ∙ due-0 s.assembler none;
        channel = λ some. absurd (some none);
      }

  pub quiet-fit : (lock : ℕ) → s.last ≤ 0xffff_ffff_ffff → is_fit s wink lock ≡ true
  unfolding is_fit is_quiet pick
  quiet-fit lock early =
      let still : s.lock ≤ s.last = leb-true _ _ (pick_true (leb s.lock s.last) _ quiet).0 in
      simp (apart-one s.last s.lock lock still) (is-sound s wink (quiet-sound early))

-- ---- by each interface in turn

-- three tests of which all hold, in another order
turned : (a b c : Bool) → pick a (pick b c false) false ≡ pick c (pick b a false) false
unfolding pick
turned true true true = refl
turned true true false = refl
turned true false true = refl
turned true false false = refl
turned false true true = refl
turned false true false = refl
turned false false true = refl
turned false false false = refl

pub sound-by-vendor : (k : Key) → is_key_sound k ≡ pick (is_sound (vendor_in k) 0) (is_fit k.main.hid k.main.wink k.vendor.lock) false
unfolding is_key_sound is_fit
sound-by-vendor k =
    turned (is_sound k.main.hid k.main.wink) (is_apart k.main.hid.last k.vendor.lock k.main.hid.lock) (is_sound (vendor_in k) 0)
    ∙ ap (λ (b : Bool). pick (is_sound (vendor_in k) 0) (pick b (is_sound k.main.hid k.main.wink) false) false) (apart-either k.main.hid.last k.vendor.lock k.main.hid.lock)

-- ---- the test and the facts
module _ (k : Key) where
  pub key-sound-is : is_key_sound k ≡ true → KeySound k
  unfolding is_key_sound is_fit
  key-sound-is e =
      let p₁ = pick_true (is_sound k.main.hid k.main.wink) _ e in
      let p₂ = pick_true (is_apart k.main.hid.last k.vendor.lock k.main.hid.lock) _ p₁.1 in
      record {
        main = sound-is k.main.hid k.main.wink p₁.0;
        vendor = sound-is (vendor_in k) 0 p₂.1;
        apart = λ one another. apart-is k.main.hid.last k.vendor.lock k.main.hid.lock p₂.0 another one;
      }

  pub is-key-sound : KeySound k → is_key_sound k ≡ true
  unfolding is_key_sound is_fit pick
  is-key-sound t =
      simp (is-sound k.main.hid k.main.wink t.main, is-apart k.main.hid.last k.vendor.lock k.main.hid.lock (λ another one. t.apart one another))
      (is-sound (vendor_in k) 0 t.vendor)

-- ---- what a `return` of the tests meets
module _ (s : CtapHid) (wink lock : ℕ) where
  pub fit-neither : s.last < s.lock → s.last < lock → false ≡ is_fit s wink lock
  unfolding is_fit pick
  fit-neither h k = simp (apart-neither s.last s.lock lock h k)

  module _ (b : Bool) (e : b ≡ is_sound s wink) where
    pub fit-one : s.lock ≤ s.last → b ≡ is_fit s wink lock
    unfolding is_fit pick
    fit-one h = simp (apart-one s.last s.lock lock h) e

    pub fit-another : lock ≤ s.last → b ≡ is_fit s wink lock
    unfolding is_fit pick
    fit-another h = simp (apart-another s.last s.lock lock h) e

pub ruleset fits = (fit-neither, fit-one, fit-another)

module _ (k : Key) (b : Bool) (e : b ≡ is_sound k.main.hid k.main.wink) where
  pub key-unsound : b ≡ false → false ≡ is_key_sound k
  unfolding is_key_sound pick
  key-unsound f = simp (sym e ∙ f)

  pub key-fit : b ≡ true → (v : CtapHid) → v ≡ vendor_in k → (r : Bool) → r ≡ is_fit v 0 k.main.hid.lock → r ≡ is_key_sound k
  unfolding is_key_sound pick
  key-fit t v is r h = simp (sym e ∙ t) (h ∙ ap (λ (s : CtapHid). is_fit s 0 k.main.hid.lock) is)

pub ruleset key-tests = (key-unsound, key-fit)
