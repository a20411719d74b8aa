-- The last time that a step meets, by the other interface, and what it says of the key's soundness. Assumes nothing.
use Prim.Native.Nat.{ℕ, ◌≤◌}
use native.Mathlib.Omega.{arith}
use mathlib.Core.Path.{◌≡◌, refl, sym, ap, subst, ◌∙◌}
use mathlib.Core.Bool.{Bool, true, false}
use mathlib.Core.Logic.{◌⊎◌, inl, inr}
use Rattle.ctaphid.specs.Choice.{pick}
use Rattle.ctaphid.proofs.Tests.{pick_same}
use Rattle.hid.specs.declared.CtapHid.{CtapHid}
use Rattle.hid.specs.Soundness.{is_sound}
use Rattle.hid.proofs.Sound.{sound-is}
use Rattle.key.specs.declared.Key.{Key}
use Rattle.key.specs.Meaning.{vendor_in, vendor_by, with_last}
use Rattle.key.specs.Soundness.{is_fit, is_key_sound, is_quiet}
use Rattle.key.specs.Stepping.{never, last_beside}
use Rattle.key.proofs.Sound.{quiet-fit, sound-by-vendor}

-- ---- what a `return` meets
module _ (s : CtapHid) (wink lock : ℕ) (b : Bool) (e : b ≡ is_fit s wink lock) where
  pub beside-fit : b ≡ true → s.last ≡ last_beside s wink lock
  unfolding last_beside pick
  beside-fit t = simp (sym e ∙ t)

  pub beside-unfit : b ≡ false → never ≡ last_beside s wink lock
  unfolding last_beside pick
  beside-unfit f = simp (sym e ∙ f)

pub ruleset beside = (beside-fit, beside-unfit)

pub beside-vendor : (k : Key) (v : CtapHid) → v ≡ vendor_in k → (last : ℕ) → last ≡ last_beside v 0 k.main.hid.lock → last ≡ last_beside (vendor_in k) 0 k.main.hid.lock
beside-vendor k v is last e = e ∙ ap (λ (s : CtapHid). last_beside s 0 k.main.hid.lock) is

-- ---- the state that a step meets

-- the interface as it is, and the key is as sound as it; or with a last time that there isn't, and the key is not sound
pub record Meets (s : CtapHid) (wink : ℕ) (sound : Bool) (own : CtapHid) : Type 0 where
  pub last : ℕ
  pub is : own ≡ with_last s last
  pub how : ((last ≡ s.last) × (sound ≡ is_sound s wink)) ⊎ ((last ≡ never) × (sound ≡ false))

alone : (a : Bool) → pick a true false ≡ a
unfolding pick
alone true = refl
alone false = refl

module _ (s : CtapHid) (wink : ℕ) (other : CtapHid) (theirs : ℕ) (same : other.last ≡ s.last) where
  abbrev whole : Bool
  whole = pick (is_sound s wink) (is_fit other theirs s.lock) false

  -- a quiet interface alters nothing
  meets-quiet : is_quiet other theirs ≡ true → (own : CtapHid) → own ≡ s → Meets s wink whole own
  unfolding pick
  meets-quiet quiet own is = record { last = s.last; is = is; how = inl (refl, by-sound (is_sound s wink) refl) }
    where
      by-sound : (b : Bool) → is_sound s wink ≡ b → pick b (is_fit other theirs s.lock) false ≡ b
      by-sound true e =
          let early : s.last ≤ 0xffff_ffff_ffff = (sound-is s wink e).last in
          quiet-fit other theirs quiet s.lock (omega (arith, same, early))
      by-sound false e = refl

  meets-beside : (last : ℕ) → last ≡ last_beside other theirs s.lock → (own : CtapHid) → own ≡ with_last s last → Meets s wink whole own
  unfolding last_beside pick
  meets-beside last e own is = by-fit (is_fit other theirs s.lock) refl
    where
      by-fit : (b : Bool) → is_fit other theirs s.lock ≡ b → Meets s wink whole own
      by-fit true f = record { last = last; is = is; how = inl (e ∙ (ap (λ (b : Bool). pick b other.last never) f ∙ same), ap (λ (b : Bool). pick (is_sound s wink) b false) f ∙ alone (is_sound s wink)) }
      by-fit false f = record { last = last; is = is; how = inr (e ∙ ap (λ (b : Bool). pick b other.last never) f, ap (λ (b : Bool). pick (is_sound s wink) b false) f ∙ pick_same (is_sound s wink) false) }

-- ---- main's step, and vendor's
module _ (k : Key) where
  abbrev MeetsMain : CtapHid → Type 0
  MeetsMain own = Meets k.main.hid k.main.wink (is_key_sound k) own

  pub main-quiet : (v : CtapHid) → v ≡ vendor_by k.vendor k.main.hid.last → (b : Bool) → b ≡ is_quiet v 0 → b ≡ true → (own : CtapHid) → own ≡ k.main.hid → MeetsMain own
  unfolding is_key_sound is_quiet
  main-quiet v is b e f own same =
      let quiet : is_quiet (vendor_in k) 0 ≡ true = ap (λ (s : CtapHid). is_quiet s 0) (sym is) ∙ (sym e ∙ f) in
      meets-quiet k.main.hid k.main.wink (vendor_in k) 0 refl quiet own same

  pub main-beside : (last : ℕ) → last ≡ last_beside (vendor_in k) 0 k.main.hid.lock → (own : CtapHid) → own ≡ with_last k.main.hid last → MeetsMain own
  unfolding is_key_sound
  main-beside = meets-beside k.main.hid k.main.wink (vendor_in k) 0 refl

  abbrev MeetsVendor : CtapHid → Type 0
  MeetsVendor own = Meets (vendor_in k) 0 (is_key_sound k) own

  pub vendor-quiet : (v : CtapHid) → v ≡ vendor_in k → (b : Bool) → b ≡ is_quiet k.main.hid k.main.wink → b ≡ true → (own : CtapHid) → own ≡ v → MeetsVendor own
  vendor-quiet v is b e f own same =
      subst (λ (sound : Bool). Meets (vendor_in k) 0 sound own) (sym (sound-by-vendor k))
      (meets-quiet (vendor_in k) 0 k.main.hid k.main.wink refl (sym e ∙ f) own (same ∙ is))

  pub vendor-beside : (v : CtapHid) → v ≡ vendor_in k → (last : ℕ) → last ≡ last_beside k.main.hid k.main.wink k.vendor.lock → (own : CtapHid) → own ≡ with_last v last → MeetsVendor own
  vendor-beside v is last e own same =
      subst (λ (sound : Bool). Meets (vendor_in k) 0 sound own) (sym (sound-by-vendor k))
      (meets-beside (vendor_in k) 0 k.main.hid k.main.wink refl last e own (same ∙ ap (λ (s : CtapHid). with_last s last) is))

pub ruleset meeting = (main-quiet, main-beside, vendor-quiet, vendor-beside)
