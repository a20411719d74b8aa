-- What a `return` of set-up meets. Assumes nothing.
use Prim.Native.Nat.{ℕ, ◌≤◌, ◌<◌}
use mathlib.Core.Path.{◌≡◌, refl, sym, ap, ◌∙◌}
use mathlib.Core.List.{List}
use mathlib.Core.Bool.{Bool}
use borrow.Author.Tests.{lt-ltb, le-ltb}
use Rattle.ctaphid.specs.Choice.{pick, refusing}
use Rattle.ctaphid.proofs.Tests.{no-pick}
use Rattle.ctaphid.proofs.Refusing.{same_way}
use Rattle.receive.specs.declared.MessageAssembler.{MessageAssembler}
use Rattle.receive.specs.Meaning.{none}
use Rattle.hid.specs.declared.MainHid.{MainHid}
use Rattle.hid.specs.declared.MainReady.{MainReady}
use Rattle.hid.specs.declared.MainReady.TheVariants as device
use Rattle.hid.specs.SetUp.{fresh_main, set_up_refusals, main_new_of}
use Rattle.key.specs.declared.VendorHid.{VendorHid}
use Rattle.key.specs.declared.KeyReady.{KeyReady}
use Rattle.key.specs.declared.KeyReady.TheVariants.{Key, Refused}
use Rattle.key.specs.SetUp.{fresh_vendor, fresh_key, key_new_of}

abbrev vendor_with : MessageAssembler → (maximum : ℕ) → VendorHid
vendor_with a max = record { assembler = a; lock = 0; allocated = 0; locked = 0; max = max; spare = 0; still_due = 0 }

pub fresh-vendor : (max : ℕ) (a : MessageAssembler) → a ≡ none → vendor_with a max ≡ fresh_vendor max
fresh-vendor max a is = ap (λ (t : MessageAssembler). vendor_with t max) is

-- a vendor beside what main's set-up said
abbrev beside : VendorHid → MainReady → KeyReady
beside v (device.Hid o) = Key (record { main = o; vendor = v })
beside v (device.Refused number) = Refused number

module _ (m v : ℕ) (u2f : Bool) (l : List ℕ) where
  pub key-5 : 7609 < v → Refused 5 ≡ key_new_of m v u2f l
  unfolding key_new_of pick
  key-5 h = simp (lt-ltb 7609 v h)

  module _ (most : v ≤ 7609) {x : MainReady} (is : x ≡ main_new_of m u2f l) where
    beside-new : beside (fresh_vendor v) (main_new_of m u2f l) ≡ key_new_of m v u2f l
    unfolding main_new_of key_new_of
    beside-new =
        let same : beside (fresh_vendor v) (main_new_of m u2f l) ≡ refusing Refused (set_up_refusals m l) (Key (fresh_key m v u2f l)) =
        same_way (λ (o : MainReady) (k : KeyReady). beside (fresh_vendor v) o ≡ k) device.Refused Refused (set_up_refusals m l) (device.Hid (fresh_main m u2f l)) (Key (fresh_key m v u2f l)) (λ n. refl) (λ passed. refl) in
        no-pick _ _ _ _ (le-ltb 7609 v most) same

    pub key-made : {o : MainHid} (w : VendorHid) → x ≡ device.Hid o → w ≡ fresh_vendor v → Key (record { main = o; vendor = w }) ≡ key_new_of m v u2f l
    key-made {o} w e k = ap (λ (t : VendorHid). beside t (device.Hid o)) k ∙ (ap (beside (fresh_vendor v)) (sym e ∙ is) ∙ beside-new)

    pub key-refused : {n : ℕ} → x ≡ device.Refused n → Refused n ≡ key_new_of m v u2f l
    key-refused e = ap (beside (fresh_vendor v)) (sym e ∙ is) ∙ beside-new

pub ruleset ready = (key-5, key-made, key-refused)
