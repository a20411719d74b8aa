-- What a `return` of set-up meets. Assumes nothing.
use Prim.Native.Nat.{ℕ, ◌≤◌, ◌<◌}
use native.Mathlib.Omega.{arith}
use mathlib.Core.Path.{◌≡◌, refl, sym, ap, ◌∙◌}
use mathlib.Core.List.{List}
use mathlib.Core.Bool.{Bool, true, false, not}
use borrow.Author.Tests.{lt-ltb, le-ltb}
use lib.Dec.{ltb}
use Rattle.ctaphid.specs.Choice.{pick}
use Rattle.known.specs.declared.vendor.Listed.{Listed}
use Rattle.known.specs.declared.vendor.Listed.TheVariants.{Bits, Foreign}
use Rattle.known.specs.Vendor.{all_vendor, bits_of, listed_of}
use Rattle.hid.specs.declared.CtapHid.{CtapHid}
use Rattle.hid.specs.declared.Ready.{Ready}
use Rattle.hid.specs.declared.Ready.TheVariants as transport
use Rattle.hid.specs.declared.MainReady.{MainReady}
use Rattle.hid.specs.declared.MainReady.TheVariants as device
use Rattle.hid.specs.SetUp.{fresh_with, fresh_hid, fresh_main, new_of, main_new_of}

-- ---- a transport
module _ (max : ℕ) (u2f : Bool) (l : List ℕ) where
  pub new-5 : 7609 < max → transport.Refused 5 ≡ new_of max u2f l
  unfolding new_of pick
  new-5 h = simp (lt-ltb 7609 max h)

  module _ (most : max ≤ 7609) {x : Listed} (is : x ≡ listed_of l) where
    pub new-13 : x ≡ Foreign → transport.Refused 13 ≡ new_of max u2f l
    unfolding new_of listed_of pick
    new-13 e = by-list (all_vendor l) refl (sym is ∙ e)
      where
        by-list : (b : Bool) → all_vendor l ≡ b → pick b (Bits (bits_of l)) Foreign ≡ Foreign → transport.Refused 13 ≡ new_of max u2f l
        by-list true a k = let z : ◌≡◌ {A = ℕ} 0 1 = cc in absurd (omega arith)
        by-list false a k = simp (le-ltb 7609 max most, a)

    pub new-made : {bits : ℕ} (s : CtapHid) → x ≡ Bits bits → s ≡ fresh_with max u2f bits → transport.Hid s ≡ new_of max u2f l
    unfolding new_of listed_of pick
    new-made {bits} s e k = by-list (all_vendor l) refl (sym is ∙ e)
      where
        by-list : (b : Bool) → all_vendor l ≡ b → pick b (Bits (bits_of l)) Foreign ≡ Bits bits → transport.Hid s ≡ new_of max u2f l
        by-list true a h =
            let same : bits_of l ≡ bits = cc in
            simp (le-ltb 7609 max most, a) (ap transport.Hid (k ∙ ap (fresh_with max u2f) (sym same)))
        by-list false a h = let z : ◌≡◌ {A = ℕ} 0 1 = cc in absurd (omega arith)

-- ---- a device over it
abbrev over : Ready → MainReady
over (transport.Hid s) = device.Hid (record { hid = s; wink = 0 })
over (transport.Refused number) = device.Refused number

module _ (max : ℕ) (u2f : Bool) (l : List ℕ) {x : Ready} (is : x ≡ new_of max u2f l) where
  over-new : over (new_of max u2f l) ≡ main_new_of max u2f l
  unfolding new_of main_new_of pick
  over-new = by_tests (ltb 7609 max) (not (all_vendor l))
    where
      by_tests : (a b : Bool) → over (pick a (transport.Refused 5) (pick b (transport.Refused 13) (transport.Hid (fresh_hid max u2f l)))) ≡ pick a (device.Refused 5) (pick b (device.Refused 13) (device.Hid (fresh_main max u2f l)))
      by_tests true b = refl
      by_tests false true = refl
      by_tests false false = refl

  pub main-made : {s : CtapHid} → x ≡ transport.Hid s → device.Hid (record { hid = s; wink = 0 }) ≡ main_new_of max u2f l
  main-made e = ap over (sym e ∙ is) ∙ over-new

  pub main-refused : {n : ℕ} → x ≡ transport.Refused n → device.Refused n ≡ main_new_of max u2f l
  main-refused e = ap over (sym e ∙ is) ∙ over-new

pub ruleset setting_up = (new-5, new-13, new-made, main-made, main-refused)
