-- Set-up: count 0, last time 0, and no transaction, lock or wink. Assumes nothing.
use Rattle.std.specs.Prelude.{ℕ, List, [], ◌∷◌, Bool, cond, not, ltb}
use Rattle.ctaphid.specs.Choice.{refusing}
use Rattle.ctaphid.specs.Limits.{largest}
use Rattle.known.specs.Vendor.{all_vendor, bits_of}
use Rattle.receive.specs.Meaning.{none}
use Rattle.hid.specs.declared.CtapHid.{CtapHid}
use Rattle.hid.specs.declared.MainHid.{MainHid}
use Rattle.hid.specs.declared.Ready.{Ready}
use Rattle.hid.specs.declared.Ready.TheVariants as transport
use Rattle.hid.specs.declared.MainReady.{MainReady}
use Rattle.hid.specs.declared.MainReady.TheVariants as device

abbrev pub fresh_with : (maximum : ℕ) → (u2f : Bool) → (bits : ℕ) → CtapHid
fresh_with max u2f bits =
    record { assembler = none; lock = 0; last = 0; vendor = bits; allocated = 0; locked = 0; max = max; u2f = cond u2f 1 0; spare = 0; still_due = 0 }

abbrev pub fresh_hid : (maximum : ℕ) → (u2f : Bool) → (vendor : List ℕ) → CtapHid
fresh_hid max u2f numbers = fresh_with max u2f (bits_of numbers)

abbrev pub fresh_main : (maximum : ℕ) → (u2f : Bool) → (vendor : List ℕ) → MainHid
fresh_main max u2f numbers = record { hid = fresh_hid max u2f numbers; wink = 0 }

-- 5, a maximum above 7,609; 13, a number that isn't the vendor's
abbrev pub set_up_refusals : (maximum : ℕ) → (vendor : List ℕ) → List (Bool × ℕ)
set_up_refusals max numbers = (ltb largest max, 5) ∷ (not (all_vendor numbers), 13) ∷ []

unfoldable pub new_of : (maximum : ℕ) → (u2f : Bool) → (vendor : List ℕ) → Ready
new_of max u2f numbers = refusing transport.Refused (set_up_refusals max numbers) (transport.Hid (fresh_hid max u2f numbers))

unfoldable pub main_new_of : (maximum : ℕ) → (u2f : Bool) → (vendor : List ℕ) → MainReady
main_new_of max u2f numbers = refusing device.Refused (set_up_refusals max numbers) (device.Hid (fresh_main max u2f numbers))
