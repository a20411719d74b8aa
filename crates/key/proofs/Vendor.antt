-- Vendor as the transport that it is. Assumes nothing.
use Prim.Native.Nat.{ℕ}
use mathlib.Core.Path.{◌≡◌, ap}
use Rattle.hid.specs.declared.CtapHid.{CtapHid}
use Rattle.key.specs.declared.Key.{Key}
use Rattle.key.specs.Meaning.{vendor_in, vendor_by}

-- with what main has for both
abbrev sharing : CtapHid → (bits u2f spare : ℕ) → CtapHid
sharing s bits u2f spare =
    record { assembler = s.assembler; lock = s.lock; last = s.last; vendor = bits; allocated = s.allocated; locked = s.locked; max = s.max; u2f = u2f; spare = spare; still_due = s.still_due }

pub vendor-parts : (k : Key) (v : CtapHid) → v ≡ vendor_by k.vendor k.main.hid.last → sharing v k.main.hid.vendor k.main.hid.u2f k.main.hid.spare ≡ vendor_in k
vendor-parts k v is = ap (λ (s : CtapHid). sharing s k.main.hid.vendor k.main.hid.u2f k.main.hid.spare) is
