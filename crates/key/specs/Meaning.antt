-- What a key's numbers mean: vendor as a transport, and the key at the standard's level; and the key with an interface as a step leaves it. Assumes nothing.
use Rattle.std.specs.Prelude.{ℕ, List}
use Rattle.ctaphid.specs.Interfaces as standard
use Rattle.ctaphid.specs.Interfaces.{both}
use Rattle.hid.specs.declared.CtapHid.{CtapHid}
use Rattle.hid.specs.declared.MainHid.{MainHid}
use Rattle.hid.specs.Meaning.{transport_of}
use Rattle.hid.specs.State.{having}
use Rattle.key.specs.declared.Key.{Key}
use Rattle.key.specs.declared.VendorHid.{VendorHid}

-- vendor's own numbers, with the last time alone of what is shared
abbrev pub vendor_by : VendorHid → (last : ℕ) → CtapHid
vendor_by v last =
    record { assembler = v.assembler; lock = v.lock; last = last; vendor = 0; allocated = v.allocated; locked = v.locked; max = v.max; u2f = 0; spare = 0; still_due = v.still_due }

-- and with all of it, which main has
abbrev pub vendor_in : Key → CtapHid
vendor_in k =
    record {
      assembler = k.vendor.assembler;
      lock = k.vendor.lock;
      last = k.main.hid.last;
      vendor = k.main.hid.vendor;
      allocated = k.vendor.allocated;
      locked = k.vendor.locked;
      max = k.vendor.max;
      u2f = k.main.hid.u2f;
      spare = k.main.hid.spare;
      still_due = k.vendor.still_due;
    }

-- each interface has a message buffer of its own
abbrev pub key_of : Key → (main vendor : List ℕ) → standard.Key
key_of k m v = standard.key (both (transport_of k.main.hid m) (transport_of (vendor_in k) v)) k.main.wink

-- ---- and back

abbrev pub with_last : CtapHid → (last : ℕ) → CtapHid
with_last s last = having s last s.assembler s.still_due

abbrev pub put_main : Key → MainHid → Key
put_main k o = record { main = o; vendor = k.vendor }

-- the last time is main's too. What no step alters stays as the key has it
abbrev pub put_vendor : Key → CtapHid → Key
put_vendor k s =
    record {
      main = record { hid = with_last k.main.hid s.last; wink = k.main.wink };
      vendor = record { assembler = s.assembler; lock = s.lock; allocated = s.allocated; locked = s.locked; max = k.vendor.max; spare = k.vendor.spare; still_due = s.still_due };
    }
