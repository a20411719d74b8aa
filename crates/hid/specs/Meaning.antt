-- What the transport's numbers mean at the standard's level, and the numbers for what stands there. Assumes nothing.
use Rattle.std.specs.Prelude.{ℕ, List, not, eqb}
use Rattle.ctaphid.specs.Settings.{Settings}
use Rattle.ctaphid.specs.Receiver.{still_due}
use Rattle.ctaphid.specs.Transport as standard
use Rattle.ctaphid.specs.Device.{Device, device}
use Rattle.known.specs.Vendor.{vendor_of}
use Rattle.receive.specs.Meaning.{receiver_of, assembler_of}
use Rattle.hid.specs.declared.CtapHid.{CtapHid}
use Rattle.hid.specs.declared.MainHid.{MainHid}

abbrev pub settings_of : CtapHid → Settings
settings_of s = record { maximum = s.max; u2f = not (eqb s.u2f 0); vendor = vendor_of s.vendor }

abbrev pub transport_of : CtapHid → (message : List ℕ) → standard.Transport
transport_of s m =
    record { settings = settings_of s; allocated = s.allocated; lock = record { holder = s.locked; until = s.lock }; receiver = receiver_of s.assembler m }

abbrev pub device_of : MainHid → (message : List ℕ) → Device
device_of o m = device (transport_of o.hid m) o.wink

-- ---- and back

-- s, with what a step at this time leads to
abbrev pub state_of : CtapHid → (time : ℕ) → standard.Transport → CtapHid
state_of s time d =
    record {
      assembler = assembler_of d.receiver;
      lock = d.lock.until;
      last = time;
      vendor = s.vendor;
      allocated = d.allocated;
      locked = d.lock.holder;
      max = s.max;
      u2f = s.u2f;
      spare = s.spare;
      still_due = still_due d.receiver;
    }
