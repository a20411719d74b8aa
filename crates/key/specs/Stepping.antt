-- What a step on each interface leaves, from what the standard's key does. Assumes nothing.
use Rattle.std.specs.Prelude.{ℕ, List, Bool, length, ltb}
use Rattle.ctaphid.specs.Choice.{pick, refusing}
use Rattle.ctaphid.specs.Packets.{Packet, read}
use Rattle.ctaphid.specs.Transport.{Transport, Next, next, hear}
use Rattle.ctaphid.specs.Interfaces.{on_vendor}
use Rattle.answers.specs.declared.Answer.{Answer}
use Rattle.answers.specs.declared.Answer.TheVariants.{Refused, Nothing, Message, Echo, Reply}
use Rattle.hid.specs.declared.CtapHid.{CtapHid}
use Rattle.hid.specs.declared.MainHid.{MainHid}
use Rattle.hid.specs.declared.MainStepped.{MainStepped}
use Rattle.hid.specs.Meaning.{transport_of}
use Rattle.hid.specs.State.{served_of}
use Rattle.hid.specs.Hearing.{Stepping, stepping, stepping_of, message_after}
use Rattle.hid.specs.Refusals.{refusals_where}
use Rattle.hid.specs.MainHid.{MainStepping, main_stepping, main_heard_of, outer}
use Rattle.key.specs.declared.Key.{Key}
use Rattle.key.specs.Meaning.{vendor_in, with_last, put_main, put_vendor}
use Rattle.key.specs.Soundness.{is_fit, is_key_sound}

-- ---- the last time as a step meets it, by the other interface: where that isn't fit, one that there isn't
abbrev pub never : ℕ
never = 0xffff_ffff_ffff_ffff

unfoldable pub last_beside : (other : CtapHid) → (wink lock : ℕ) → ℕ
last_beside s wink lock = pick (is_fit s wink lock) s.last never

-- a refused step leaves the one that there was
abbrev pub restored_by : Answer → (last : ℕ) → MainHid → MainStepped
restored_by (Refused n) last o = outer (with_last o.hid last) o.wink (Refused n)
restored_by Nothing last o = record { hid = o; answer = Nothing }
restored_by (Message c cmd len) last o = record { hid = o; answer = Message c cmd len }
restored_by (Echo c cmd len) last o = record { hid = o; answer = Echo c cmd len }
restored_by (Reply c cmd len) last o = record { hid = o; answer = Reply c cmd len }

abbrev pub restored_of : (last : ℕ) → MainStepped → MainStepped
restored_of last x = restored_by x.answer last x.hid

-- ---- steps. A refused call leaves all as it came

-- main: checks 1 to 8 of a device behind the refusals, which judge the whole key
unfoldable pub main_key_of : Key → (time : ℕ) → (packet message short : List ℕ) → MainStepping
main_key_of k time p m r =
    refusing (λ number. main_stepping (record { hid = k.main; answer = Refused number }) m r)
    (refusals_where (is_key_sound k) k.main.hid.max k.main.hid.last time (length p) (length m) (length r))
    (main_heard_of k.main time (ltb time k.vendor.lock) (read p) m r)

-- vendor: checks 1 to 7 of a transport, and its own check 8
abbrev pub checked_on_vendor : Next Transport → Next Transport
checked_on_vendor n = next n.state (on_vendor n.state.settings.u2f n.answer)

unfoldable pub vendor_heard_of : CtapHid → (time : ℕ) → (disabled : Bool) → Packet → (message short : List ℕ) → Stepping
vendor_heard_of s time disabled p m r =
    stepping_of (served_of s time (checked_on_vendor (hear (transport_of s m) time disabled p)) r) (message_after s time disabled p m)

unfoldable pub vendor_key_of : Key → (time : ℕ) → (packet message short : List ℕ) → Stepping
vendor_key_of k time p m r =
    refusing (λ number. stepping (record { hid = vendor_in k; answer = Refused number }) m r)
    (refusals_where (is_key_sound k) k.vendor.max k.main.hid.last time (length p) (length m) (length r))
    (vendor_heard_of (vendor_in k) time (ltb time k.main.hid.lock) (read p) m r)

-- ---- over a lent key: all that a call leaves, with both buffers of its interface

pub record KeyStepping : Type 0 where
  pub key : Key
  pub answer : Answer
  pub message : List ℕ
  pub reply : List ℕ

abbrev pub key_stepping : Key → Answer → List ℕ → List ℕ → KeyStepping
key_stepping k a m r = record { key = k; answer = a; message = m; reply = r }

abbrev pub main_laid : Key → MainStepping → KeyStepping
main_laid k x = key_stepping (put_main k x.stepped.hid) x.stepped.answer x.message x.reply

abbrev pub vendor_laid : Key → Stepping → KeyStepping
vendor_laid k x = key_stepping (put_vendor k x.stepped.hid) x.stepped.answer x.message x.reply
