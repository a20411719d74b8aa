-- A step of the code and a step of the standard's: what it is to answer alike. Assumes nothing.
use Rattle.std.specs.Prelude.{ℕ, ◌≤◌, ◌≡◌, List, true, length}
use Rattle.ctaphid.specs.Packets.{Bytes}
use Rattle.ctaphid.specs.Settings.{Settings}
use Rattle.ctaphid.specs.Transport.{Transport, Event, Next, step}
use Rattle.ctaphid.specs.Device.{Device, device_step}
use Rattle.ctaphid.specs.Demands.{Permitted}
use Rattle.answers.specs.Answers.{Said, answered, said}
use Rattle.hid.specs.declared.CtapHid.{CtapHid}
use Rattle.hid.specs.declared.MainHid.{MainHid}
use Rattle.hid.specs.Meaning.{transport_of, device_of}
use Rattle.hid.specs.Soundness.{Sound}
use Rattle.hid.specs.declared.Ready.TheVariants as transport
use Rattle.hid.specs.declared.MainReady.TheVariants as device
use Rattle.hid.specs.SetUp.{fresh_hid, fresh_main, new_of, main_new_of}
use Rattle.hid.specs.Hearing.{Stepping}
use Rattle.hid.specs.Transport.{step_of}
use Rattle.hid.specs.MainHid.{MainStepping, main_step_of}

-- the two buffers that are lent for a call
pub record Buffers : Type 0 where
  pub message : List ℕ
  pub short : List ℕ

abbrev pub buffers : (message short : List ℕ) → Buffers
buffers m r = record { message = m; short = r }

-- the states that set-up makes of settings
abbrev pub from_settings : Settings → CtapHid
from_settings set = fresh_hid set.maximum set.u2f set.vendor

abbrev pub main_from_settings : Settings → MainHid
main_from_settings set = fresh_main set.maximum set.u2f set.vendor

-- ---- a call for an event, and what it says

abbrev pub on_event : CtapHid → Event → Buffers → Stepping
on_event s e b = step_of s e.time e.disabled e.packet b.message b.short

abbrev pub main_on_event : MainHid → Event → Buffers → MainStepping
main_on_event o e b = main_step_of o e.time e.disabled e.packet b.message b.short

abbrev pub said_by : Stepping → Said
said_by x = said x.stepped.answer x.message x.reply

abbrev pub main_said_by : MainStepping → Said
main_said_by x = said x.stepped.answer x.message x.reply

-- what it leaves means what the standard's step leads to: the state that it means, and the answer with its payload. No refusal is such an answer
pub record Refines (x : Stepping) (n : Next Transport) : Type 0 where
  pub state : transport_of x.stepped.hid x.message ≡ n.state
  pub answer : said_by x ≡ answered n.answer

pub record MainRefines (x : MainStepping) (n : Next Device) : Type 0 where
  pub state : device_of x.stepped.hid x.message ≡ n.state
  pub answer : main_said_by x ≡ answered n.answer

-- ---- what no refusal meets

-- an event after this time: 64 bytes, at a time that there is and that doesn't go back
pub record Comes (last : ℕ) (e : Event) : Type 0 where
  pub size : length e.packet ≡ 64
  pub bytes : Bytes e.packet
  pub later : last ≤ e.time
  pub early : e.time ≤ 0xffff_ffff_ffff

-- buffers for this state: as long as its maximum, and 17 bytes
pub record Roomy (s : CtapHid) (b : Buffers) : Type 0 where
  pub message : s.max ≤ length b.message
  pub short : 17 ≤ length b.short

-- ---- the statements

-- a step from a sound state refines the standard's, and its state is sound again
abbrev pub StepRefines : Type 0
StepRefines =
    (s : CtapHid) (e : Event) (b : Buffers) → Sound s 0 → Comes s.last e → Roomy s b
    → Refines (on_event s e b) (step (transport_of s b.message) e)

abbrev pub SoundStays : Type 0
SoundStays = (s : CtapHid) (e : Event) (b : Buffers) → Sound s 0 → Comes s.last e → Roomy s b → Sound (on_event s e b).stepped.hid 0

abbrev pub MainStepRefines : Type 0
MainStepRefines =
    (o : MainHid) (e : Event) (b : Buffers) → Sound o.hid o.wink → Comes o.hid.last e → Roomy o.hid b
    → MainRefines (main_on_event o e b) (device_step (device_of o b.message) e)

abbrev pub MainSoundStays : Type 0
MainSoundStays =
    (o : MainHid) (e : Event) (b : Buffers) → Sound o.hid o.wink → Comes o.hid.last e → Roomy o.hid b
    → Sound (main_on_event o e b).stepped.hid.hid (main_on_event o e b).stepped.hid.wink

-- a disabled step leaves the message buffer as it came, whatever state, time, packet and buffers: what a caller has there stays
abbrev pub DisabledKeeps : Type 0
DisabledKeeps = (s : CtapHid) (time : ℕ) (p m r : List ℕ) → (step_of s time true p m r).message ≡ m

abbrev pub MainDisabledKeeps : Type 0
MainDisabledKeeps = (o : MainHid) (time : ℕ) (p m r : List ℕ) → (main_step_of o time true p m r).message ≡ m

-- set-up takes the settings that are permitted, and its state is sound
pub record SetsUp (set : Settings) : Type 0 where
  pub transport : new_of set.maximum set.u2f set.vendor ≡ transport.Hid (from_settings set)
  pub device : main_new_of set.maximum set.u2f set.vendor ≡ device.Hid (main_from_settings set)
  pub sound : Sound (from_settings set) 0

abbrev pub SetUpTaken : Type 0
SetUpTaken = (set : Settings) → Permitted set → SetsUp set
