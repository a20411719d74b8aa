-- The wait for a touch: while a request waits for its user, each packet is answered here, and not by the transport (§11.2.5.1, §11.2.9.1.5, §11.2.9.1.7).
-- Assumes nothing.
use Rattle.std.specs.Prelude.{ℕ, ◌+◌, List, [], ◌∷◌, Bool, false, leb, eqb}
use Rattle.ctaphid.specs.Choice.{pick}
use Rattle.ctaphid.specs.Packets.{Packet, initialization, continuation, read}
use Rattle.ctaphid.specs.Commands.{Command, CANCEL, ERROR, KEEPALIVE, number}
use Rattle.ctaphid.specs.Errors.{ChannelBusy, code}
use Rattle.ctaphid.specs.Receiver.{channel_of}

-- §11.2.3: a channel of one of the key's interfaces. The same number on another interface is another channel
pub record Place : Type 0 where
  pub interface : ℕ
  pub channel : ℕ

abbrev pub place : (interface channel : ℕ) → Place
place i c = record { interface = i; channel = c }

unfoldable pub is_same : Place → Place → Bool
is_same p q = pick (eqb p.interface q.interface) (eqb p.channel q.channel) false

-- the channel whose request waits, and the time from which on the wait is over. The standard has no figure for it: the limit is a setting (DIFFERENCES 27)
pub record Wait : Type 0 where
  pub active : Place
  pub until : ℕ

abbrev pub begun : (active : Place) → (start limit : ℕ) → Wait
begun active start limit = record { active = active; until = start + limit }

-- what arrived: nothing, or a packet on an interface
pub data Arrival : Type 0 where
  none : Arrival
  packet : (interface : ℕ) (bytes : List ℕ) → Arrival

-- what the sensor said: that it was touched, that it was not yet, or an error by its number
pub data Sensor : Type 0 where
  touch : Sensor
  timeout : Sensor
  error : (number : ℕ) → Sensor

-- a step: the time at which it begins, and what came of waiting for a packet and for the sensor
pub record Moment : Type 0 where
  pub time : ℕ
  pub arrival : Arrival
  pub sensor : Sensor

pub record Message : Type 0 where
  pub to : Place
  pub command : Command
  pub payload : List ℕ

abbrev pub message : Place → Command → List ℕ → Message
message to cmd payload = record { to = to; command = cmd; payload = payload }

-- whether the wait ends by a step, and how
pub data Ending : Type 0 where
  not_yet touched cancelled timed_out : Ending
  failed : (number : ℕ) → Ending

-- what is sent, in this order, and the ending
pub record Response : Type 0 where
  pub sent : List Message
  pub ending : Ending

abbrev pub respond : List Message → Ending → Response
respond sent ending = record { sent = sent; ending = ending }

-- ---- what is sent

-- §11.2.5.1, §11.2.9.1.6: a busy error, on the channel that asked
abbrev pub busy : Place → Message
busy p = message p ERROR (code ChannelBusy ∷ [])

-- §11.2.9.1.7: 2, user presence needed
abbrev pub keepalive : Place → Message
keepalive p = message p KEEPALIVE (2 ∷ [])

-- ---- a step

-- §11.2.9.1.5: CANCEL, whatever its length (DIFFERENCES 19). A continuation packet is none, whatever its number
unfoldable pub is_cancel : Packet → Bool
is_cancel (initialization c cmd n field) = eqb cmd (number CANCEL)
is_cancel (continuation c k field) = false

-- §11.2.9.1.7: as long as there was no touch, the host is told that one is needed
unfoldable pub on_sensor : (active : Place) → Sensor → Response
on_sensor active touch = respond [] touched
on_sensor active timeout = respond (keepalive active ∷ []) not_yet
on_sensor active (error number) = respond [] (failed number)

-- what is sent before the rest
abbrev pub before : Message → Response → Response
before m r = respond (m ∷ r.sent) r.ending

-- a packet is looked at before the sensor's word. §11.2.9.1.5: CANCEL is never answered. Any other packet of the active channel is dropped, INIT too
-- (DIFFERENCES 28). §11.2.5.1: any packet of another channel fails at once, be that channel allocated or not (DIFFERENCES 29)
unfoldable pub on_packet : (active : Place) → (interface : ℕ) → Packet → Sensor → Response
on_packet active i p s =
    pick (is_same (place i (channel_of p)) active)
    (pick (is_cancel p) (respond [] cancelled) (on_sensor active s))
    (before (busy (place i (channel_of p))) (on_sensor active s))

unfoldable pub on_arrival : (active : Place) → Arrival → Sensor → Response
on_arrival active none s = on_sensor active s
on_arrival active (packet i bytes) s = on_packet active i (read bytes) s

-- where the limit has elapsed before a step, nothing is looked at
unfoldable pub touch_step : Wait → Moment → Response
touch_step w m =
    pick (leb w.until m.time) (respond [] timed_out) (on_arrival w.active m.arrival m.sensor)
