-- Wrong waits, that Waits must catch. Each is the definition's but for one thing. Assumes nothing.
use Rattle.std.specs.Prelude.{[], ◌∷◌, map, Bool, true, false, leb, eqb}
use Rattle.ctaphid.specs.Choice.{pick}
use Rattle.ctaphid.specs.Packets.{Packet, initialization, continuation, read}
use Rattle.ctaphid.specs.Commands.{KEEPALIVE, is}
use Rattle.ctaphid.specs.Receiver.{channel_of}
use Rattle.ctaphid.specs.Touch.{Place, place, is_same, Wait, begun, Arrival, none, packet, Sensor, touch, timeout, error, Moment, Message, message, Ending, not_yet, touched, cancelled, timed_out, failed, Response, respond, busy, keepalive, is_cancel, on_sensor, before, on_arrival, touch_step}
use Rattle.ctaphid.specs.Waits.{AnyWait}

-- nothing but the channel and the limit is kept
abbrev pub waiting : (Wait → Moment → Response) → AnyWait
waiting step = record { State = Wait; begin = begun; step = λ w m. record { state = w; response = step w m } }

-- the channel that waits is told busy too
abbrev pub busy_always : Place → Arrival → Sensor → Response
busy_always active none s = on_sensor active s
busy_always active (packet i p) s =
    pick (is_cancel (read p)) (on_arrival active (packet i p) s) (before (busy (place i (channel_of (read p)))) (on_sensor active s))

abbrev pub busy_to_all : AnyWait
busy_to_all = waiting (λ w m. pick (leb w.until m.time) (respond [] timed_out) (busy_always w.active m.arrival m.sensor))

-- a touch goes before CANCEL
abbrev pub is_touch : Sensor → Bool
is_touch touch = true
is_touch timeout = false
is_touch (error number) = false

abbrev pub unheard : Response → Ending → Response
unheard r not_yet = r
unheard r touched = r
unheard r cancelled = respond [] touched
unheard r timed_out = r
unheard r (failed number) = r

abbrev pub touch_first : AnyWait
touch_first = waiting (λ w m. pick (is_touch m.sensor) (unheard (touch_step w m) (touch_step w m).ending) (touch_step w m))

-- a CANCEL is followed by a KEEPALIVE
abbrev pub answering : Place → Response → Ending → Response
answering active r not_yet = r
answering active r touched = r
answering active r cancelled = respond (keepalive active ∷ []) cancelled
answering active r timed_out = r
answering active r (failed number) = r

abbrev pub alive_after_cancel : AnyWait
alive_after_cancel = waiting (λ w m. answering w.active (touch_step w m) (touch_step w m).ending)

-- the limit is looked at after the packet
abbrev pub limit_last : AnyWait
limit_last =
    waiting
    (λ w m. pick (leb w.until m.time) (respond (on_arrival w.active m.arrival m.sensor).sent timed_out) (on_arrival w.active m.arrival m.sensor))

-- a number is the same channel on every interface
abbrev pub as_own : Place → Arrival → Arrival
as_own active none = none
as_own active (packet i p) = packet active.interface p

abbrev pub any_interface : AnyWait
any_interface = waiting (λ w m. touch_step w (record { time = m.time; arrival = as_own w.active m.arrival; sensor = m.sensor }))

-- its KEEPALIVEs say 1, processing
abbrev pub processing : Message → Message
processing m = pick (is m.command KEEPALIVE) (message m.to KEEPALIVE (1 ∷ [])) m

abbrev pub alive_with1 : AnyWait
alive_with1 = waiting (λ w m. respond (map processing (touch_step w m).sent) (touch_step w m).ending)

-- a continuation packet with the number of CANCEL is taken for it
abbrev pub is_either_cancel : Packet → Bool
is_either_cancel (initialization c cmd n field) = is_cancel (initialization c cmd n field)
is_either_cancel (continuation c k field) = eqb k 17

abbrev pub cancelled_by_number : Place → Arrival → Sensor → Response
cancelled_by_number active none s = on_sensor active s
cancelled_by_number active (packet i p) s =
    pick (is_same (place i (channel_of (read p))) active)
    (pick (is_either_cancel (read p)) (respond [] cancelled) (on_sensor active s))
    (before (busy (place i (channel_of (read p)))) (on_sensor active s))

abbrev pub number_cancels : AnyWait
number_cancels = waiting (λ w m. pick (leb w.until m.time) (respond [] timed_out) (cancelled_by_number w.active m.arrival m.sensor))
