-- Wrong devices, that what bounds transactions and locks, and who is turned away, must catch. Assumes nothing.
use Rattle.std.specs.Prelude.{ℕ, ◌+◌, ◌-◌, Bool, false, leb, eqb}
use Rattle.ctaphid.specs.Choice.{pick}
use Rattle.ctaphid.specs.Packets.{Packet, initialization, continuation, read}
use Rattle.ctaphid.specs.Errors.{InvalidCmd, ChannelBusy, code}
use Rattle.ctaphid.specs.Receiver.{Receiver, idle, busy, Reception, silent, fault, whole, Turn, channel_of, start_known, receive, is_on}
use Rattle.ctaphid.specs.Transport.{Lock, Transport, Next, next, error, fresh, is_valid, not_valid, is_locked_by, is_shut, with_lock, with_receiver, settled, step}
use Rattle.ctaphid.specs.Demands.{AnyDevice}

-- the standard's transport, but a lock never ends
abbrev pub stretched : Lock → Lock
stretched l = pick (eqb l.until 0) l (record { holder = l.holder; until = 0x1_0000_0000_0000 })

abbrev pub stretch : Next Transport → Next Transport
stretch n = next (with_lock n.state (stretched n.state.lock)) n.answer

abbrev pub forever_locked : AnyDevice
forever_locked =
    record {
      State = Transport;
      set_up = fresh;
      step = λ d e. stretch (step d e);
      is_on = λ d c time. is_on d.receiver c time;
      is_locked_by = λ d c time. is_locked_by d.lock c time;
    }

-- the standard's transport, but a lock runs for a millisecond more
abbrev pub locked_too_long : AnyDevice
locked_too_long =
    record {
      State = Transport;
      set_up = fresh;
      step = step;
      is_on = λ d c time. is_on d.receiver c time;
      is_locked_by = λ d c time. is_locked_by d.lock c (time - 1);
    }

-- the standard's transport, but any packet of any channel that comes while a transaction is on gives it its time anew
abbrev pub revived : (time : ℕ) → Receiver → Receiver
revived time idle = idle
revived time (busy t) =
    pick (leb t.deadline time)
    (busy t)
    (busy (record {
      channel = t.channel;
      command = t.command;
      declared = t.declared;
      collected = t.collected;
      due = t.due;
      deadline = time + 100;
    }))

abbrev pub revive : (time : ℕ) → Next Transport → Next Transport
revive time n = next (with_receiver n.state (revived time n.state.receiver)) n.answer

abbrev pub any_packet_is_life : AnyDevice
any_packet_is_life =
    record {
      State = Transport;
      set_up = fresh;
      step = λ d e. revive e.time (step d e);
      is_on = λ d c time. is_on d.receiver c time;
      is_locked_by = λ d c time. is_locked_by d.lock c time;
    }

-- OpenSK's way (DIFFERENCES 21): the standard's transport, but a command that isn't known begins a transaction as any other does, and is told so when it is whole
abbrev pub told_unknown : Reception → Bool
told_unknown silent = false
told_unknown (fault e) = eqb (code e) (code InvalidCmd)
told_unknown (whole c cmd payload) = false

abbrev pub begun_late : (maximum time : ℕ) → Packet → Turn → Turn
begun_late max time (initialization c cmd n field) t = pick (told_unknown t.reception) (start_known max time c cmd n field) t
begun_late max time (continuation c k field) t = t

abbrev pub served_late : Transport → (time : ℕ) → Packet → Next Transport
served_late d time p = settled d time (channel_of p) (begun_late d.settings.maximum time p (receive d.settings time d.receiver p))

abbrev pub heard_late : Transport → (time : ℕ) → (disabled : Bool) → Packet → Next Transport
heard_late d time disabled p =
    pick (is_valid d.allocated p)
    (pick (is_shut d.lock time disabled (channel_of p)) (next d (error (channel_of p) ChannelBusy)) (served_late d time p))
    (next d (not_valid p))

abbrev pub told_when_whole : AnyDevice
told_when_whole =
    record {
      State = Transport;
      set_up = fresh;
      step = λ d e. heard_late d e.time e.disabled (read e.packet);
      is_on = λ d c time. is_on d.receiver c time;
      is_locked_by = λ d c time. is_locked_by d.lock c time;
    }
