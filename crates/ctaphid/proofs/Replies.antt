-- The commands that a device replies with have numbers up to 127, as every number on the wire. Assumes nothing.
use Prim.Native.Nat.{ℕ, ◌≤◌}
use native.Mathlib.Omega.{arith}
use mathlib.Core.List.{List}
use mathlib.Core.Bool.{Bool}
use lib.Dec.{ltb, eqb}
use lib.ListN.{length, get_or}
use Rattle.ctaphid.specs.Packets.{Packet, initialization, continuation, read}
use Rattle.ctaphid.specs.Commands.{Command, MSG, CBOR, INIT, PING, CANCEL, ERROR, KEEPALIVE, WINK, LOCK, VENDOR, number, command_of}
use Rattle.ctaphid.specs.Settings.{knows}
use Rattle.ctaphid.specs.Receiver.{Reception, silent, fault, whole, Turn, channel_of, receive}
use Rattle.ctaphid.specs.Transport.{Transport, Event, Answer, nothing, reply, request, Next, broadcast, is_valid, not_valid, is_shut, on_init, on_lock, obey, dispatch, settle, with_receiver, hear, step}
use Rattle.ctaphid.specs.Device.{Device, on_wink, on_msg, on_request, answered, device_step}
use Rattle.ctaphid.proofs.Tests.{pick-both}

abbrev pub Low : Answer → Type 0
Low nothing = Unit {0}
Low (reply c cmd payload) = number cmd ≤ 127
Low (request c cmd payload) = Unit {0}

abbrev LowNext : {S : Type 0} → Next S → Type 0
LowNext n = Low n.answer

obey-low : (d : Transport) (time c : ℕ) (k : Command) (payload : List ℕ) → LowNext (obey d time c k payload)
unfolding obey on_init on_lock
obey-low d time c MSG payload = tt
obey-low d time c CBOR payload = tt
obey-low d time c INIT payload = pick-both LowNext (eqb (length payload) 8) _ _ (pick-both LowNext (eqb c broadcast) _ _ (omega arith) (omega arith)) (omega arith)
obey-low d time c PING payload = omega arith
obey-low d time c CANCEL payload = tt
obey-low d time c ERROR payload = tt
obey-low d time c KEEPALIVE payload = tt
obey-low d time c WINK payload = tt
obey-low d time c LOCK payload = pick-both LowNext (eqb (length payload) 1) _ _ (pick-both LowNext (ltb 10 (get_or payload 0 0)) _ _ (omega arith) (omega arith)) (omega arith)
obey-low d time c (VENDOR n) payload = tt

settle-low : (d : Transport) (time c : ℕ) (b : Reception) → LowNext (settle d time c b)
unfolding settle dispatch
settle-low d time c silent = tt
settle-low d time c (fault e) = omega arith
settle-low d time c (whole own cmd payload) = pick-both LowNext (knows d.settings (command_of cmd)) _ _ (obey-low d time own (command_of cmd) payload) (omega arith)

not-valid-low : (p : Packet) → Low (not_valid p)
not-valid-low (initialization c cmd n field) = omega arith
not-valid-low (continuation c k field) = tt

hear-low : (d : Transport) (time : ℕ) (disabled : Bool) (p : Packet) → LowNext (hear d time disabled p)
unfolding hear
hear-low d time disabled p =
    let t : Turn = receive d.settings time d.receiver p in
    pick-both LowNext (is_valid d.allocated p) _ _
    (pick-both LowNext (is_shut d.lock time disabled (channel_of p)) _ _ (omega arith) (settle-low (with_receiver d t.receiver) time (channel_of p) t.reception))
    (not-valid-low p)

answered-low : (time wink : ℕ) (d : Transport) (a : Answer) → Low a → LowNext (answered time wink d a)
unfolding answered on_request on_wink on_msg
answered-low time wink d nothing h = tt
answered-low time wink d (reply c cmd payload) h = h
answered-low time wink d (request c cmd payload) h =
    pick-both LowNext (eqb (number cmd) 8) _ _ (pick-both LowNext (eqb (length payload) 0) _ _ (omega arith) (omega arith))
    (pick-both LowNext (eqb (number cmd) 3) _ _ (pick-both LowNext d.settings.u2f _ _ tt (omega arith)) tt)

pub replies-low : (o : Device) (e : Event) → Low (device_step o e).answer
replies-low o e =
    answered-low e.time o.wink (step o.transport e).state (step o.transport e).answer (hear-low o.transport e.time e.disabled (read e.packet))
