-- What a transport hands out is a command that can be read: so what has MSG's number is MSG. Assumes nothing.
use Prim.Native.Nat.{ℕ}
use mathlib.Core.Path.{◌≡◌, sym}
use mathlib.Core.List.{List}
use mathlib.Core.Bool.{Bool, true}
use borrow.Author.Tests.{eqb-true}
use Rattle.ctaphid.specs.Choice.{pick}
use Rattle.ctaphid.specs.Commands.{Command, MSG, CBOR, INIT, PING, CANCEL, ERROR, KEEPALIVE, WINK, LOCK, VENDOR, number, is, among, command_of}
use Rattle.ctaphid.specs.Packets.{Packet, initialization, continuation}
use Rattle.ctaphid.specs.Receiver.{Reception, silent, fault, whole, channel_of, receive}
use Rattle.ctaphid.specs.Transport.{Transport, Answer, nothing, reply, request, Next, not_valid, on_init, on_lock, obey, dispatch, settle, with_receiver, hear}
use Rattle.ctaphid.proofs.Tests.{pick-both}
use Rattle.ctaphid.proofs.Commands.{Named, reads-named, named-read}

abbrev pub Readable : Answer → Type 0
Readable nothing = Unit {0}
Readable (reply c cmd payload) = Unit {0}
Readable (request c cmd payload) = Named cmd

abbrev Out : Next Transport → Type 0
Out n = Readable n.answer

module _ (d : Transport) (time c : ℕ) (payload : List ℕ) where
  out-init : Out (on_init d c payload)
  unfolding on_init
  out-init = pick-both Out _ _ _ (pick-both Out _ _ _ tt tt) tt

  out-lock : Out (on_lock d time c payload)
  unfolding on_lock
  out-lock = pick-both Out _ _ _ (pick-both Out _ _ _ tt tt) tt

  out-obey : (k : Command) → Named k → Out (obey d time c k payload)
  unfolding obey
  out-obey MSG named = tt
  out-obey CBOR named = tt
  out-obey INIT named = out-init
  out-obey PING named = tt
  out-obey CANCEL named = tt
  out-obey ERROR named = tt
  out-obey KEEPALIVE named = tt
  out-obey WINK named = tt
  out-obey LOCK named = out-lock
  out-obey (VENDOR n) named = named

out-settle : (d : Transport) (time c : ℕ) (b : Reception) → Out (settle d time c b)
unfolding settle dispatch
out-settle d time c silent = tt
out-settle d time c (fault e) = tt
out-settle d time c (whole own cmd payload) = pick-both Out _ _ _ (out-obey d time own payload (command_of cmd) (reads-named cmd)) tt

out-not-valid : (p : Packet) → Readable (not_valid p)
out-not-valid (initialization c cmd n field) = tt
out-not-valid (continuation c k field) = tt

pub readable : (d : Transport) (time : ℕ) (disabled : Bool) (p : Packet) → Readable (hear d time disabled p).answer
unfolding hear
readable d time disabled p =
    pick-both Out _ _ _
    (pick-both Out _ _ _ tt (out-settle (with_receiver d (receive d.settings time d.receiver p).receiver) time (channel_of p) (receive d.settings time d.receiver p).reception))
    (out-not-valid p)

pub is-msg : (k : Command) → Named k → is k MSG ≡ true → k ≡ MSG
unfolding pick among
is-msg k named e = named-read k named (sym (eqb-true (number k) 3 e))
