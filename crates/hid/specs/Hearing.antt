-- What hearing a packet leaves, from what the standard's transport does. Assumes nothing.
use Rattle.std.specs.Prelude.{ℕ, ◌≤◌, ◌≡◌, List, [], ◌∷◌, Bool, length, take}
use Rattle.ctaphid.specs.Choice.{pick}
use Rattle.ctaphid.specs.Commands.{ERROR, command_of}
use Rattle.ctaphid.specs.Packets.{Packet, Formed}
use Rattle.ctaphid.specs.Receiver.{channel_of, receive}
use Rattle.ctaphid.specs.Transport.{nothing, reply, is_valid, is_shut, dispatch, hear}
use Rattle.receive.specs.declared.Received.{Received}
use Rattle.receive.specs.declared.Received.TheVariants.{Refused, Nothing, Error, Message}
use Rattle.receive.specs.Meaning.{receiver_of}
use Rattle.receive.specs.Assembler.{buffered}
use Rattle.hid.specs.declared.CtapHid.{CtapHid}
use Rattle.hid.specs.declared.Stepped.{Stepped}
use Rattle.hid.specs.Meaning.{settings_of, transport_of}
use Rattle.hid.specs.Soundness.{Sound}
use Rattle.hid.specs.State.{Serving, served_of, keeping}
use Rattle.hid.specs.Commands.{Serves}

-- ---- over the short reply buffer alone

-- what the receiver said of a packet of this channel, answered. A whole message stands at the front of the message buffer
abbrev pub settled_of : CtapHid → (channel : ℕ) → Received → (message short : List ℕ) → Serving
settled_of s c (Refused number) m r = keeping s nothing r
settled_of s c Nothing m r = keeping s nothing r
settled_of s c (Error e) m r = keeping s (reply c ERROR (e ∷ [])) r
settled_of s c (Message own cmd len) m r = served_of s s.last (dispatch (transport_of s m) s.last own (command_of cmd) (take len m)) r

-- ---- over both buffers

-- all that a call leaves: what it returns, and both buffers
pub record Stepping : Type 0 where
  pub stepped : Stepped
  pub message : List ℕ
  pub reply : List ℕ

abbrev pub stepping : Stepped → List ℕ → List ℕ → Stepping
stepping s m r = record { stepped = s; message = m; reply = r }

abbrev pub stepping_of : Serving → (message : List ℕ) → Stepping
stepping_of v m = stepping v.stepped m v.reply

-- the message buffer after a packet: as it was, unless the packet reaches the receiver
unfoldable pub message_after : CtapHid → (time : ℕ) → (disabled : Bool) → Packet → List ℕ → List ℕ
message_after s time disabled p m =
    pick (is_valid s.allocated p)
    (pick (is_shut (transport_of s m).lock time disabled (channel_of p)) m (buffered (receive (settings_of s) time (receiver_of s.assembler m) p) m))
    m

unfoldable pub heard_of : CtapHid → (time : ℕ) → (disabled : Bool) → Packet → (message short : List ℕ) → Stepping
heard_of s time disabled p m r =
    stepping_of (served_of s time (hear (transport_of s m) time disabled p) r) (message_after s time disabled p m)

-- ---- what the parts ask

abbrev pub Settles : CtapHid → Received → (message short : List ℕ) → Type 0
Settles s (Refused number) m r = Unit {0}
Settles s Nothing m r = Unit {0}
Settles s (Error e) m r = 17 ≤ length r
Settles s (Message own cmd len) m r = Serves s len m r

-- what must be so for a packet to be heard, but for the short buffer's 17 bytes
pub record Admits (s : CtapHid) (time : ℕ) (p m : List ℕ) : Type 0 where
  pub size : length p ≡ 64
  pub room : s.max ≤ length m
  pub sound : Sound s 0
  pub early : time ≤ 0xffff_ffff_ffff
  pub later : s.last ≤ time

-- what hearing a packet asks, but for the same
pub record Hears (s : CtapHid) (time : ℕ) (p : Packet) (m : List ℕ) : Type 0 where
  pub sound : Sound s 0
  pub formed : Formed p
  pub room : s.max ≤ length m
  pub early : time ≤ 0xffff_ffff_ffff
  pub later : s.last ≤ time
