-- What a step of the device leaves, from what the standard's device does. Assumes nothing.
use Rattle.std.specs.Prelude.{ℕ, ◌≤◌, ◌≡◌, List, Bool, length}
use Rattle.ctaphid.specs.Choice.{refusing}
use Rattle.ctaphid.specs.Packets.{Packet, read}
use Rattle.ctaphid.specs.Transport as standard
use Rattle.ctaphid.specs.Transport.{Transport, Next, nothing, reply, request, hear}
use Rattle.ctaphid.specs.Commands.{Command}
use Rattle.ctaphid.specs.Device.{Device, on_wink, on_msg, on_request, answered, above}
use Rattle.packet.specs.Numbers.{command_case}
use Rattle.packet.specs.declared.command.CtapHidCommand.{CtapHidCommand}
use Rattle.answers.specs.Answers.{answer_of, replied}
use Rattle.hid.specs.declared.CtapHid.{CtapHid}
use Rattle.hid.specs.declared.MainHid.{MainHid}
use Rattle.answers.specs.declared.Answer.{Answer}
use Rattle.answers.specs.declared.Answer.TheVariants.{Refused, Nothing, Message, Echo, Reply}
use Rattle.hid.specs.declared.MainStepped.{MainStepped}
use Rattle.hid.specs.Meaning.{settings_of, transport_of, state_of}
use Rattle.hid.specs.Refusals.{refusals}
use Rattle.hid.specs.Hearing.{message_after}

-- ---- over the short reply buffer alone

pub record Finishing : Type 0 where
  pub stepped : MainStepped
  pub reply : List ℕ

abbrev pub finishing : MainStepped → List ℕ → Finishing
finishing x r = record { stepped = x; reply = r }

abbrev pub outer : CtapHid → (wink : ℕ) → Answer → MainStepped
outer s wink a = record { hid = record { hid = s; wink = wink }; answer = a }

-- check 8 for what was handed out, and for any answer. What the transport has written for a reply stays
unfoldable pub requested_of : CtapHid → Next Device → (short : List ℕ) → Finishing
requested_of s n r = finishing (outer s n.state.wink (answer_of n.answer)) (replied n.answer r)

abbrev pub replied_above : (below above : standard.Answer) → (short : List ℕ) → List ℕ
replied_above nothing b r = r
replied_above (reply c cmd payload) b r = r
replied_above (request c cmd payload) b r = replied b r

abbrev pub finished : CtapHid → standard.Answer → Next Device → (short : List ℕ) → Finishing
finished s a n r = finishing (outer s n.state.wink (answer_of n.answer)) (replied_above a n.answer r)

unfoldable pub finished_of : CtapHid → (wink : ℕ) → Transport → standard.Answer → (short : List ℕ) → Finishing
finished_of s wink d a r = finished s a (answered s.last wink d a) r

-- so for every transport with these settings, and every message of that length
abbrev pub Winks : CtapHid → (cid len : ℕ) → (short : List ℕ) → Finishing → Type 0
Winks s cid len r x = (d : Transport) (payload : List ℕ) → len ≡ length payload → x ≡ requested_of s (on_wink d s.last cid payload) r

abbrev pub Msgs : CtapHid → (cid len : ℕ) → (short : List ℕ) → Finishing → Type 0
Msgs s cid len r x = (d : Transport) (payload : List ℕ) → d.settings ≡ settings_of s → len ≡ length payload → x ≡ requested_of s (on_msg d cid payload) r

abbrev pub Requests : CtapHid → (cid : ℕ) → CtapHidCommand → (len : ℕ) → (short : List ℕ) → Finishing → Type 0
Requests s cid cmd len r x =
    (d : Transport) (k : Command) (payload : List ℕ) → d.settings ≡ settings_of s → cmd ≡ command_case k → len ≡ length payload → x ≡ requested_of s (on_request d s.last cid k payload) r

-- a refusal goes through; anything else is met as the standard's device meets it
pub record Finishes (s : CtapHid) (wink : ℕ) (answer : Answer) (r : List ℕ) (x : Finishing) : Type 0 where
  pub refused : (number : ℕ) → answer ≡ Refused number → x ≡ finishing (outer s wink answer) r
  pub met : (d : Transport) (a : standard.Answer) → d.settings ≡ settings_of s → answer ≡ answer_of a → x ≡ finished_of s wink d a r

-- what it asks, of a message that was handed out alone
abbrev pub Asks : CtapHid → Answer → (short : List ℕ) → Type 0
Asks s (Refused number) r = Unit {0}
Asks s Nothing r = Unit {0}
Asks s (Message c cmd len) r = (s.last ≤ 0xffff_ffff_ffff) × (17 ≤ length r)
Asks s (Echo c cmd len) r = Unit {0}
Asks s (Reply c cmd len) r = Unit {0}

-- ---- over both buffers

-- all that a call leaves: what it returns, and both buffers
pub record MainStepping : Type 0 where
  pub stepped : MainStepped
  pub message : List ℕ
  pub reply : List ℕ

abbrev pub main_stepping : MainStepped → List ℕ → List ℕ → MainStepping
main_stepping x m r = record { stepped = x; message = m; reply = r }

abbrev pub laid_out : CtapHid → (time : ℕ) → Next Device → (message short : List ℕ) → MainStepping
laid_out s time n m r = main_stepping (outer (state_of s time n.state.transport) n.state.wink (answer_of n.answer)) m (replied n.answer r)

unfoldable pub main_heard_of : MainHid → (time : ℕ) → (disabled : Bool) → Packet → (message short : List ℕ) → MainStepping
main_heard_of o time disabled p m r =
    laid_out o.hid time (above time o.wink (hear (transport_of o.hid m) time disabled p)) (message_after o.hid time disabled p m) r

-- checks 1 to 8 behind the refusals. A refused call leaves all as it came
unfoldable pub main_step_of : MainHid → (time : ℕ) → (disabled : Bool) → (packet message short : List ℕ) → MainStepping
main_step_of o time disabled p m r =
    refusing (λ number. main_stepping (record { hid = o; answer = Refused number }) m r)
    (refusals o.hid o.wink time (length p) (length m) (length r))
    (main_heard_of o time disabled (read p) m r)
