-- What the code's types mean at the standard's level, and how what stands there is laid out in them. Assumes nothing.
use Rattle.std.specs.Prelude.{ℕ, List, [], ◌∷◌, ◌++◌}
use Rattle.ctaphid.specs.Packets.{byte}
use Rattle.ctaphid.specs.Touch as standard
use Rattle.ctaphid.specs.Touch.{place, Arrival, Sensor, Message, message}
use Rattle.packet.specs.Numbers.{command_case, command_meant}
use Rattle.touch.specs.declared.Wait.{Wait}
use Rattle.touch.specs.declared.UserPresence.{UserPresence}
use Rattle.touch.specs.declared.UserPresence.TheVariants as presence
use Rattle.touch.specs.declared.RecvStatus.{RecvStatus}
use Rattle.touch.specs.declared.RecvStatus.TheVariants as received
use Rattle.touch.specs.declared.Sent.{Sent}
use Rattle.touch.specs.declared.Sent.TheVariants.{Nothing, Byte}
use Rattle.touch.specs.declared.Ending.{Ending}
use Rattle.touch.specs.declared.Ending.TheVariants as ending
use Rattle.touch.specs.declared.Response.{Response}

-- ---- what comes in

-- whatever its numbers are
abbrev pub wait_meant : Wait → standard.Wait
wait_meant w = record { active = place w.interface w.cid; until = w.deadline }

abbrev pub arrival_meant : RecvStatus → (packet : List ℕ) → Arrival
arrival_meant received.Timeout p = standard.none
arrival_meant (received.Received i) p = standard.packet i p

abbrev pub sensor_meant : UserPresence → Sensor
sensor_meant presence.Touched = standard.touch
sensor_meant presence.Timeout = standard.timeout
sensor_meant (presence.Failed number) = standard.error number

-- ---- what is answered: a message has one byte, and there are two at most

abbrev pub sent_of : Message → Sent
sent_of m = Byte m.to.interface m.to.channel (command_case m.command) (byte m.payload 0)

abbrev pub first_of : List Message → Sent
first_of [] = Nothing
first_of (m ∷ rest) = sent_of m

abbrev pub second_of : List Message → Sent
second_of [] = Nothing
second_of (m ∷ rest) = first_of rest

abbrev pub ending_of : standard.Ending → Ending
ending_of standard.not_yet = ending.NotYet
ending_of standard.touched = ending.Touched
ending_of standard.cancelled = ending.Canceled
ending_of standard.timed_out = ending.TimedOut
ending_of (standard.failed number) = ending.Failed number

unfoldable pub response_of : standard.Response → Response
response_of r = record { first = first_of r.sent; second = second_of r.sent; ending = ending_of r.ending }

abbrev pub silent : Ending → Response
silent e = record { first = Nothing; second = Nothing; ending = e }

-- ---- and what an answer says

abbrev pub message_meant : Sent → List Message
message_meant Nothing = []
message_meant (Byte interface cid cmd b) = message (place interface cid) (command_meant cmd) (b ∷ []) ∷ []

-- one that is refused says nothing, and the wait goes on
abbrev pub ending_meant : Ending → standard.Ending
ending_meant (ending.Refused number) = standard.not_yet
ending_meant ending.NotYet = standard.not_yet
ending_meant ending.Touched = standard.touched
ending_meant ending.Canceled = standard.cancelled
ending_meant ending.TimedOut = standard.timed_out
ending_meant (ending.Failed number) = standard.failed number

abbrev pub response_meant : Response → standard.Response
response_meant r = standard.respond (message_meant r.first ++ message_meant r.second) (ending_meant r.ending)
