-- The wait for a touch as numbers, for C. Assumes nothing.
use Rattle.std.specs.Prelude.{ℕ, eqb}
use Rattle.ctaphid.specs.Choice.{pick}
use Rattle.ctaphid.specs.Commands.{number}
use Rattle.packet.specs.Numbers.{command_meant}
use Rattle.touch.specs.declared.Wait.{Wait}
use Rattle.touch.specs.declared.Begun.{Begun}
use Rattle.touch.specs.declared.Begun.TheVariants as beginning
use Rattle.touch.specs.declared.Elapsed.{Elapsed}
use Rattle.touch.specs.declared.Elapsed.TheVariants as elapsed
use Rattle.touch.specs.declared.UserPresence.{UserPresence}
use Rattle.touch.specs.declared.UserPresence.TheVariants as presence
use Rattle.touch.specs.declared.RecvStatus.{RecvStatus}
use Rattle.touch.specs.declared.RecvStatus.TheVariants as received
use Rattle.touch.specs.declared.Sent.{Sent as OneByte}
use Rattle.touch.specs.declared.Sent.TheVariants.{Nothing, Byte}
use Rattle.touch.specs.declared.Ending.{Ending}
use Rattle.touch.specs.declared.Ending.TheVariants.{Refused, NotYet, Touched, Canceled, TimedOut, Failed}
use Rattle.touch.specs.declared.Response.{Response}
use Rattle.touch.specs.declared.Responded.{Responded}
use Rattle.flat.specs.declared.waiting.Sent.{Sent}
use Rattle.flat.specs.declared.waiting.WaitOutcome.{WaitOutcome}
use Rattle.flat.specs.declared.waiting.MadeWait.{MadeWait}
use Rattle.flat.specs.declared.waiting.FlatWait.{FlatWait}

-- ---- what C says

-- 0 timeout, 1 touched, and any other number an error
unfoldable pub presence_told : (presence error : ℕ) → UserPresence
presence_told n e = pick (eqb n 0) presence.Timeout (pick (eqb n 1) presence.Touched (presence.Failed e))

-- a flag, and where it is not set the interface is not looked at
unfoldable pub received_told : (arrived interface : ℕ) → RecvStatus
received_told n i = pick (eqb n 0) received.Timeout (received.Received i)

-- ---- what C is told

abbrev pub sent_told : OneByte → Sent
sent_told Nothing = record { interface = 0; cid = 0; cmd = 0; byte = 0; spare = 0 }
sent_told (Byte i c cmd b) = record { interface = i; cid = c; cmd = number (command_meant cmd); byte = b; spare = 0 }

abbrev pub count_told : (first second : OneByte) → ℕ
count_told Nothing second = 0
count_told (Byte i c cmd b) Nothing = 1
count_told (Byte i c cmd b) (Byte i₂ c₂ cmd₂ b₂) = 2

abbrev pub ending_told : Ending → ℕ
ending_told (Refused n) = 0
ending_told NotYet = 1
ending_told Touched = 2
ending_told Canceled = 3
ending_told (Failed n) = 4
ending_told TimedOut = 5

abbrev pub error_told : Ending → ℕ
error_told (Refused n) = 0
error_told NotYet = 0
error_told Touched = 0
error_told Canceled = 0
error_told (Failed n) = n
error_told TimedOut = 0

abbrev pub refusal_told : Ending → ℕ
refusal_told (Refused n) = n
refusal_told NotYet = 0
refusal_told Touched = 0
refusal_told Canceled = 0
refusal_told (Failed n) = 0
refusal_told TimedOut = 0

abbrev pub wait_outcome_of : Response → WaitOutcome
wait_outcome_of r =
    record {
      first = sent_told r.first;
      second = sent_told r.second;
      count = count_told r.first r.second;
      ending = ending_told r.ending;
      error = error_told r.ending;
      refusal = refusal_told r.ending;
    }

-- ---- the calls

abbrev pub made_wait_of : (old : Wait) → Begun → MadeWait
made_wait_of old (beginning.Wait w) = record { wait = w; refusal = 0 }
made_wait_of old (beginning.Refused n) = record { wait = old; refusal = n }

abbrev pub elapsed_number : Elapsed → ℕ
elapsed_number elapsed.No = 0
elapsed_number elapsed.Yes = 1
elapsed_number (elapsed.Refused n) = n

abbrev pub flat_wait_of : Responded → FlatWait
flat_wait_of r = record { wait = r.wait; outcome = wait_outcome_of r.response }
