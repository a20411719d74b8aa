-- What beginning a wait, asking whether it is over, and a step leave. Assumes nothing.
use Rattle.std.specs.Prelude.{ℕ, ◌+◌, List, [], ◌∷◌, Bool, false, not, length, ltb, leb, eqb}
use Rattle.ctaphid.specs.Choice.{pick, refusing}
use Rattle.ctaphid.specs.Limits.{packet_size, last_time}
use Rattle.ctaphid.specs.Refusals.{untimely}
use Rattle.ctaphid.specs.Touch.{touch_step, Moment}
use Rattle.touch.specs.declared.Wait.{Wait}
use Rattle.touch.specs.declared.Begun.{Begun}
use Rattle.touch.specs.declared.Begun.TheVariants as beginning
use Rattle.touch.specs.declared.Elapsed.{Elapsed}
use Rattle.touch.specs.declared.Elapsed.TheVariants as elapsed
use Rattle.touch.specs.declared.UserPresence.{UserPresence}
use Rattle.touch.specs.declared.RecvStatus.{RecvStatus}
use Rattle.touch.specs.declared.RecvStatus.TheVariants.{Timeout, Received}
use Rattle.touch.specs.declared.Ending.TheVariants.{Refused}
use Rattle.touch.specs.declared.Responded.{Responded}
use Rattle.touch.specs.Meaning.{wait_meant, arrival_meant, sensor_meant, response_of, silent}

-- refusal 4: the time is above 2^48 - 1. There is no last time yet
unfoldable pub begin_of : (interface channel time limit : ℕ) → Begun
begin_of i c time limit =
    refusing beginning.Refused ((ltb last_time time, 4) ∷ []) (beginning.Wait (record { deadline = time + limit; last = time; interface = i; cid = c }))

-- refusal 4
unfoldable pub elapsed_of : Wait → (time : ℕ) → Elapsed
elapsed_of w time = refusing elapsed.Refused (untimely w.last time) (pick (leb w.deadline time) elapsed.Yes elapsed.No)

-- ---- a step

-- whether a packet arrived that isn't 64 bytes
abbrev pub is_cut : RecvStatus → (size : ℕ) → Bool
is_cut Timeout size = false
is_cut (Received i) size = not (eqb size packet_size)

abbrev pub moment_of : (time : ℕ) → UserPresence → RecvStatus → (packet : List ℕ) → Moment
moment_of time up rx p = record { time = time; arrival = arrival_meant rx p; sensor = sensor_meant up }

-- the last time is that of the step
abbrev pub at : (time : ℕ) → Wait → Wait
at time w = record { deadline = w.deadline; last = time; interface = w.interface; cid = w.cid }

abbrev pub refused_by : Wait → (number : ℕ) → Responded
refused_by w number = record { wait = w; response = silent (Refused number) }

-- refusals 1 and 4, then the standard's step
unfoldable pub step_of : Wait → (time : ℕ) → UserPresence → RecvStatus → (packet : List ℕ) → Responded
step_of w time up rx p =
    refusing (refused_by w)
    ((is_cut rx (length p), 1) ∷ untimely w.last time)
    (record { wait = at time w; response = response_of (touch_step (wait_meant w) (moment_of time up rx p)) })
