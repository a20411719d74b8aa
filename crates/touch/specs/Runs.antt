-- The code's wait over whole runs: as one of those that Waits is asked of, and with refused calls among the others. Assumes nothing.
use Rattle.std.specs.Prelude.{ℕ, ◌+◌, ◌≤◌, List, [], ◌∷◌, Bool, true, false}
use Rattle.ctaphid.specs.Choice.{pick}
use Rattle.ctaphid.specs.Touch as standard
use Rattle.ctaphid.specs.Touch.{Place, Arrival, Sensor, Moment}
use Rattle.ctaphid.specs.Waits.{AnyWait, going_on, Right}
use Rattle.touch.specs.declared.Wait.{Wait}
use Rattle.touch.specs.declared.Begun.{Begun}
use Rattle.touch.specs.declared.Begun.TheVariants as beginning
use Rattle.touch.specs.declared.UserPresence.{UserPresence}
use Rattle.touch.specs.declared.UserPresence.TheVariants as presence
use Rattle.touch.specs.declared.RecvStatus.{RecvStatus}
use Rattle.touch.specs.declared.RecvStatus.TheVariants as received
use Rattle.touch.specs.declared.Ending.{Ending}
use Rattle.touch.specs.declared.Ending.TheVariants.{Refused, NotYet, Touched, Canceled, TimedOut, Failed}
use Rattle.touch.specs.declared.Responded.{Responded}
use Rattle.touch.specs.Meaning.{response_meant}
use Rattle.touch.specs.Waiting.{begin_of, step_of}

-- ---- a call

abbrev pub presence_of : Sensor → UserPresence
presence_of standard.touch = presence.Touched
presence_of standard.timeout = presence.Timeout
presence_of (standard.error number) = presence.Failed number

abbrev pub received_of : Arrival → RecvStatus
received_of standard.none = received.Timeout
received_of (standard.packet i bytes) = received.Received i

-- where nothing arrived the packet is not looked at
abbrev pub bytes_of : Arrival → List ℕ
bytes_of standard.none = []
bytes_of (standard.packet i bytes) = bytes

abbrev pub called : Wait → Moment → Responded
called w m = step_of w m.time (presence_of m.sensor) (received_of m.arrival) (bytes_of m.arrival)

-- a beginning that is refused leaves none; here one that is over stands for it
abbrev pub begun_wait : Begun → Wait
begun_wait (beginning.Wait w) = w
begun_wait (beginning.Refused number) = record { deadline = 0; last = 0; interface = 0; cid = 0 }

abbrev pub begins : (active : Place) → (start limit : ℕ) → Wait
begins active start limit = begun_wait (begin_of active.interface active.channel start limit)

-- 'the code's wait': what its contracts say
abbrev pub the_code : AnyWait
the_code =
    record {
      State = Wait;
      begin = begins;
      step = λ w m. record { state = (called w m).wait; response = response_meant (called w m).response };
    }

-- ---- refused calls among the others

abbrev pub is_refused : Ending → Bool
is_refused (Refused number) = true
is_refused NotYet = false
is_refused Touched = false
is_refused Canceled = false
is_refused TimedOut = false
is_refused (Failed number) = false

-- the calls that are not refused, and what those are answered, up to the one that ends the wait
abbrev pub accepted : Wait → List Moment → List Moment
accepted w [] = []
accepted w (m ∷ rest) = pick (is_refused (called w m).response.ending) (accepted (called w m).wait rest) (m ∷ accepted (called w m).wait rest)

abbrev pub answered : Wait → List Moment → List standard.Response
answered w [] = []
answered w (m ∷ rest) =
    pick (is_refused (called w m).response.ending)
    (answered (called w m).wait rest)
    (response_meant (called w m).response ∷ going_on (response_meant (called w m).response).ending (answered (called w m).wait rest))

-- 'WaitsAmongRefused': whatever is called, at whatever times and with whatever packets
abbrev pub WaitsAmongRefused : Type 0
WaitsAmongRefused =
    (active : Place) (start limit : ℕ) (calls : List Moment) → start ≤ 0xffff_ffff_ffff
    → Right active (start + limit) (accepted (begins active start limit) calls) (answered (begins active start limit) calls)
