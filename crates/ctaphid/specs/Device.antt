-- The device over its transport: wink, and the hand-over of MSG, CBOR and vendor commands (§11.2.9.2.1). Check 8 of docs/RULES.md. It sends no KEEPALIVE (DIFFERENCES 25).
-- Assumes nothing.
use Rattle.std.specs.Prelude.{ℕ, ◌+◌, ◌≡◌, List, [], Bool, length, ltb, eqb}
use Rattle.ctaphid.specs.Choice.{pick, is_in}
use Rattle.ctaphid.specs.Commands.{Command, MSG, WINK, is}
use Rattle.ctaphid.specs.Errors.{InvalidCmd, InvalidLen}
use Rattle.ctaphid.specs.Limits.{wink_time}
use Rattle.ctaphid.specs.Settings.{Settings, listing}
use Rattle.ctaphid.specs.Transport.{Transport, Event, Answer, nothing, reply, request, Next, next, error, fresh, step, answers_of}

-- the transport, and the time from which on no wink runs
pub record Device : Type 0 where
  pub transport : Transport
  pub wink : ℕ

abbrev pub device : Transport → ℕ → Device
device d until = record { transport = d; wink = until }

-- §11.2.9.2.1: WINK has no data (DIFFERENCES 22)
unfoldable pub on_wink : Transport → (time channel : ℕ) → List ℕ → Next Device
on_wink d time c payload =
    pick (eqb (length payload) 0)
    (next (device d (time + wink_time)) (reply c WINK []))
    (next (device d 0) (error c InvalidLen))

-- §11.2.9.1.1: without U2F there is no MSG (DIFFERENCES 23)
unfoldable pub on_msg : Transport → (channel : ℕ) → List ℕ → Next Device
on_msg d c payload = pick d.settings.u2f (next (device d 0) (request c MSG payload)) (next (device d 0) (error c InvalidCmd))

-- what was handed out
unfoldable pub on_request : Transport → (time channel : ℕ) → Command → List ℕ → Next Device
on_request d time c cmd payload =
    pick (is cmd WINK) (on_wink d time c payload) (pick (is cmd MSG) (on_msg d c payload) (next (device d 0) (request c cmd payload)))

-- check 8. Any message or reply ends a wink, error replies included (DIFFERENCES 24)
unfoldable pub answered : (time wink : ℕ) → Transport → Answer → Next Device
answered time wink d nothing = next (device d wink) nothing
answered time wink d (reply c cmd payload) = next (device d 0) (reply c cmd payload)
answered time wink d (request c cmd payload) = on_request d time c cmd payload

abbrev pub above : (time wink : ℕ) → Next Transport → Next Device
above time wink n = answered time wink n.state n.answer

abbrev pub set_up : Settings → Device
set_up set = device (fresh set) 0

-- checks 1 to 8
abbrev pub device_step : Device → Event → Next Device
device_step o e = above e.time o.wink (step o.transport e)

-- the question whether a wink runs
abbrev pub is_winking : Device → (time : ℕ) → Bool
is_winking o time = ltb time o.wink

-- the answers of a run of steps
abbrev pub device_run : Device → List Event → List Answer
device_run o es = answers_of device_step o es

-- of the list of vendor commands only what is in it counts, not its order, nor how often a number stands there
abbrev pub OnlyMembersCount : Type 0
OnlyMembersCount =
    (set : Settings) (l : List ℕ) → ((n : ℕ) → is_in n l ≡ is_in n set.vendor) → (events : List Event) → device_run (set_up (listing l set)) events ≡ device_run (set_up set) events
