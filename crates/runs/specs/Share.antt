-- The code as a device of which demand 3 can be asked, whoever calls it. Assumes nothing.
use Rattle.std.specs.Prelude.{List, [], ◌∷◌}
use Rattle.ctaphid.specs.Settings.{Settings}
use Rattle.ctaphid.specs.Receiver.{is_on}
use Rattle.ctaphid.specs.Transport.{Event, Answer, nothing, Next, next, is_locked_by}
use Rattle.ctaphid.specs.Demands.{AnyDevice, Permitted, Taken, after, UnknownToldAtOnce, NoneShutOutByUnknown, GivesShare}
use Rattle.answers.specs.Answers.{Said, refused, answered}
use Rattle.hid.specs.declared.CtapHid.{CtapHid}
use Rattle.hid.specs.Meaning.{transport_of}
use Rattle.hid.specs.Hearing.{Stepping}
use Rattle.runs.specs.Steps.{Buffers, buffers, from_settings, on_event, said_by}
use Rattle.runs.specs.Lending.{Lends}

-- what there is between two calls: the state, both buffers as the last call left them, and the events so far, the latest first
pub record Held : Type 0 where
  pub hid : CtapHid
  pub left : Buffers
  pub past : List Event

-- the buffers that are lent for an event
abbrev pub Caller : Type 0
Caller = Held → Event → Buffers

-- the demands ask nothing of calls that are refused
abbrev pub answer_in : Said → Answer
answer_in (refused number) = nothing
answer_in (answered a) = a

abbrev pub left_by : Stepping → (past : List Event) → Next Held
left_by x past = next (record { hid = x.stepped.hid; left = buffers x.message x.reply; past = past }) (answer_in (said_by x))

abbrev pub code : Caller → AnyDevice
code lent =
    record {
      State = Held;
      set_up = λ set. record { hid = from_settings set; left = buffers [] []; past = [] };
      step = λ h e. left_by (on_event h.hid e (lent h e)) (e ∷ h.past);
      is_on = λ h c time. is_on (transport_of h.hid h.left.message).receiver c time;
      is_locked_by = λ h c time. is_locked_by (transport_of h.hid h.left.message).lock c time;
    }

-- a caller who lends as it must: with any settings that set-up takes, after any history without refusals, for any event that isn't refused
abbrev pub LendsWell : Caller → Type 0
LendsWell lent =
    (set : Settings) → Permitted set → (past : List Event) (e : Event) → Taken (e ∷ past)
    → Lends (after (code lent) set past).hid e.time (after (code lent) set past).left.message (lent (after (code lent) set past) e)

-- demand 3, of the code
abbrev pub CodeGivesShare : Type 0
CodeGivesShare = (lent : Caller) → LendsWell lent → GivesShare (code lent)

-- and that an unknown command is told so at its first packet, and never makes another channel busy
abbrev pub CodeTellsUnknownAtOnce : Type 0
CodeTellsUnknownAtOnce = (lent : Caller) → LendsWell lent → UnknownToldAtOnce (code lent)

abbrev pub CodeShutsNoneOutByUnknown : Type 0
CodeShutsNoneOutByUnknown = (lent : Caller) → LendsWell lent → NoneShutOutByUnknown (code lent)
