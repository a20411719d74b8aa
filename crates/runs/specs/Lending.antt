-- Runs of the code, for which the caller lends both buffers anew at every call: what the caller owes, and that the answers are the standard's. Assumes nothing.
use Rattle.std.specs.Prelude.{ℕ, ◌<◌, ◌≡◌, List, [], ◌∷◌, map, take}
use Rattle.ctaphid.specs.Settings.{Settings}
use Rattle.ctaphid.specs.Receiver.{still_due}
use Rattle.ctaphid.specs.Transport.{Event, fresh, step, afterwards, run}
use Rattle.ctaphid.specs.Device.{set_up, device_step, device_run}
use Rattle.ctaphid.specs.Demands.{Permitted}
use Rattle.answers.specs.Answers.{Said, answered}
use Rattle.hid.specs.declared.CtapHid.{CtapHid}
use Rattle.hid.specs.declared.MainHid.{MainHid}
use Rattle.hid.specs.Hearing.{Stepping}
use Rattle.hid.specs.MainHid.{MainStepping}
use Rattle.runs.specs.Steps.{Buffers, from_settings, main_from_settings, on_event, main_on_event, said_by, main_said_by, Comes, Roomy}

pub record Call : Type 0 where
  pub event : Event
  pub lent : Buffers

-- ---- what the caller owes

-- a transaction is on
pub record On (s : CtapHid) (time : ℕ) : Type 0 where
  pub begun : s.assembler.len ≡ 0 → ⊥
  pub live : time < s.assembler.deadline

-- the short buffer is any with 17 bytes or more, and the message buffer any that is as long as the maximum. While a transaction is on, the bytes taken so far
-- stand at its front, as the call before left them. Nothing else is asked: between messages, past the bytes taken and in the short buffer any bytes may stand
pub record Lends (s : CtapHid) (time : ℕ) (left : List ℕ) (b : Buffers) : Type 0 where
  pub roomy : Roomy s b
  pub kept : On s time → take s.assembler.taken b.message ≡ take s.assembler.taken left

-- ---- runs of any code over such a state

-- what a call does: the state after it, what it says, and the message buffer as it leaves it
pub record Done (S : Type 0) : Type 0 where
  pub state : S
  pub told : Said
  pub left : List ℕ

abbrev pub run_of : {S : Type 0} → (S → Call → Done S) → S → List Call → List Said
run_of f s [] = []
run_of f s (c ∷ rest) = (f s c).told ∷ run_of f (f s c).state rest

-- no call is refused, and each lends as it must. `left` is what the call before left of its message buffer
abbrev pub Lent : {S : Type 0} → (hid : S → CtapHid) → (S → Call → Done S) → S → (left : List ℕ) → List Call → Type 0
Lent hid f s left [] = Unit {0}
Lent hid f s left (c ∷ rest) =
    Comes (hid s).last c.event × Lends (hid s) c.event.time left c.lent × Lent hid f (f s c).state (f s c).left rest

-- the state after a run
abbrev pub state_after : {S : Type 0} → (S → Call → Done S) → S → List Call → S
state_after f s [] = s
state_after f s (c ∷ rest) = state_after f (f s c).state rest

-- ---- the transport, and the device

abbrev pub done : Stepping → Done CtapHid
done x = record { state = x.stepped.hid; told = said_by x; left = x.message }

abbrev pub main_done : MainStepping → Done MainHid
main_done x = record { state = x.stepped.hid; told = main_said_by x; left = x.message }

abbrev pub on_call : CtapHid → Call → Done CtapHid
on_call s c = done (on_event s c.event c.lent)

abbrev pub main_on_call : MainHid → Call → Done MainHid
main_on_call o c = main_done (main_on_event o c.event c.lent)

-- Equality, whatever the settings that set-up takes, every list of vendor commands among them: from set-up on, the code's answers are the standard's, and none is a refusal. Before the first call there is nothing to be left
abbrev pub RunsAlike : Type 0
RunsAlike =
    (set : Settings) (cs : List Call) → Permitted set → Lent (λ s. s) on_call (from_settings set) [] cs
    → run_of on_call (from_settings set) cs ≡ map answered (run (fresh set) (map (λ c. c.event) cs))

abbrev pub MainRunsAlike : Type 0
MainRunsAlike =
    (set : Settings) (cs : List Call) → Permitted set → Lent (λ o. o.hid) main_on_call (main_from_settings set) [] cs
    → run_of main_on_call (main_from_settings set) cs ≡ map answered (device_run (set_up set) (map (λ c. c.event) cs))

-- What the light reads: in the state after any such run, set-up's and each between two calls among them, the number of continuation packets still due is the standard's
abbrev pub DueAlike : Type 0
DueAlike =
    (set : Settings) (cs : List Call) → Permitted set → Lent (λ s. s) on_call (from_settings set) [] cs
    → (state_after on_call (from_settings set) cs).still_due ≡ still_due (afterwards step (fresh set) (map (λ c. c.event) cs)).receiver

abbrev pub MainDueAlike : Type 0
MainDueAlike =
    (set : Settings) (cs : List Call) → Permitted set → Lent (λ o. o.hid) main_on_call (main_from_settings set) [] cs
    → (state_after main_on_call (main_from_settings set) cs).hid.still_due ≡ still_due (afterwards device_step (set_up set) (map (λ c. c.event) cs)).transport.receiver
