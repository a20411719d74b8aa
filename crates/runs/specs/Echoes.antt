-- C-18: every echo can be sent, so no call is refused because one can't be. Assumes nothing.
use Rattle.std.specs.Prelude.{ℕ, ◌≤◌, ◌≡◌, List, [], ◌∷◌, Bool}
use Rattle.ctaphid.specs.Packets.{Bytes}
use Rattle.ctaphid.specs.Settings.{Settings}
use Rattle.answers.specs.declared.Answer.{Answer}
use Rattle.answers.specs.declared.Answer.TheVariants.{Refused, Nothing, Message, Echo, Reply}
use Rattle.answers.specs.Answers.{Said, refused}
use Rattle.hid.specs.declared.CtapHid.{CtapHid}
use Rattle.hid.specs.declared.MainHid.{MainHid}
use Rattle.hid.specs.Transport.{step_of}
use Rattle.hid.specs.MainHid.{main_step_of}
use Rattle.runs.specs.Steps.{from_settings, main_from_settings}
use Rattle.runs.specs.Lending.{Call, run_of, on_call, main_on_call}

-- an echo has at most 7,609 bytes, which is all that a message may have (§11.2.4), and a refusal isn't 8, which once was the refusal of a longer one
abbrev pub Fits : Answer → Type 0
Fits (Refused number) = number ≡ 8 → ⊥
Fits Nothing = Unit {0}
Fits (Message c cmd len) = Unit {0}
Fits (Echo c cmd len) = len ≤ 7609
Fits (Reply c cmd len) = Unit {0}

-- none of the answers is refusal 8
abbrev pub NoneIs8 : List Said → Type 0
NoneIs8 [] = Unit {0}
NoneIs8 (a ∷ rest) = (a ≡ refused 8 → ⊥) × NoneIs8 rest

-- so for the transport and for the device. Of a step nothing is asked but that its packet has bytes: it is so from every sound state, and any other is refused
-- by another number. Of a run from set-up nothing is asked at all: each call lends what buffers it likes, and any may be refused
pub record EchoFits : Type 0 where
  pub step : (s : CtapHid) (time : ℕ) (disabled : Bool) (packet message short : List ℕ) → Bytes packet → Fits (step_of s time disabled packet message short).stepped.answer
  pub main_step : (o : MainHid) (time : ℕ) (disabled : Bool) (packet message short : List ℕ) → Bytes packet → Fits (main_step_of o time disabled packet message short).stepped.answer
  pub run : (set : Settings) (calls : List Call) → NoneIs8 (run_of on_call (from_settings set) calls)
  pub main_run : (set : Settings) (calls : List Call) → NoneIs8 (run_of main_on_call (main_from_settings set) calls)
