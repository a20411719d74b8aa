-- What a step of the transport leaves. Assumes nothing.
use Rattle.std.specs.Prelude.{ℕ, List, Bool, length}
use Rattle.ctaphid.specs.Choice.{refusing}
use Rattle.ctaphid.specs.Packets.{read}
use Rattle.answers.specs.declared.Answer.TheVariants.{Refused}
use Rattle.hid.specs.declared.CtapHid.{CtapHid}
use Rattle.hid.specs.Refusals.{refusals}
use Rattle.hid.specs.Hearing.{Stepping, stepping, heard_of}

-- checks 1 to 7 behind the refusals, for a state whose wink runs until then. A refused call leaves all as it came
unfoldable pub admitted_of : CtapHid → (wink time : ℕ) → (disabled : Bool) → (packet message short : List ℕ) → Stepping
admitted_of s wink time disabled p m r =
    refusing (λ number. stepping (record { hid = s; answer = Refused number }) m r)
    (refusals s wink time (length p) (length m) (length r))
    (heard_of s time disabled (read p) m r)

-- a transport by itself has no wink
abbrev pub step_of : CtapHid → (time : ℕ) → (disabled : Bool) → (packet message short : List ℕ) → Stepping
step_of s time disabled p m r = admitted_of s 0 time disabled p m r
