-- Why a step is refused. Assumes nothing.
use Rattle.std.specs.Prelude.{ℕ, List, ◌∷◌, Bool, not, ltb, eqb}
use Rattle.ctaphid.specs.Choice.{refusing}
use Rattle.ctaphid.specs.Limits.{packet_size, short_reply}
use Rattle.ctaphid.specs.Refusals.{untimely}
use Rattle.hid.specs.declared.CtapHid.{CtapHid}
use Rattle.hid.specs.Soundness.{is_sound}

-- a step's refusals, in this order: 1, the packet isn't 64 bytes; 2, a buffer is short; 3, what is stepped is not sound; 4. Each of the last three is the
-- length of what was lent
abbrev pub refusals_where : (sound : Bool) → (maximum last time packet message short : ℕ) → List (Bool × ℕ)
refusals_where sound max last time packet message short =
    (not (eqb packet packet_size), 1)
    ∷ (ltb message max, 2)
    ∷ (ltb short short_reply, 2)
    ∷ (not sound, 3)
    ∷ untimely last time

-- of a transport's state, and of a wink that runs until then
abbrev pub refusals : CtapHid → (wink time packet message short : ℕ) → List (Bool × ℕ)
refusals s wink time packet message short = refusals_where (is_sound s wink) s.max s.last time packet message short

-- the first that refuses, or 0
abbrev pub refused_time : (last time : ℕ) → ℕ
refused_time last time = refusing (λ number. number) (untimely last time) 0

unfoldable pub refusal_of : CtapHid → (wink time packet message short : ℕ) → ℕ
refusal_of s wink time packet message short = refusing (λ number. number) (refusals s wink time packet message short) 0
