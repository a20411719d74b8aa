-- To go when ctaphid's `refusing` takes refusals. Assumes nothing.
use Rattle.std.specs.Prelude.{Bool, List, [], ◌∷◌}
use Rattle.ctaphid.specs.Choice.{pick}

-- a list of tests, each with its refusal: the first that holds refuses; where none does, the last argument
abbrev pub refusing : {R A : Type 0} → (R → A) → List (Bool × R) → A → A
refusing refused [] a = a
refusing refused ((test, refusal) ∷ rest) a = pick test (refused refusal) (refusing refused rest a)
