-- Definitions that go by tests. Assumes nothing.
use Rattle.std.specs.Prelude.{ℕ, Bool, true, false, cond, List, [], ◌∷◌, eqb}

-- the first where the test holds, and else the second: the library's `cond`, kept shut so that a proof follows one test at a time
unfoldable pub pick : {A : Type 0} → Bool → A → A → A
pick test a b = cond test a b

-- a list of tests, each with a refusal's number: the first that holds refuses; where none does, the last argument
abbrev pub refusing : {A : Type 0} → (ℕ → A) → List (Bool × ℕ) → A → A
refusing refused [] a = a
refusing refused ((test, number) ∷ rest) a = pick test (refused number) (refusing refused rest a)

-- whether all of these hold
abbrev pub every : List Bool → Bool
every [] = true
every (test ∷ []) = test
every (test ∷ (other ∷ rest)) = pick test (every (other ∷ rest)) false

-- whether a number is in a list, at whatever place and however often
unfoldable pub is_in : ℕ → List ℕ → Bool
is_in n [] = false
is_in n (m ∷ rest) = pick (eqb n m) true (is_in n rest)
