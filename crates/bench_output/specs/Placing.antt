-- A text put into a buffer at a place: what the functions that print owe each other. Assumes nothing.
use Rattle.std.specs.Prelude.{ℕ, zero, suc, ◌+◌, ◌/◌, ◌%◌, ◌≡◌, List, [], ◌∷◌, ◌++◌, length, take, drop, ltb}
use Rattle.ctaphid.specs.Choice.{pick}
use Rattle.bench_input.specs.Hex.{'0'}

-- a buffer with the text from a place on, and the others as they were
abbrev pub laid : (place : ℕ) → (text buffer : List ℕ) → List ℕ
laid place text buffer = take place buffer ++ text ++ drop (place + length text) buffer

-- what a call leaves: the place after the text, and the buffer
pub record Put (place : ℕ) (text buffer : List ℕ) (after : ℕ) (left : List ℕ) : Type 0 where
  pub next : after ≡ place + length text
  pub bytes : left ≡ laid place text buffer

-- a number of at most so many decimal digits, with no zero in front
unfoldable pub decimal : (most : ℕ) → ℕ → List ℕ
decimal zero n = []
decimal (suc most) n = pick (ltb n 10) [] (decimal most (n / 10)) ++ (('0' + n % 10) ∷ [])
