-- Adding data to a message whose bytes stand at the front of a buffer. Assumes nothing.
use Rattle.std.specs.Prelude.{ℕ, ◌+◌, List, [], ◌∷◌, ◌++◌, length, take, drop, ltb}
use Rattle.ctaphid.specs.Choice.{pick, refusing}
use Rattle.collect.specs.declared.Added.{Added}
use Rattle.collect.specs.declared.Added.TheVariants.{Waiting, Whole, Refused}

-- a buffer with these bytes at its front, and the others as they were
abbrev pub front : List ℕ → List ℕ → List ℕ
front bytes buffer = bytes ++ drop (length bytes) buffer

-- all that a call leaves: its answer, and the buffer
pub record Adding : Type 0 where
  pub answer : Added
  pub message : List ℕ

abbrev pub added : Added → List ℕ → Adding
added a m = record { answer = a; message = m }

-- the bytes taken so far are the first `taken` of the buffer. Refusal 3: more were taken than declared, or more is declared than there is room for
unfoldable pub add_of : (buffer : List ℕ) → (taken declared : ℕ) → (field : List ℕ) → Adding
add_of m taken declared field =
    refusing (λ number. added (Refused number) m)
    ((ltb declared taken, 3) ∷ (ltb (length m) declared, 3) ∷ [])
    (pick (ltb (taken + length field) declared)
    (added (Waiting (taken + length field)) (front (take taken m ++ field) m))
    (added Whole (front (take declared (take taken m ++ field)) m)))
