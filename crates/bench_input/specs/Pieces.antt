-- Input that comes in pieces, cut into lines. Assumes nothing.
use Rattle.std.specs.Prelude.{ℕ, ◌+◌, min, List, [], ◌∷◌, ◌++◌, Result, Ok, Err, length, take, drop, ltb, ◌==◌}
use Rattle.std.specs.List.{position_or_len}
use Rattle.ctaphid.specs.Choice.{pick}
use Rattle.bench_input.specs.Refusing.{refusing}
use Rattle.packet.specs.declared.refusal.Refusal.{Refusal}
use Rattle.packet.specs.declared.refusal.Refusal.TheVariants.{Unsound}
use Rattle.collect.specs.Adding.{front}
use Rattle.bench_input.specs.declared.Cut.{Cut}
use Rattle.bench_input.specs.declared.Cut.TheVariants.{Whole, Part}

-- a line ends at the first newline
abbrev pub newline : ℕ
newline = 10

-- what a piece of input has of a line from a place on: up to a newline, or all
abbrev pub line_from : (input : List ℕ) (from : ℕ) → List ℕ
line_from input from = take (position_or_len (λ c. c == newline) (drop from input)) (drop from input)

-- how much of the line is kept, and the buffer
pub record Keeping : Type 0 where
  pub kept : ℕ
  pub line : List ℕ

abbrev pub keeping : ℕ → List ℕ → Keeping
keeping n l = record { kept = n; line = l }

-- a part is put right after what was kept, as much of it as there is room for
abbrev pub keep_of : (line : List ℕ) (kept : ℕ) (part : List ℕ) → Keeping
keep_of l kept part =
    keeping (min (kept + length part) (length l)) (front (take (length l) (take kept l ++ part)) l)

-- all that a call leaves: its answer, and the buffer
pub record Cutting : Type 0 where
  pub answer : Result Cut Refusal
  pub line : List ℕ

abbrev pub cutting : Result Cut Refusal → List ℕ → Cutting
cutting a l = record { answer = a; line = l }

-- the line is whole where its newline stands in the piece
abbrev pub cut_at : Keeping → (input : List ℕ) (end : ℕ) → Cutting
cut_at k input end =
    pick (ltb end (length input)) (cutting (Ok (Whole k.kept (end + 1))) k.line) (cutting (Ok (Part k.kept)) k.line)

-- refusal 3: more is kept than the buffer has, or the place is past the piece's end
unfoldable pub cut_of : (line : List ℕ) (kept : ℕ) (input : List ℕ) (from : ℕ) → Cutting
cut_of l kept input from =
    refusing (λ refusal. cutting (Err refusal) l)
    ((ltb (length l) kept, Unsound) ∷ (ltb (length input) from, Unsound) ∷ [])
    (cut_at (keep_of l kept (line_from input from)) input (from + length (line_from input from)))
