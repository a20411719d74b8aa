-- A message that is half there: its lengths and the number due, as facts and as a test. Assumes nothing.
use Rattle.std.specs.Prelude.{ℕ, ◌+◌, ◌*◌, ◌≤◌, ◌<◌, ◌≡◌, [], ◌∷◌, Bool, ltb, leb, eqb}
use Rattle.ctaphid.specs.Choice.{every}

-- more is declared than the first data field holds, and at most so much; the packets so far filled their data fields, and more is due
pub record Stands (most declared taken due : ℕ) : Type 0 where
  pub long : 57 < declared
  pub within : declared ≤ most
  pub below : 57 + 59 * due < declared
  pub bytes : 57 + 59 * due ≡ taken

unfoldable pub is_standing : (most declared taken due : ℕ) → Bool
is_standing most declared taken due =
    every (ltb 57 declared ∷ leb declared most ∷ ltb (57 + 59 * due) declared ∷ eqb (57 + 59 * due) taken ∷ [])
