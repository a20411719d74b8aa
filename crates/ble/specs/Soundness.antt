-- A sound collection over Bluetooth, as facts and as a test: none is begun, or bytes taken < declared length ≤ buffer, and the number due is at most 127. Assumes nothing.
use Rattle.std.specs.Prelude.{ℕ, ◌≤◌, ◌<◌, ◌≡◌, [], ◌∷◌, Bool, true, ltb, leb, eqb}
use Rattle.ctaphid.specs.Choice.{pick, every}
use Rattle.host.specs.declared.Collection.{Collection}

pub record Sound (s : Collection) (space : ℕ) : Type 0 where
  pub more : (s.len ≡ 0 → ⊥) → s.taken < s.len
  pub room : (s.len ≡ 0 → ⊥) → s.len ≤ space
  pub due : (s.len ≡ 0 → ⊥) → s.seq ≤ 127

unfoldable pub is_sound : Collection → (space : ℕ) → Bool
is_sound s space =
    pick (eqb s.len 0) true (every (ltb s.taken s.len ∷ leb s.len space ∷ leb s.seq 127 ∷ []))
