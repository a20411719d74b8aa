-- The test for lengths and number due, and the facts, agree. Assumes nothing.
use Prim.Native.Nat.{ℕ, ◌+◌, ◌*◌}
use mathlib.Core.Path.{◌≡◌}
use mathlib.Core.Bool.{true}
use borrow.Author.Tests.{leb-true, ltb-true, eqb-true, le-leb, lt-ltb, eq-eqb}
use lib.Dec.{leb, ltb}
use Rattle.ctaphid.specs.Choice.{pick}
use Rattle.ctaphid.proofs.Tests.{pick_true}
use Rattle.collect.specs.Standing.{Stands, is_standing}

module _ (most declared taken due : ℕ) where
  pub stands-is : is_standing most declared taken due ≡ true → Stands most declared taken due
  unfolding is_standing
  stands-is e =
      let p₁ = pick_true (ltb 57 declared) _ e in
      let p₂ = pick_true (leb declared most) _ p₁.1 in
      let p₃ = pick_true (ltb (57 + 59 * due) declared) _ p₂.1 in
      record {
        long = ltb-true 57 declared p₁.0;
        within = leb-true declared most p₂.0;
        below = ltb-true (57 + 59 * due) declared p₃.0;
        bytes = eqb-true (57 + 59 * due) taken p₃.1;
      }

  pub is-standing : Stands most declared taken due → is_standing most declared taken due ≡ true
  unfolding is_standing pick
  is-standing t = simp (lt-ltb 57 declared t.long, le-leb declared most t.within, lt-ltb (57 + 59 * due) declared t.below, eq-eqb (57 + 59 * due) taken t.bytes)
