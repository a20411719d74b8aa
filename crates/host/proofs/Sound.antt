-- The test for a sound collection and the facts agree; what a sound one gives. Assumes nothing.
use Prim.Native.Nat.{ℕ, ◌≤◌, ◌<◌}
use native.Mathlib.Omega.{arith}
use native.Mathlib.Decide.{ℕ_discrete}
use mathlib.Core.Path.{◌≡◌}
use mathlib.Core.Bool.{Bool, true, false}
use borrow.Author.Tests.{leb-true, eqb-true, le-leb, lt-leb, eq-eqb, ne_eqb}
use lib.Dec.{leb, eqb}
use Rattle.ctaphid.specs.Choice.{pick}
use Rattle.ctaphid.specs.Limits.{largest}
use Rattle.ctaphid.proofs.Tests.{pick_true, pick_known}
use Rattle.collect.specs.Standing.{Stands, is_standing}
use Rattle.collect.proofs.Standing.{stands-is, is-standing}
use Rattle.host.specs.declared.Collection.{Collection}
use Rattle.host.specs.Meaning.{Sound, is_sound}

module _ (s : Collection) (space : ℕ) where
  abbrev Begins : Type 0
  Begins = (s.len ≤ 7609) × Stands space s.len s.taken s.seq

  begins-is : is_sound s space ≡ true → (s.len ≡ 0 → ⊥) → Begins
  unfolding is_sound
  begins-is =
      pick_known (λ (b : Bool). b ≡ true → (s.len ≡ 0 → ⊥) → Begins) (eqb s.len 0) _ _
      (λ e h z. absurd (z (eqb-true s.len 0 e)))
      (λ e h z. let p = pick_true (leb s.len largest) _ h in (leb-true s.len largest p.0, stands-is space s.len s.taken s.seq p.1))

  pub sound-is : is_sound s space ≡ true → Sound s space
  sound-is e = record { most = λ z. (begins-is e z).0; stands = λ z. (begins-is e z).1 }

  pub is-sound : Sound s space → is_sound s space ≡ true
  unfolding is_sound pick
  is-sound t = by-len (ℕ_discrete s.len 0)
    where
      by-len : Dec (s.len ≡ 0) → is_sound s space ≡ true
      by-len (yes z) = simp (eq-eqb _ _ z)
      by-len (no z) = simp (ne_eqb _ _ z, le-leb s.len largest (t.most z)) (is-standing space s.len s.taken s.seq (t.stands z))

  -- ---- what a `return` of the test meets
  pub sound_none : s.len ≡ 0 → true ≡ is_sound s space
  unfolding is_sound pick
  sound_none z = simp (eq-eqb _ _ z)

  pub sound-over : (s.len ≡ 0 → ⊥) → largest < s.len → false ≡ is_sound s space
  unfolding is_sound pick
  sound-over z h = simp (ne_eqb _ _ z, lt-leb s.len largest h)

  pub sound-begun : (b : Bool) → (s.len ≡ 0 → ⊥) → s.len ≤ largest → b ≡ is_standing space s.len s.taken s.seq → b ≡ is_sound s space
  unfolding is_sound pick
  sound-begun b z h e = simp (ne_eqb _ _ z, le-leb s.len largest h) e

  -- ---- what is known of a reply that is begun
  module _ (t : Sound s space) (some : s.len ≡ 0 → ⊥) where
    pub taken_of : s.taken ≤ s.len
    taken_of = let st = t.stands some in omega (arith, st.bytes, st.below)

    pub room_of : s.len ≤ space
    room_of = (t.stands some).within

    pub due-of : s.seq ≤ 127
    due-of = let st = t.stands some in omega (arith, st.below, t.most some)
