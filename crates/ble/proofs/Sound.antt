-- The test for a sound collection and the facts agree. Assumes nothing.
use Prim.Native.Nat.{ℕ, ◌≤◌, ◌<◌}
use native.Mathlib.Decide.{ℕ_discrete}
use mathlib.Core.Path.{◌≡◌}
use mathlib.Core.Bool.{Bool, true}
use borrow.Author.Tests.{leb-true, ltb-true, eqb-true, le-leb, lt-ltb, eq-eqb, ne_eqb}
use lib.Dec.{leb, ltb, eqb}
use Rattle.ctaphid.specs.Choice.{pick}
use Rattle.ctaphid.proofs.Tests.{pick_true, pick_known}
use Rattle.host.specs.declared.Collection.{Collection}
use Rattle.ble.specs.Soundness.{Sound, is_sound}

module _ (s : Collection) (space : ℕ) where
  begun : is_sound s space ≡ true → (s.len ≡ 0 → ⊥) → (s.taken < s.len) × (s.len ≤ space) × (s.seq ≤ 127)
  unfolding is_sound
  begun =
      pick_known (λ (b : Bool). b ≡ true → (s.len ≡ 0 → ⊥) → (s.taken < s.len) × (s.len ≤ space) × (s.seq ≤ 127)) (eqb s.len 0) _ _
      (λ e h z. absurd (z (eqb-true s.len 0 e)))
      (λ e h z.
      let p = pick_true (ltb s.taken s.len) _ h in
      let q = pick_true (leb s.len space) _ p.1 in
      (ltb-true s.taken s.len p.0, leb-true s.len space q.0, leb-true s.seq 127 q.1))

  pub sound-is : is_sound s space ≡ true → Sound s space
  sound-is e = record { more = λ z. (begun e z).0; room = λ z. (begun e z).1; due = λ z. (begun e z).2 }

  pub is-sound : Sound s space → is_sound s space ≡ true
  unfolding is_sound pick
  is-sound t = by-len (ℕ_discrete s.len 0)
    where
      by-len : Dec (s.len ≡ 0) → is_sound s space ≡ true
      by-len (yes z) = simp (eq-eqb _ _ z)
      by-len (no z) = simp (ne_eqb _ _ z, lt-ltb s.taken s.len (t.more z), le-leb s.len space (t.room z)) (le-leb s.seq 127 (t.due z))
