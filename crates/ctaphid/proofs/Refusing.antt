-- A list of tests with their numbers: the number of the first that holds, and what is known where none does. Assumes nothing.
use Prim.Native.Nat.{ℕ}
use mathlib.Core.Path.{◌≡◌, refl, sym, ap}
use mathlib.Core.List.{List, [], ◌∷◌}
use mathlib.Core.Bool.{Bool, true, false, cond, true≢false}
use borrow.Author.Tests.{eqb-false}
use lib.Dec.{eqb}
use Rattle.ctaphid.specs.Choice.{pick, refusing}
use Rattle.ctaphid.proofs.Tests.{pick_known, both-pick}

-- the first number, or 0
abbrev pub first_of : List (Bool × ℕ) → ℕ
first_of tests = refusing (λ number. number) tests 0

pub refused-by : {A : Type 0} (f : ℕ → A) (tests : List (Bool × ℕ)) (a : A) (n : ℕ) → n ≡ first_of tests → (n ≡ 0 → ⊥) → f n ≡ refusing f tests a
unfolding pick
refused-by f [] a n e some = absurd (some e)
refused-by f ((true, number) ∷ rest) a n e some = ap f e
refused-by f ((false, number) ∷ rest) a n e some = refused-by f rest a n e some

-- no number is 0
abbrev pub numbered : List (Bool × ℕ) → Bool
numbered [] = true
numbered ((test, number) ∷ rest) = cond (eqb number 0) false (numbered rest)

-- no test holds
abbrev pub Passed : List (Bool × ℕ) → Type 0
Passed [] = Unit {0}
Passed ((test, number) ∷ rest) = (test ≡ false) × Passed rest

pub passed : (tests : List (Bool × ℕ)) → numbered tests ≡ true → 0 ≡ first_of tests → Passed tests
unfolding pick
passed [] ok e = tt
passed ((true, number) ∷ rest) ok e = absurd (nonzero (eqb number 0) refl ok)
  where
    nonzero : (b : Bool) → eqb number 0 ≡ b → cond b false (numbered rest) ≡ true → ⊥
    nonzero true is k = true≢false (sym k)
    nonzero false is k = eqb-false number 0 is (sym e)
passed ((false, number) ∷ rest) ok e = (refl, passed rest (others (eqb number 0) ok) e)
  where
    others : (b : Bool) → cond b false (numbered rest) ≡ true → numbered rest ≡ true
    others true k = absurd (true≢false (sym k))
    others false k = k

pub none-refuse : {A : Type 0} (f : ℕ → A) (tests : List (Bool × ℕ)) (a : A) → Passed tests → refusing f tests a ≡ a
unfolding pick
none-refuse f [] a p = refl
none-refuse f ((test, number) ∷ rest) a p = simp p.0 (none-refuse f rest a p.1)

-- what holds of each number that may refuse
abbrev pub Each : (P : ℕ → Type 0) → List (Bool × ℕ) → Type 0
Each P [] = Unit {0}
Each P ((test, number) ∷ rest) = P number × Each P rest

-- what holds of each refusal, and of the answer where no test holds, holds however it ends
pub each_way : {A : Type 0} (P : A → Type 0) (f : ℕ → A) (tests : List (Bool × ℕ)) (a : A) → Each (λ n. P (f n)) tests → (Passed tests → P a) → P (refusing f tests a)
each_way P f [] a refused p = p tt
each_way P f ((test, number) ∷ rest) a refused p =
    pick_known P test (f number) _ (λ e. refused.0) (λ e. each_way P f rest a refused.1 (λ passed. p (e, passed)))

pub refused-or : {A : Type 0} (P : A → Type 0) (f : ℕ → A) (tests : List (Bool × ℕ)) (a : A) → ((n : ℕ) → P (f n)) → (Passed tests → P a) → P (refusing f tests a)
refused-or P f tests a refused p = each_way P f tests a (all tests) p
  where
    all : (tests : List (Bool × ℕ)) → Each (λ n. P (f n)) tests
    all [] = tt
    all ((test, number) ∷ rest) = (refused number, all rest)

pub either_way : {A : Type 0} (P : A → Type 0) (f : ℕ → A) (tests : List (Bool × ℕ)) (a : A) → ((n : ℕ) → P (f n)) → P a → P (refusing f tests a)
either_way P f tests a refused p = refused-or P f tests a refused (λ passed. p)

-- and what holds of two that go by the same tests
pub same_way : {A B : Type 0} (P : A → B → Type 0) (f : ℕ → A) (g : ℕ → B) (tests : List (Bool × ℕ)) (a : A) (b : B) → ((n : ℕ) → P (f n) (g n)) → (Passed tests → P a b) → P (refusing f tests a) (refusing g tests b)
same_way P f g [] a b refused p = p tt
same_way P f g ((test, number) ∷ rest) a b refused p =
    both-pick P test (f number) _ (g number) _ (λ e. refused number) (λ e. same_way P f g rest a b refused (λ passed. p (e, passed)))
