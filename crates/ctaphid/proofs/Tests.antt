-- A test in a definition, and the test in the code that led to a `return`: `search tests` puts them together. Assumes nothing.
use mathlib.Core.Path.{◌≡◌, refl, sym}
use mathlib.Core.Bool.{Bool, true, false, true≢false}
use borrow.Author.Tests.{lt-ltb, le-ltb, le-leb, lt-leb, eq-eqb, ne_eqb}
use Rattle.ctaphid.specs.Choice.{pick}

pub yes-pick : {A : Type 0} (test : Bool) (r a b : A) → test ≡ true → r ≡ a → r ≡ pick test a b
unfolding pick
yes-pick test r a b e k = simp e k

pub no-pick : {A : Type 0} (test : Bool) (r a b : A) → test ≡ false → r ≡ b → r ≡ pick test a b
unfolding pick
no-pick test r a b e k = simp e k

pub pick_same : {A : Type 0} (test : Bool) (a : A) → pick test a a ≡ a
unfolding pick
pick_same true a = refl
pick_same false a = refl

-- two tests of which both hold
pub pick_true : (a b : Bool) → pick a b false ≡ true → (a ≡ true) × (b ≡ true)
unfolding pick
pick_true true b e = (refl, e)
pick_true false b e = absurd (true≢false (sym e))

-- what holds of both holds of either; and what holds of each where its test holds
pub pick-both : {A : Type 0} (P : A → Type 0) (test : Bool) (a b : A) → P a → P b → P (pick test a b)
unfolding pick
pick-both P true a b p q = p
pick-both P false a b p q = q

pub pick_known : {A : Type 0} (P : A → Type 0) (test : Bool) (a b : A) → (test ≡ true → P a) → (test ≡ false → P b) → P (pick test a b)
unfolding pick
pick_known P true a b p q = p refl
pick_known P false a b p q = q refl

-- and of two that go by one test
pub both-pick : {A B : Type 0} (P : A → B → Type 0) (test : Bool) (a b : A) (x y : B) → (test ≡ true → P a x) → (test ≡ false → P b y) → P (pick test a b) (pick test x y)
unfolding pick
both-pick P true a b x y p q = p refl
both-pick P false a b x y p q = q refl

pub ruleset tests = (lt-ltb, le-ltb, le-leb, lt-leb, eq-eqb, ne_eqb, yes-pick, no-pick)
