-- The digits that a line begins with, the number that they say, and a loop over them. Assumes nothing.
use Prim.Native.Nat.{ℕ, zero, suc, ◌+◌, ◌-◌, ◌*◌, ◌^◌, ◌≤◌, ◌<◌}
use native.Mathlib.Nat.{pow-suc, pow-le-pow_right, lt_of_lt_of_le}
use native.Mathlib.Numerals.{add-one}
use native.Mathlib.Omega.{arith}
use mathlib.Core.Path.{◌≡◌, sym, ap, ◌∙◌}
use mathlib.Core.Bool.{Bool, cond}
use mathlib.Core.List.{List, [], ◌∷◌, ◌++◌}
use lib.ListN.{length, take, drop, get_or, drop_of_length-le}
use lib.Seq.{drop-cons}
use Rattle.std.specs.Char.{is_ascii_digit}
use Rattle.bench_input.specs.Hex.{'0', '9', space}
use Rattle.bench_input.specs.Lines.{Decimal, number_from, digits_in}
use Rattle.bench_input.proofs.ReadBack.{by_bool, digit-is, digit_given}

-- those that a line begins with are digits
pub in-front : (l : List ℕ) → Decimal (take (digits_in l) l)
in-front [] = tt
in-front (c ∷ rest) =
    by_bool (is_ascii_digit c)
    (λ d. let e : digits_in (c ∷ rest) ≡ suc (digits_in rest) = ap (λ (b : Bool). cond b (1 + digits_in rest) 0) d ∙ omega arith in
    rw e ((digit-is c d).0, (digit-is c d).1, in-front rest))
    (λ d. let e : digits_in (c ∷ rest) ≡ 0 = ap (λ (b : Bool). cond b (1 + digits_in rest) 0) d in rw e tt)

-- digits with a space after them are all that the line begins with
pub before-space : (digits rest : List ℕ) → Decimal digits → digits_in (digits ++ (space ∷ rest)) ≡ length digits
before-space [] rest h = omega arith
before-space (d ∷ digits) rest h =
    ap (λ (b : Bool). cond b (1 + digits_in (digits ++ (space ∷ rest))) 0) (digit_given d h.0 h.1) ∙ omega (arith, before-space digits rest h.2)

pub digit_at : (digits : List ℕ) → Decimal digits → (i : ℕ) → i < length digits → ('0' ≤ get_or digits i 0) × (get_or digits i 0 ≤ '9')
digit_at [] h i l = absurd (omega arith)
digit_at (d ∷ digits) h zero l = (h.0, h.1)
digit_at (d ∷ digits) h (suc i) l = digit_at digits h.2 i (omega arith)

-- ---- a loop over the digits: what is left, one fewer a turn

pub drop-one : (l : List ℕ) (i : ℕ) → i < length l → drop i l ≡ get_or l i 0 ∷ drop (i + 1) l
drop-one l i h = drop-cons l i 0 h ∙ ap (λ (n : ℕ). get_or l i 0 ∷ drop n l) (sym (add-one i))

module _ (l : List ℕ) (i : ℕ) where
  pub number_more : (v : ℕ) → i < length l → number_from v (drop i l) ≡ number_from (10 * v + (get_or l i 0 - '0')) (drop (i + 1) l)
  number_more v h = ap (number_from v) (drop-one l i h)

  pub number-end : (v : ℕ) → length l ≤ i → number_from v (drop i l) ≡ v
  number-end v h = ap (number_from v) (drop_of_length-le l {i = i} h)

-- ---- 15 digits fit

pub below_more : (v d i : ℕ) → v < 10 ^ i → d < 10 → 10 * v + d < 10 ^ (i + 1)
below_more v d i h k = rw (add-one i, pow-suc) (omega arith)

pub below-most : (v i : ℕ) → i ≤ 15 → v < 10 ^ i → v < 10 ^ 15
below-most v i h k = lt_of_lt_of_le k (pow-le-pow_right (omega arith) h)
