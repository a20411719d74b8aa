-- The bits of the vendor commands: what set-up leaves, and what a test of a bit tells. Assumes nothing.
use Prim.Native.Nat.{ℕ, zero, suc, ◌+◌, ◌-◌, ◌*◌, ◌^◌, ◌/◌, ◌%◌, ◌≤◌, ◌<◌}
use native.Mathlib.Omega.{arith}
use native.Mathlib.Decide.{dec_le, dec_lt, ℕ_discrete}
use native.Mathlib.Nat.{div-eq_of_lt, one-mul}
use mathlib.Core.Path.{◌≡◌, refl, sym, ap, subst, ◌∙◌}
use mathlib.Core.List.{List, [], ◌∷◌}
use mathlib.Core.Bool.{Bool, true, false, true≢false}
use borrow.Author.Tests.{eq-eqb, ne_eqb, eqb-true}
use lib.Bits.{bit_and, bit_or, or_shr, or_mod, or_lt, or_zero_r, and_mask, shifted_even}
use lib.Pow.{pow-add, pow-lt, pow_pos, shl_exact, shl-shr}
use lib.Dec.{eqb, lit<}
use lib.ListN.{length, get_or, drop, drop_of_length-le}
use lib.Seq.{drop-cons}
use Rattle.ctaphid.specs.Choice.{pick, is_in}
use Rattle.ctaphid.specs.Commands.{is_vendor}
use Rattle.ctaphid.proofs.Tests.{pick_true, pick_known}
use Rattle.ctaphid.proofs.Commands.{vendor-range, is-vendor}
use Rattle.known.specs.declared.vendor.Listed.TheVariants.{Bits, Foreign}
use Rattle.known.specs.Vendor.{has_bit, set_among, vendor_of, all_vendor, bit_of, bits_with, bits_of, listed_of, LeavesJustTheList}

-- ---- bits

-- a power of two has one bit
one_bit : (j : ℕ) → 2 ^ j / 2 ^ j % 2 ≡ 1
one_bit j = ap (λ (x : ℕ). x / 2 ^ j % 2) (sym (one-mul (2 ^ j))) ∙ ap (λ (x : ℕ). x % 2) (shl-shr 1 j)

above-bit : (j i : ℕ) → j < i → 2 ^ j / 2 ^ i % 2 ≡ 0
above-bit j i h = ap (λ (x : ℕ). x % 2) (div-eq_of_lt (pow-lt h))

below-bit : (i k : ℕ) → 2 ^ (suc k + i) / 2 ^ i % 2 ≡ 0
below-bit i k =
    ap (λ (x : ℕ). x / 2 ^ i % 2) (pow-add 2 (suc k) i) ∙ (ap (λ (x : ℕ). x % 2) (shl-shr (2 ^ suc k) i) ∙ (ap (λ (x : ℕ). x % 2) (sym (one-mul (2 ^ suc k))) ∙ shifted_even 1 k))

other-bit : (j i : ℕ) → (i ≡ j → ⊥) → 2 ^ j / 2 ^ i % 2 ≡ 0
other-bit j i h = by_order (dec_lt j i)
  where
    by_order : Dec (j < i) → 2 ^ j / 2 ^ i % 2 ≡ 0
    by_order (yes l) = above-bit j i l
    by_order (no l) =
        let k : ℕ = j - i - 1 in
        let is : suc k + i ≡ j = omega arith in
        ap (λ (x : ℕ). 2 ^ x / 2 ^ i % 2) (sym is) ∙ below-bit i k

or-bit : (a b i : ℕ) → bit_or a b / 2 ^ i % 2 ≡ bit_or (a / 2 ^ i % 2) (b / 2 ^ i % 2)
or-bit a b i = ap (λ (x : ℕ). x % 2) (or_shr a b i) ∙ or_mod (a / 2 ^ i) (b / 2 ^ i) 1

-- ---- one more number's bit, among bits
module _ (bits m n : ℕ) (m-low : 64 ≤ m) (n-low : 64 ≤ n) where
  pub one_more : has_bit (bit_or bits (bit_of m)) n ≡ pick (eqb n m) true (has_bit bits n)
  unfolding has_bit pick
  one_more = by_number (ℕ_discrete n m)
    where
      -- a bit is 0 or 1
      or-one : (b : ℕ) → b < 2 → bit_or b 1 ≡ 1
      or-one zero h = refl
      or-one (suc zero) h = refl
      or-one (suc (suc b)) h = absurd (omega arith)

      split : bit_or bits (bit_of m) / 2 ^ (n - 64) % 2 ≡ bit_or (bits / 2 ^ (n - 64) % 2) (bit_of m / 2 ^ (n - 64) % 2)
      split = or-bit bits (bit_of m) (n - 64)

      by_number : Dec (n ≡ m) → eqb (bit_or bits (bit_of m) / 2 ^ (n - 64) % 2) 1 ≡ pick (eqb n m) true (eqb (bits / 2 ^ (n - 64) % 2) 1)
      by_number (yes e) =
          let own : bit_of m / 2 ^ (n - 64) % 2 ≡ 1 = ap (λ (x : ℕ). 2 ^ (x - 64) / 2 ^ (n - 64) % 2) (sym e) ∙ one_bit (n - 64) in
          let is : bit_or bits (bit_of m) / 2 ^ (n - 64) % 2 ≡ 1 = split ∙ (ap (bit_or (bits / 2 ^ (n - 64) % 2)) own ∙ or-one (bits / 2 ^ (n - 64) % 2) (omega arith)) in
          simp (eq-eqb n m e) (eq-eqb _ 1 is)
      by_number (no e) =
          let other : bit_of m / 2 ^ (n - 64) % 2 ≡ 0 = other-bit (m - 64) (n - 64) (λ z. e (omega arith)) in
          let is : bit_or bits (bit_of m) / 2 ^ (n - 64) % 2 ≡ bits / 2 ^ (n - 64) % 2 = split ∙ (ap (bit_or (bits / 2 ^ (n - 64) % 2)) other ∙ or_zero_r (bits / 2 ^ (n - 64) % 2)) in
          simp (ne_eqb n m e) (ap (λ (x : ℕ). eqb x 1) is)

-- ---- the numbers whose bits are set
module _ (bits n : ℕ) where
  -- with the first of them, whose bit is set or not
  with_first : (b : Bool) (first : ℕ) (others : List ℕ) (is : Bool) → (n ≡ first → b ≡ is) → ((n ≡ first → ⊥) → is_in n others ≡ is) → (n ≡ first → is_in n others ≡ false) → is_in n (pick b (first ∷ others) others) ≡ is
  unfolding is_in pick
  with_first b first others is own rest none = by_number b own (ℕ_discrete n first)
    where
      by_number : (c : Bool) → (n ≡ first → c ≡ is) → Dec (n ≡ first) → is_in n (pick c (first ∷ others) others) ≡ is
      by_number true here (yes e) = simp (eq-eqb n first e) (here e)
      by_number false here (yes e) = none e ∙ here e
      by_number true here (no e) = simp (ne_eqb n first e) (rest e)
      by_number false here (no e) = rest e

  among_none : (k first : ℕ) → (first ≤ n → n < first + k → ⊥) → is_in n (set_among bits k first) ≡ false
  unfolding is_in set_among
  among_none zero first h = refl
  among_none (suc k) first h =
      let rest : is_in n (set_among bits k (first + 1)) ≡ false = among_none k (first + 1) (λ low high. h (omega arith) (omega arith)) in
      with_first (has_bit bits first) first (set_among bits k (first + 1)) false (λ e. absurd (h (omega arith) (omega arith))) (λ e. rest) (λ e. rest)

  among-is : (k first : ℕ) → first ≤ n → n < first + k → is_in n (set_among bits k first) ≡ has_bit bits n
  unfolding set_among
  among-is zero first low high = absurd (omega arith)
  among-is (suc k) first low high =
      with_first (has_bit bits first) first (set_among bits k (first + 1)) (has_bit bits n) (λ e. ap (has_bit bits) (sym e))
      (λ e. among-is k (first + 1) (after e) (omega arith)) (λ e. among_none k (first + 1) (λ l h. omega arith))
    where
      after : (n ≡ first → ⊥) → first + 1 ≤ n
      after e = omega arith

  pub allowed-is : 64 ≤ n → n ≤ 127 → is_in n (vendor_of bits) ≡ has_bit bits n
  allowed-is low high = among-is 64 64 low (omega arith)

-- ---- a list, each of which is the vendor's
pub all-vendor-in : (l : List ℕ) (n : ℕ) → all_vendor l ≡ true → is_in n l ≡ true → (64 ≤ n) × (n ≤ 127)
unfolding all_vendor is_in
all-vendor-in [] n all h = absurd (true≢false (sym h))
all-vendor-in (m ∷ rest) n all h =
    let p = pick_true (is_vendor m) (all_vendor rest) all in
    pick_known (λ (b : Bool). b ≡ true → (64 ≤ n) × (n ≤ 127)) (eqb n m) _ _
    (λ e k. subst (λ (x : ℕ). (64 ≤ x) × (x ≤ 127)) (sym (eqb-true n m e)) (vendor-range m p.0))
    (λ e k. all-vendor-in rest n p.1 k) h

pub all-vendor-of : (l : List ℕ) → ((n : ℕ) → is_in n l ≡ true → (64 ≤ n) × (n ≤ 127)) → all_vendor l ≡ true
unfolding all_vendor is_in pick
all-vendor-of [] each = refl
all-vendor-of (m ∷ rest) each =
    let here = each m (simp (eq-eqb m m refl)) in
    simp (is-vendor m here.0 here.1) (all-vendor-of rest (λ n h. each n (or_else (eqb n m) h)))
  where
    or_else : (a : Bool) {b : Bool} → b ≡ true → pick a true b ≡ true
    or_else true h = refl
    or_else false h = h

bits-with : (l : List ℕ) (bits n : ℕ) → all_vendor l ≡ true → 64 ≤ n → has_bit (bits_with bits l) n ≡ pick (is_in n l) true (has_bit bits n)
unfolding bits_with all_vendor is_in pick
bits-with [] bits n all low = refl
bits-with (m ∷ rest) bits n all low =
    let p = pick_true (is_vendor m) (all_vendor rest) all in
    bits-with rest (bit_or bits (bit_of m)) n p.1 low
    ∙ (ap (λ (b : Bool). pick (is_in n rest) true b) (one_more bits m n (vendor-range m p.0).0 low) ∙ either (eqb n m) (is_in n rest) (has_bit bits n))
  where
    either : (a b c : Bool) → pick b true (pick a true c) ≡ pick (pick a true b) true c
    either true true c = refl
    either true false c = refl
    either false b c = refl

below_64 : (l : List ℕ) (bits : ℕ) → all_vendor l ≡ true → bits < 2 ^ 64 → bits_with bits l < 2 ^ 64
unfolding bits_with all_vendor
below_64 [] bits all h = h
below_64 (m ∷ rest) bits all h =
    let p = pick_true (is_vendor m) (all_vendor rest) all in
    let r = vendor-range m p.0 in
    let small : m - 64 < 64 = omega (arith, r.0, r.1) in
    below_64 rest (bit_or bits (bit_of m)) p.1 (or_lt 64 bits (bit_of m) h (pow-lt small))

no-bit : (n : ℕ) → has_bit 0 n ≡ false
unfolding has_bit
no-bit n = ap (λ (x : ℕ). eqb (x % 2) 1) (div-eq_of_lt (pow_pos (n - 64)))

pub leaves-just-the-list : LeavesJustTheList
unfolding pick
leaves-just-the-list l all = record { members = λ n. members n; room = below_64 l 0 all (lit< tt) }
  where
    listed : (b : Bool) → pick b true false ≡ b
    listed true = refl
    listed false = refl

    outside : (n : ℕ) → ((64 ≤ n) × (n ≤ 127) → ⊥) → is_in n (vendor_of (bits_of l)) ≡ is_in n l
    outside n h = among_none (bits_of l) n 64 64 (λ low high. h (low, omega arith)) ∙ sym (go (is_in n l) refl)
      where
        go : (b : Bool) → is_in n l ≡ b → b ≡ false
        go true e = absurd (h (all-vendor-in l n all e))
        go false e = refl

    members : (n : ℕ) → is_in n (vendor_of (bits_of l)) ≡ is_in n l
    members n = by-range (dec_le 64 n) (dec_le n 127)
      where
        by-range : Dec (64 ≤ n) → Dec (n ≤ 127) → is_in n (vendor_of (bits_of l)) ≡ is_in n l
        by-range (no low) high = outside n (λ r. low r.0)
        by-range (yes low) (no high) = outside n (λ r. high r.1)
        by-range (yes low) (yes high) =
            allowed-is (bits_of l) n low high ∙ (bits-with l 0 n all low ∙ (ap (λ (b : Bool). pick (is_in n l) true b) (no-bit n) ∙ listed (is_in n l)))

-- ---- for the code

-- a number's bit, shifted into its place
pub shifted : (n : ℕ) → n ≤ 127 → (1 * 2 ^ (n - 64)) % 2 ^ 64 ≡ bit_of n
shifted n high = shl_exact 1 (n - 64) 64 (lit< tt) (omega arith) ∙ one-mul (2 ^ (n - 64))

-- a bit, tested; and a number that isn't the vendor's
module _ (bits n : ℕ) {b : Bool} (is : b ≡ is_vendor n) where
  pub tested : b ≡ true → eqb (bit_and (bits / 2 ^ (n - 64)) 1) 1 ≡ is_in n (vendor_of bits)
  unfolding has_bit
  tested e =
      let range = vendor-range n (sym is ∙ e) in
      ap (λ (x : ℕ). eqb x 1) (and_mask (bits / 2 ^ (n - 64)) 1) ∙ sym (allowed-is bits n range.0 range.1)

  pub not_tested : b ≡ false → false ≡ is_in n (vendor_of bits)
  not_tested e = sym (among_none bits n 64 64 (λ low high. true≢false (sym (is-vendor n low (omega arith)) ∙ (sym is ∙ e))))

-- along a list, place by place
module _ (l : List ℕ) (i : ℕ) (h : i < length l) where
  opened : drop i l ≡ get_or l i 0 ∷ drop (i + 1) l
  opened = drop-cons l i 0 h ∙ ap (λ (k : ℕ). get_or l i 0 ∷ drop k l) next
    where
      next : suc i ≡ i + 1
      next = omega arith

  pub vendor-next : {b : Bool} → b ≡ is_vendor (get_or l i 0) → b ≡ true → all_vendor (drop i l) ≡ all_vendor (drop (i + 1) l)
  unfolding all_vendor pick
  vendor-next is t = ap all_vendor opened ∙ simp (sym is ∙ t)

  pub vendor-not : {b : Bool} → b ≡ is_vendor (get_or l i 0) → b ≡ false → all_vendor (drop i l) ≡ false
  unfolding all_vendor pick
  vendor-not is t = ap all_vendor opened ∙ simp (sym is ∙ t)

  pub bits-next : (bits : ℕ) → bits_with bits (drop i l) ≡ bits_with (bit_or bits (bit_of (get_or l i 0))) (drop (i + 1) l)
  unfolding bits_with
  bits-next bits = ap (bits_with bits) opened

module _ (l : List ℕ) (i : ℕ) (h : length l ≤ i) where
  pub vendor-end : all_vendor (drop i l) ≡ true
  unfolding all_vendor
  vendor-end = ap all_vendor (drop_of_length-le l h)

  pub bits-end : (bits : ℕ) → bits_with bits (drop i l) ≡ bits
  unfolding bits_with
  bits-end bits = ap (bits_with bits) (drop_of_length-le l h)

-- what reading a list tells
pub listed-all : (l : List ℕ) → all_vendor l ≡ true → Bits (bits_of l) ≡ listed_of l
unfolding listed_of pick
listed-all l e = simp e

pub listed-not : (l : List ℕ) → all_vendor l ≡ false → Foreign ≡ listed_of l
unfolding listed_of pick
listed-not l e = simp e
