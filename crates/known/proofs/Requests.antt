-- The bits of the standard's requests, and what is known beside them. Assumes nothing.
use Prim.Native.Nat.{ℕ, zero, suc, ◌^◌, ◌/◌, ◌≤◌, ◌<◌}
use native.Mathlib.Omega.{arith}
use native.Mathlib.Decide.{ℕ_discrete}
use mathlib.Core.Path.{◌≡◌, refl, sym, ap, subst, ◌∙◌}
use mathlib.Core.Bool.{Bool, true, false, true≢false}
use borrow.Author.Tests.{ne_eqb}
use lib.Bits.{bit_and}
use lib.Dec.{eqb}
use Rattle.ctaphid.specs.Choice.{pick, is_in}
use Rattle.ctaphid.specs.Commands.{is_vendor, among}
use Rattle.ctaphid.specs.Settings.{knows}
use Rattle.ctaphid.proofs.Tests.{pick_true}
use Rattle.ctaphid.proofs.Commands.{vendor-read}
use Rattle.ctaphid.proofs.Unknown.{bare, known-number}
use Rattle.known.specs.Vendor.{vendor_of}
use Rattle.known.specs.Meaning.{settings_of, is_known}
use Rattle.known.proofs.Bits.{not_tested}

-- ---- two tests that agree on each of so many numbers, by trying each
abbrev same : Bool → Bool → Bool
same true b = b
same false true = false
same false false = true

same-is : (a b : Bool) → same a b ≡ true → a ≡ b
same-is true b e = sym e
same-is false true e = absurd (true≢false (sym e))
same-is false false e = refl

unfoldable agree : (f g : ℕ → Bool) → (many : ℕ) → Bool
agree f g zero = true
agree f g (suc k) = pick (same (f k) (g k)) (agree f g k) false

agree-is : (f g : ℕ → Bool) (many n : ℕ) → agree f g many ≡ true → n < many → f n ≡ g n
unfolding agree
agree-is f g zero n e h = absurd (omega arith)
agree-is f g (suc k) n e h =
    let p = pick_true (same (f k) (g k)) (agree f g k) e in
    by_number (ℕ_discrete n k) (same-is (f k) (g k) p.0) (agree-is f g k n p.1)
  where
    by_number : Dec (n ≡ k) → f k ≡ g k → (n < k → f n ≡ g n) → f n ≡ g n
    by_number (yes q) here rest = subst (λ (x : ℕ). f x ≡ g x) (sym q) here
    by_number (no q) here rest = rest (omega arith)

-- ---- the standard's, whose numbers are below 32 but for KEEPALIVE and ERROR
module _ (bits n : ℕ) where
  abbrev tests : ℕ → Bool
  tests k = eqb (bit_and (0x3_015a / 2 ^ k) 1) 1

  pub requests : n < 32 → tests n ≡ is_known bits n
  unfolding agree knows among is_vendor pick
  requests h = agree-is tests (is_known bits) 32 n refl h

  -- ---- and from 32 on the vendor's alone
  past : (k : ℕ) → k < 32 → 32 ≤ n → eqb n k ≡ false
  past k h low = ne_eqb n k (λ e. omega arith)

  listed : 32 ≤ n → is_in n (bare (settings_of 0 bits)) ≡ is_in n (vendor_of bits)
  unfolding is_in pick
  listed low =
      simp (past 1 (omega arith) low, past 3 (omega arith) low, past 4 (omega arith) low, past 6 (omega arith) low, past 8 (omega arith) low, past 16 (omega arith) low, past 17 (omega arith) low)

  pub beyond : {b : Bool} → 32 ≤ n → b ≡ is_in n (vendor_of bits) → b ≡ is_known bits n
  unfolding knows
  beyond low is = is ∙ by_kind (is_vendor n) refl
    where
      by_kind : (v : Bool) → is_vendor n ≡ v → is_in n (vendor_of bits) ≡ is_known bits n
      by_kind true e = ap (knows (settings_of 0 bits)) (vendor-read n e)
      by_kind false e = sym (not_tested bits n (sym e) refl) ∙ by-known (is_known bits n) refl
        where
          by-known : (k : Bool) → is_known bits n ≡ k → false ≡ k
          by-known true q = not_tested bits n (sym e) refl ∙ (sym (listed low) ∙ known-number (settings_of 0 bits) n q)
          by-known false q = refl
