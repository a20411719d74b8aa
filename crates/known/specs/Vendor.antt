-- Which of the vendor's commands a device knows, as 64 bits of its state: the lowest is for number 64. Assumes nothing.
use Rattle.std.specs.Prelude.{ℕ, zero, suc, ◌+◌, ◌-◌, ◌^◌, ◌/◌, ◌%◌, ◌<◌, ◌≡◌, List, [], ◌∷◌, Bool, true, false, eqb}
use Rattle.std.specs.Int.Bits.{bit_or}
use Rattle.ctaphid.specs.Choice.{pick, is_in}
use Rattle.ctaphid.specs.Commands.{is_vendor}
use Rattle.known.specs.declared.vendor.Listed.{Listed}
use Rattle.known.specs.declared.vendor.Listed.TheVariants.{Bits, Foreign}

-- ---- what the bits mean

-- whether the bit of a number from 64 on is set
unfoldable pub has_bit : (bits number : ℕ) → Bool
has_bit bits n = eqb (bits / 2 ^ (n - 64) % 2) 1

-- of so many numbers, from one on, those whose bits are set
unfoldable pub set_among : (bits many first : ℕ) → List ℕ
set_among bits zero n = []
set_among bits (suc k) n = pick (has_bit bits n) (n ∷ set_among bits k (n + 1)) (set_among bits k (n + 1))

-- of the vendor's 64 numbers
abbrev pub vendor_of : (bits : ℕ) → List ℕ
vendor_of bits = set_among bits 64 64

-- ---- and back, at set-up

unfoldable pub all_vendor : List ℕ → Bool
all_vendor [] = true
all_vendor (n ∷ rest) = pick (is_vendor n) (all_vendor rest) false

abbrev pub bit_of : (number : ℕ) → ℕ
bit_of n = 2 ^ (n - 64)

-- these bits, and those of the numbers
unfoldable pub bits_with : (bits : ℕ) → List ℕ → ℕ
bits_with bits [] = bits
bits_with bits (n ∷ rest) = bits_with (bit_or bits (bit_of n)) rest

abbrev pub bits_of : List ℕ → ℕ
bits_of numbers = bits_with 0 numbers

-- what reading a list tells
unfoldable pub listed_of : List ℕ → Listed
listed_of numbers = pick (all_vendor numbers) (Bits (bits_of numbers)) Foreign

-- set-up leaves just the list's bits, and nothing above them
pub record JustTheList (numbers : List ℕ) : Type 0 where
  pub members : (n : ℕ) → is_in n (vendor_of (bits_of numbers)) ≡ is_in n numbers
  pub room : bits_of numbers < 2 ^ 64

abbrev pub LeavesJustTheList : Type 0
LeavesJustTheList = (numbers : List ℕ) → all_vendor numbers ≡ true → JustTheList numbers
