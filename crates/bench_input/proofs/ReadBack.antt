-- Hex that was written reads back as its bytes, and what reads as bytes was written so. Assumes nothing.
use Prim.Native.Nat.{ℕ, zero, suc, ◌+◌, ◌-◌, ◌*◌, ◌/◌, ◌%◌, ◌≤◌, ◌<◌}
use native.Mathlib.Omega.{arith}
use native.Mathlib.Decide.{dec_lt}
use native.Mathlib.Numerals.{add-one}
use mathlib.Core.Path.{◌≡◌, refl, sym, ap, ◌∙◌}
use mathlib.Core.Bool.{Bool, true, false, ◌&&◌, ◌||◌}
use mathlib.Core.List.{List, [], ◌∷◌, ◌++◌}
use borrow.Author.Tests.{lt-ltb, le-ltb, le-leb, lt-leb, leb-true, eq-eqb, eqb-true}
use lib.Dec.{leb, eqb}
use lib.ListN.{length, take, get_or, set, replicate, length-append, length-replicate}
use lib.Seq.{take-suc, take-suc-set}
use Rattle.std.specs.Char.{is_ascii_digit}
use Rattle.std.specs.Int.{is_in_range}
use Rattle.std.specs.List.{list_all}
use Rattle.ctaphid.specs.Choice.{pick}
use Rattle.ctaphid.specs.Messages.{padded}
use Rattle.ctaphid.specs.Packets.{Bytes}
use Rattle.ctaphid.proofs.Tests.{pick_true}
use Rattle.bench_input.specs.Hex.{'0', '9', 'a', 'f', hex_digit, hex_of, is_hex_digit, hex_value, all_hex, bytes_of, is_hex}

-- ---- a choice by a test that is known

pub by_bool : {P : Type 0} (b : Bool) → (b ≡ true → P) → (b ≡ false → P) → P
by_bool true y n = y refl
by_bool false y n = n refl

pub picked : {A : Type 0} {test : Bool} (a b : A) → test ≡ true → pick test a b ≡ a
unfolding pick
picked a b e = simp e

pub passed : {A : Type 0} {test : Bool} (a b : A) → test ≡ false → pick test a b ≡ b
unfolding pick
passed a b e = simp e

-- ---- tests that both hold

pub and_true : (a b : Bool) → (a && b) ≡ true → (a ≡ true) × (b ≡ true)
and_true true b e = (refl, e)
and_true false b e = absurd (cc)

within : (low high c : ℕ) → is_in_range low high c ≡ true → (low ≤ c) × (c ≤ high)
within low high c e = let p = and_true (leb low c) (leb c high) e in (leb-true low c p.0, leb-true c high p.1)

within_given : (low high c : ℕ) → low ≤ c → c ≤ high → is_in_range low high c ≡ true
within_given low high c h k = simp (le-leb low c h, le-leb c high k)

-- ---- a character

module _ (c : ℕ) where
  pub digit-is : is_ascii_digit c ≡ true → ('0' ≤ c) × (c ≤ '9')
  digit-is e = within '0' '9' c e

  pub digit_given : '0' ≤ c → c ≤ '9' → is_ascii_digit c ≡ true
  digit_given h k = within_given '0' '9' c h k

  pub above-digits : '0' ≤ c → '9' < c → is_ascii_digit c ≡ false
  above-digits h k = simp (le-leb '0' c h, lt-leb c '9' k)

  pub letter-is : is_ascii_digit c ≡ false → is_hex_digit c ≡ true → ('a' ≤ c) × (c ≤ 'f')
  letter-is d e = within 'a' 'f' c (sym (ap (λ (b : Bool). b || is_in_range 'a' 'f' c) d) ∙ e)

  pub digit-hex : is_ascii_digit c ≡ true → is_hex_digit c ≡ true
  digit-hex d = ap (λ (b : Bool). b || is_in_range 'a' 'f' c) d

  pub letter-hex : 'a' ≤ c → c ≤ 'f' → is_hex_digit c ≡ true
  letter-hex h k = ap (λ (b : Bool). b || is_in_range 'a' 'f' c) (above-digits (omega arith) (omega arith)) ∙ within_given 'a' 'f' c h k

  pub digit_value : is_ascii_digit c ≡ true → hex_value c ≡ c - '0'
  unfolding hex_value
  digit_value d = picked _ _ d

  pub letter-value : is_ascii_digit c ≡ false → hex_value c ≡ c - 'a' + 10
  unfolding hex_value
  letter-value d = passed _ _ d

  -- a hex digit is a digit or one of the six letters, and its value is known
  by-hex : {P : Type 0} → is_hex_digit c ≡ true → ('0' ≤ c → c ≤ '9' → hex_value c ≡ c - '0' → P) → ('a' ≤ c → c ≤ 'f' → hex_value c ≡ c - 'a' + 10 → P) → P
  by-hex e digit letter =
      by_bool (is_ascii_digit c)
      (λ d. digit (digit-is d).0 (digit-is d).1 (digit_value d))
      (λ d. letter (letter-is d e).0 (letter-is d e).1 (letter-value d))

  pub value-below : is_hex_digit c ≡ true → hex_value c < 16
  value-below e = by-hex e (λ h k v. omega arith) (λ h k v. omega arith)

  pub digit-of-value : is_hex_digit c ≡ true → hex_digit (hex_value c) ≡ c
  unfolding pick
  digit-of-value e =
      by-hex e
      (λ h k v. let s : c - 48 < 10 = omega arith in rw v (simp (lt-ltb (c - 48) 10 s) (omega arith)))
      (λ h k v. let s : 10 ≤ c - 97 + 10 = omega arith in rw v (simp (le-ltb (c - 97 + 10) 10 s) (omega arith)))

-- ---- a value

module _ (v : ℕ) where
  low_digit : v < 10 → hex_digit v ≡ '0' + v
  low_digit h = picked _ _ (lt-ltb v 10 h)

  high_digit : 10 ≤ v → hex_digit v ≡ 'a' + (v - 10)
  high_digit h = passed _ _ (le-ltb v 10 h)

  pub digit-is-hex : v < 16 → is_hex_digit (hex_digit v) ≡ true
  digit-is-hex h = by_size (dec_lt v 10)
    where
      by_size : Dec (v < 10) → is_hex_digit (hex_digit v) ≡ true
      by_size (yes l) = rw (low_digit l) (digit-hex ('0' + v) (digit_given ('0' + v) (omega arith) (omega arith)))
      by_size (no l) = rw (high_digit (omega arith)) (letter-hex ('a' + (v - 10)) (omega arith) (omega arith))

  pub value-of-digit : v < 16 → hex_value (hex_digit v) ≡ v
  value-of-digit h = by_size (dec_lt v 10)
    where
      by_size : Dec (v < 10) → hex_value (hex_digit v) ≡ v
      by_size (yes l) = rw (low_digit l, digit_value ('0' + v) (digit_given ('0' + v) (omega arith) (omega arith))) (omega arith)
      by_size (no l) = rw (high_digit (omega arith), letter-value ('a' + (v - 10)) (above-digits ('a' + (v - 10)) (omega arith) (omega arith))) (omega arith)

-- ---- bytes

pub length-hex : (bytes : List ℕ) → length (hex_of bytes) ≡ 2 * length bytes
unfolding hex_of
length-hex [] = refl
length-hex (b ∷ bytes) = omega (arith, length-hex bytes)

pub hex-all : (bytes : List ℕ) → Bytes bytes → all_hex (hex_of bytes) ≡ true
unfolding hex_of
hex-all [] h = refl
hex-all (b ∷ bytes) h =
    let rest : list_all is_hex_digit (hex_of bytes) ≡ true = hex-all bytes (λ i. h (suc i)) in
    simp (digit-is-hex (b / 16) (omega (arith, h 0)), digit-is-hex (b % 16) (omega arith), rest)

pub hex-read : (bytes : List ℕ) → Bytes bytes → bytes_of (hex_of bytes) ≡ bytes
unfolding hex_of bytes_of
hex-read [] h = refl
hex-read (b ∷ bytes) h =
    let high : hex_value (hex_digit (b / 16)) ≡ b / 16 = value-of-digit (b / 16) (omega (arith, h 0)) in
    let low : hex_value (hex_digit (b % 16)) ≡ b % 16 = value-of-digit (b % 16) (omega arith) in
    let both : 16 * hex_value (hex_digit (b / 16)) + hex_value (hex_digit (b % 16)) ≡ b = omega arith in
    λ i. both i ∷ hex-read bytes (λ j. h (suc j)) i

-- ---- characters

-- each character of hex is a hex digit
pub hex-at : (hex : List ℕ) → all_hex hex ≡ true → (i : ℕ) → i < length hex → is_hex_digit (get_or hex i 0) ≡ true
hex-at [] e i h = absurd (omega arith)
hex-at (c ∷ rest) e zero h = (and_true (is_hex_digit c) (all_hex rest) e).0
hex-at (c ∷ rest) e (suc i) h = hex-at rest (and_true (is_hex_digit c) (all_hex rest) e).1 i (omega arith)

module _ (high low : ℕ) (rest : List ℕ) (e : all_hex (high ∷ (low ∷ rest)) ≡ true) where
  pub high-hex : is_hex_digit high ≡ true
  high-hex = (and_true (is_hex_digit high) (all_hex (low ∷ rest)) e).0

  pub low-hex : is_hex_digit low ≡ true
  low-hex = (and_true (is_hex_digit low) (all_hex rest) (and_true (is_hex_digit high) (all_hex (low ∷ rest)) e).1).0

  pub rest-hex : all_hex rest ≡ true
  rest-hex = (and_true (is_hex_digit low) (all_hex rest) (and_true (is_hex_digit high) (all_hex (low ∷ rest)) e).1).1

pub read_length : (hex : List ℕ) → length hex % 2 ≡ 0 → 2 * length (bytes_of hex) ≡ length hex
unfolding bytes_of
read_length [] h = refl
read_length (c ∷ []) h = omega arith
read_length (high ∷ (low ∷ rest)) h = omega (arith, read_length rest (omega arith))

pub read-bytes : (hex : List ℕ) → all_hex hex ≡ true → Bytes (bytes_of hex)
unfolding bytes_of
read-bytes [] e i = omega arith
read-bytes (c ∷ []) e i = omega arith
read-bytes (high ∷ (low ∷ rest)) e zero = omega (arith, value-below high (high-hex high low rest e), value-below low (low-hex high low rest e))
read-bytes (high ∷ (low ∷ rest)) e (suc i) = read-bytes rest (rest-hex high low rest e) i

pub read-hex : (hex : List ℕ) → length hex % 2 ≡ 0 → all_hex hex ≡ true → hex_of (bytes_of hex) ≡ hex
unfolding hex_of bytes_of
read-hex [] h e = refl
read-hex (c ∷ []) h e = absurd (omega arith)
read-hex (high ∷ (low ∷ rest)) h e =
    let v = value-below low (low-hex high low rest e) in
    let over : (16 * hex_value high + hex_value low) / 16 ≡ hex_value high = omega arith in
    let under : (16 * hex_value high + hex_value low) % 16 ≡ hex_value low = omega arith in
    let first : hex_digit ((16 * hex_value high + hex_value low) / 16) ≡ high = ap hex_digit over ∙ digit-of-value high (high-hex high low rest e) in
    let second : hex_digit ((16 * hex_value high + hex_value low) % 16) ≡ low = ap hex_digit under ∙ digit-of-value low (low-hex high low rest e) in
    λ i. first i ∷ (second i ∷ read-hex rest (omega arith) (rest-hex high low rest e) i)

-- ---- the byte at an index

pub byte-there : (hex : List ℕ) (k : ℕ) → 2 * k + 1 < length hex → get_or (bytes_of hex) k 0 ≡ 16 * hex_value (get_or hex (2 * k) 0) + hex_value (get_or hex (2 * k + 1) 0)
unfolding bytes_of
byte-there [] k h = absurd (omega arith)
byte-there (c ∷ []) k h = absurd (omega arith)
byte-there (high ∷ (low ∷ rest)) zero h = refl
byte-there (high ∷ (low ∷ rest)) (suc k) h =
    let a : 2 * suc k ≡ suc (suc (2 * k)) = omega arith in
    let b : 2 * suc k + 1 ≡ suc (suc (2 * k + 1)) = omega arith in
    rw (b, a) (byte-there rest k (omega arith))

pub byte_past : (hex : List ℕ) (k : ℕ) → length hex ≤ 2 * k + 1 → get_or (bytes_of hex) k 0 ≡ 0
unfolding bytes_of
byte_past [] k h = refl
byte_past (c ∷ []) k h = refl
byte_past (high ∷ (low ∷ rest)) zero h = absurd (omega arith)
byte_past (high ∷ (low ∷ rest)) (suc k) h = byte_past rest k (omega arith)

-- ---- missing bytes are 0

zeros-at : (n i : ℕ) → ◌≡◌ {A = ℕ} (get_or (replicate n 0) i 0) 0
zeros-at zero i = refl
zeros-at (suc n) zero = refl
zeros-at (suc n) (suc i) = zeros-at n i

padding-at : (bytes : List ℕ) (n i : ℕ) → get_or (bytes ++ replicate n 0) i 0 ≡ get_or bytes i 0
padding-at [] n i = zeros-at n i
padding-at (b ∷ bytes) n zero = refl
padding-at (b ∷ bytes) n (suc i) = padding-at bytes n i

pub padded-at : (size : ℕ) (bytes : List ℕ) (i : ℕ) → get_or (padded size bytes) i 0 ≡ get_or bytes i 0
unfolding padded
padded-at size bytes i = padding-at bytes (size - length bytes) i

pub padded-length : (size : ℕ) (bytes : List ℕ) → length bytes ≤ size → length (padded size bytes) ≡ size
unfolding padded
padded-length size bytes h = simp (length-append, length-replicate) (omega arith)

-- a store of what belongs at a place makes the front one longer
pub front-more : (target l : List ℕ) (i b : ℕ) → i < length target → i < length l → take i l ≡ take i target → b ≡ get_or target i 0 → take (i + 1) (set l i b) ≡ take (i + 1) target
front-more target l i b h k front e =
    let here : take (suc i) (set l i b) ≡ take i l ++ (b ∷ []) = take-suc-set l i b k in
    let there : take (suc i) target ≡ take i target ++ (get_or target i 0 ∷ []) = take-suc target i 0 h in
    rw add-one (here ∙ ((λ j. front j ++ (e j ∷ [])) ∙ sym there))

-- ---- the test of hex, as facts

pub record HexFacts (hex : List ℕ) : Type 0 where
  pub some : 2 ≤ length hex
  pub most : length hex ≤ 128
  pub even : length hex % 2 ≡ 0
  pub all : all_hex hex ≡ true

pub hex-is : (hex : List ℕ) → is_hex hex ≡ true → HexFacts hex
unfolding is_hex
hex-is hex e =
    let p₁ = pick_true (leb 2 (length hex)) _ e in
    let p₂ = pick_true (leb (length hex) 128) _ p₁.1 in
    let p₃ = pick_true (eqb (length hex % 2) 0) _ p₂.1 in
    record {
      some = leb-true 2 (length hex) p₁.0;
      most = leb-true (length hex) 128 p₂.0;
      even = eqb-true (length hex % 2) 0 p₃.0;
      all = p₃.1;
    }

pub is-hex : (hex : List ℕ) → HexFacts hex → is_hex hex ≡ true
unfolding is_hex pick
is-hex hex h = simp (le-leb 2 (length hex) h.some, le-leb (length hex) 128 h.most, eq-eqb (length hex % 2) 0 h.even, h.all)
