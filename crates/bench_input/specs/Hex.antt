-- Characters, and bytes in lower-case hex, written and read back. Assumes nothing.
use Rattle.std.specs.Prelude.{ℕ, ◌+◌, ◌-◌, ◌*◌, ◌/◌, ◌%◌, Bool, ◌||◌, List, [], ◌∷◌, length, leb, ltb, eqb}
use Rattle.std.specs.Char.{is_ascii_digit}
use Rattle.std.specs.Int.{is_in_range}
use Rattle.std.specs.List.{list_all}
use Prim.Native.Char.{code}
use Prim.Native.String.{String, [] as empty, ◌∷◌ as ◌then◌}
use Rattle.ctaphid.specs.Choice.{pick, every}

-- ---- characters, as their ASCII numbers

-- the characters of a text
abbrev pub ascii : String → List ℕ
ascii empty = []
ascii (character then rest) = code character ∷ ascii rest

abbrev pub '0' : ℕ
'0' = code "0"

abbrev pub '1' : ℕ
'1' = code "1"

abbrev pub '9' : ℕ
'9' = code "9"

abbrev pub 'a' : ℕ
'a' = code "a"

abbrev pub 'f' : ℕ
'f' = code "f"

abbrev pub space : ℕ
space = code " "

-- ---- bytes written: two characters each, the high four bits first

-- 0 to 9, and from 10 on a to f
abbrev pub hex_digit : ℕ → ℕ
hex_digit d = pick (ltb d 10) ('0' + d) ('a' + (d - 10))

unfoldable pub hex_of : List ℕ → List ℕ
hex_of [] = []
hex_of (byte ∷ rest) = hex_digit (byte / 16) ∷ hex_digit (byte % 16) ∷ hex_of rest

-- ---- bytes read back

-- a capital letter is none
abbrev pub is_hex_digit : ℕ → Bool
is_hex_digit c = is_ascii_digit c || is_in_range 'a' 'f' c

unfoldable pub hex_value : ℕ → ℕ
hex_value c = pick (is_ascii_digit c) (c - '0') (c - 'a' + 10)

abbrev pub all_hex : List ℕ → Bool
all_hex hex = list_all is_hex_digit hex

-- two by two; a last character without a partner says nothing
unfoldable pub bytes_of : List ℕ → List ℕ
bytes_of [] = []
bytes_of (high ∷ []) = []
bytes_of (high ∷ (low ∷ rest)) = (16 * hex_value high + hex_value low) ∷ bytes_of rest

-- 1 to 64 bytes in hex
unfoldable pub is_hex : List ℕ → Bool
is_hex hex = every (leb 2 (length hex) ∷ leb (length hex) 128 ∷ eqb (length hex % 2) 0 ∷ all_hex hex ∷ [])
