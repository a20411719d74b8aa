-- docs/RULES.md, The bench's lines: a line `time disabled hex` of its input, as it is written and as it is read. A line is the list of its characters, without the
-- newline. Assumes nothing.
use Rattle.std.specs.Prelude.{ℕ, ◌+◌, ◌-◌, ◌*◌, ◌≤◌, ◌≡◌, Bool, true, false, not, ◌||◌, List, [], ◌∷◌, ◌++◌, Option, Some, None, Result, Ok, Err, length, take, drop, get_or, leb, eqb}
use Rattle.std.specs.Char.{is_ascii_digit}
use Rattle.std.specs.List.{prefix_len}
use Rattle.ctaphid.specs.Choice.{pick, every}
use Rattle.bench_input.specs.Refusing.{refusing}
use Rattle.packet.specs.declared.refusal.Refusal.{Refusal}
use Rattle.packet.specs.declared.refusal.Refusal.TheVariants.{PacketSize}
use Rattle.ctaphid.specs.Limits.{packet_size}
use Rattle.ctaphid.specs.Messages.{padded}
use Rattle.ctaphid.specs.Packets.{Bytes}
use Rattle.bench_input.specs.Hex.{'0', '1', '9', space, hex_of, bytes_of, is_hex}
use Rattle.bench_input.specs.declared.Line.{Line}

-- ---- what a line says

pub record Input : Type 0 where
  pub time : ℕ
  pub disabled : Bool
  pub bytes : List ℕ

-- ---- as it is written: the form of a line

-- each is a digit
abbrev pub Decimal : List ℕ → Type 0
Decimal [] = Unit {0}
Decimal (d ∷ rest) = ('0' ≤ d) × (d ≤ '9') × Decimal rest

-- the number that digits say, most significant first, after those that said `before`
abbrev pub number_from : (before : ℕ) → List ℕ → ℕ
number_from before [] = before
number_from before (d ∷ rest) = number_from (10 * before + (d - '0')) rest

abbrev pub number_of : List ℕ → ℕ
number_of digits = number_from 0 digits

abbrev pub flag_of : Bool → ℕ
flag_of false = '0'
flag_of true = '1'

-- 1 to 15 digits, 0 or 1, 1 to 64 bytes in lower-case hex, one space between, and nothing else. Zeros may stand in front of a time
pub record Written (characters : List ℕ) (input : Input) : Type 0 where
  pub digits : List ℕ
  pub some-digits : 1 ≤ length digits
  pub most-digits : length digits ≤ 15
  pub decimal : Decimal digits
  pub time : input.time ≡ number_of digits
  pub some_bytes : 1 ≤ length input.bytes
  pub most_bytes : length input.bytes ≤ 64
  pub bytes : Bytes input.bytes
  pub line : characters ≡ digits ++ (space ∷ (flag_of input.disabled ∷ (space ∷ hex_of input.bytes)))

-- ---- as it is read: by tests, in the order of the code. `ReadsAsWritten`, below, says that this finds what is written and nothing else

pub data Reading : Type 0 where
  reads : Input → Reading
  unread : Reading

-- how many digits a line begins with
abbrev pub digits_in : List ℕ → ℕ
digits_in l = prefix_len is_ascii_digit l

abbrev pub is_flag : ℕ → Bool
is_flag c = eqb c '0' || eqb c '1'

-- with n digits in front, a line goes on with a space, a flag, a space, and hex to its end
unfoldable pub is_formed : List ℕ → (n : ℕ) → Bool
is_formed l n =
    every
    (leb 1 n
    ∷ leb n 15
    ∷ leb (n + 3) (length l)
    ∷ eqb (get_or l n 0) space
    ∷ is_flag (get_or l (n + 1) 0)
    ∷ eqb (get_or l (n + 2) 0) space
    ∷ is_hex (drop (n + 3) l)
    ∷ [])

unfoldable pub input_of : List ℕ → (n : ℕ) → Input
input_of l n = record { time = number_of (take n l); disabled = eqb (get_or l (n + 1) 0) '1'; bytes = bytes_of (drop (n + 3) l) }

unfoldable pub line_of : List ℕ → Reading
line_of l = pick (is_formed l (digits_in l)) (reads (input_of l (digits_in l))) unread

-- ---- the two agree

-- what reads as an input is written so, and what is written so reads as that input
pub record ReadsAsWritten : Type 0 where
  pub sound : (l : List ℕ) (i : Input) → line_of l ≡ reads i → Written l i
  pub complete : (l : List ℕ) (i : Input) → Written l i → line_of l ≡ reads i

-- so that a line says one input at most, and has no reading exactly where no input is written so
pub record OneReading : Type 0 where
  pub one : (l : List ℕ) (i j : Input) → Written l i → Written l j → i ≡ j
  pub none : (l : List ℕ) → line_of l ≡ unread → (i : Input) → Written l i → ⊥
  pub only : (l : List ℕ) → ((i : Input) → Written l i → ⊥) → line_of l ≡ unread

-- ---- all that a call leaves: its answer, and the packet

pub record Read : Type 0 where
  pub answer : Result (Option Line) Refusal
  pub packet : List ℕ

abbrev pub read : Result (Option Line) Refusal → List ℕ → Read
read answer p = record { answer = answer; packet = p }

-- missing bytes are 0
abbrev pub read_to : Input → Read
read_to i = read (Ok (Some (record { time = i.time; disabled = i.disabled }))) (padded packet_size i.bytes)

-- a line without a reading leaves the packet as it was
abbrev pub read_into : Reading → (packet : List ℕ) → Read
read_into (reads i) p = read_to i
read_into unread p = read (Ok None) p

-- refusal 1, then the reading
unfoldable pub read_line_of : (line packet : List ℕ) → Read
read_line_of l p =
    refusing (λ refusal. read (Err refusal) p) ((not (eqb (length p) packet_size), PacketSize) ∷ []) (read_into (line_of l) p)

-- so that what a call leaves is told by what is written in the line, and where no input is, the packet stays as it was
pub record CallsAsWritten : Type 0 where
  pub input : (l p : List ℕ) (i : Input) → length p ≡ packet_size → Written l i → read_line_of l p ≡ read_to i
  pub unread : (l p : List ℕ) → length p ≡ packet_size → ((i : Input) → Written l i → ⊥) → read_line_of l p ≡ read (Ok None) p
