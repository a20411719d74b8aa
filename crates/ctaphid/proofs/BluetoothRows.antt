-- The rows of Bluetooth framing hold. Assumes nothing.
use Prim.Native.Nat.{ℕ, suc, ◌+◌, ◌-◌, ◌*◌, ◌/◌, ◌%◌, ◌≤◌}
use native.Mathlib.Omega.{arith}
use mathlib.Core.Path.{◌≡◌, refl, ap, ◌∙◌}
use mathlib.Core.List.{List, [], ◌∷◌, map}
use lib.ListN.{length, take, drop, get_or, length-drop}
use lib.Seq.{take_all}
use native.Mathlib.Nat.{div-eq_of_lt, add-div_right, mul-zero, add-zero}
use Rattle.ctaphid.specs.Choice.{pick, is_in}
use Rattle.ctaphid.specs.Messages.{later, chunks, numbered}
use Rattle.ctaphid.specs.Bluetooth.{is_size, is_command, read, written, fragments, fragments_written, gather, begin, on_fragment, hear, RoundTrip}
use Rattle.ctaphid.specs.BluetoothRows.{BluetoothRows}
use Rattle.ctaphid.proofs.Bluetooth.{wire-first, wire-later, wire-length, cuts-over-bluetooth, round-trips}

-- ---- messages by their number of fragments
one_only : {A : Type 0} (l : List A) (a : A) → length l ≡ 1 → l ≡ get_or l 0 a ∷ []
one_only [] a e = absurd (omega arith)
one_only (x ∷ []) a e = refl
one_only (x ∷ (y ∷ l)) a e = absurd (omega arith)

two-only : {A : Type 0} (l : List A) (a : A) → length l ≡ 2 → l ≡ get_or l 0 a ∷ get_or l 1 a ∷ []
two-only [] a e = absurd (omega arith)
two-only (x ∷ []) a e = absurd (omega arith)
two-only (x ∷ (y ∷ [])) a e = refl
two-only (x ∷ (y ∷ (z ∷ l))) a e = absurd (omega arith)

module _ (size cmd : ℕ) (payload : List ℕ) (h : 20 ≤ size) where
  abbrev wire : List (List ℕ)
  wire = fragments_written size cmd payload

  fills_one : length payload ≡ size - 3 → map length wire ≡ size ∷ []
  unfolding written
  fills_one e =
      let many : length wire ≡ 1 = wire-length size cmd payload h ∙ ap (λ (d : ℕ). 1 + d) (div-eq_of_lt {n = length payload + 1} (omega arith)) in
      let all : take (size - 3) payload ≡ payload = take_all (size - 3) payload (omega arith) in
      let first : length (get_or wire 0 []) ≡ size = ap length (wire-first size cmd payload) ∙ rw all (omega arith) in
      ap (map length) (one_only wire [] many) ∙ ap (λ (n : ℕ). n ∷ []) first

  needs_two : length payload ≡ size - 2 → map length wire ≡ size ∷ 2 ∷ []
  unfolding written
  needs_two e =
      let g : length payload + 1 ≡ 0 + (size - 1) = omega arith in
      let many : length wire ≡ 2 = wire-length size cmd payload h ∙ (ap (λ (d : ℕ). 1 + d / (size - 1)) g ∙ ap (λ (d : ℕ). 1 + d) (add-div_right 0 (omega arith) ∙ ap (λ (d : ℕ). d + 1) (div-eq_of_lt {n = 0} (omega arith)))) in
      let first : length (get_or wire 0 []) ≡ size = (cuts-over-bluetooth size cmd payload h).full 0 (omega arith) in
      let place : size - 3 + (size - 1) * 0 ≡ size - 3 = ap (λ (j : ℕ). size - 3 + j) (mul-zero (size - 1)) ∙ add-zero (size - 3) in
      let rest : take (size - 1) (drop (size - 3) payload) ≡ drop (size - 3) payload = take_all (size - 1) (drop (size - 3) payload) (simp length-drop (omega arith)) in
      let second : length (get_or wire 1 []) ≡ 2 = ap length (wire-later size cmd payload h 0 (omega arith)) ∙ rw (place, rest) (simp length-drop (omega arith)) in
      ap (map length) (two-only wire [] many) ∙ (λ i. first i ∷ second i ∷ [])

-- ---- 65,535 bytes at 20
module _ (cmd : ℕ) (payload : List ℕ) (e : length payload ≡ 65535) where
  many-20 : length (fragments_written 20 cmd payload) ≡ 3450
  many-20 = wire-length 20 cmd payload (omega arith) ∙ ap (λ (n : ℕ). 1 + (n + 1) / 19) e

  number_at : (i : ℕ) (d : ℕ) → i ≤ 3448 → get_or (get_or (fragments_written 20 cmd payload) (suc i) []) 0 d ≡ i % 128
  unfolding written
  number_at i d h = ap (λ (l : List ℕ). get_or l 0 d) (wire-later 20 cmd payload (omega arith) i (omega (arith, many-20)))

  last-20 : get_or (fragments_written 20 cmd payload) 3449 [] ≡ 120 ∷ drop 65529 payload
  unfolding written
  last-20 = wire-later 20 cmd payload (omega arith) 3448 (omega (arith, many-20)) ∙ ap (λ (l : List ℕ). 120 ∷ l) (take_all 19 (drop 65529 payload) (simp length-drop (omega arith)))

one-512 : (payload : List ℕ) → length payload ≡ 400 → fragments_written 512 0x81 payload ≡ (0x81 ∷ 1 ∷ 0x90 ∷ payload) ∷ []
unfolding written
one-512 payload e =
    let many : length (fragments_written 512 0x81 payload) ≡ 1 = wire-length 512 0x81 payload (omega arith) ∙ ap (λ (n : ℕ). 1 + (n + 1) / 511) e in
    let first : get_or (fragments_written 512 0x81 payload) 0 [] ≡ 0x81 ∷ 1 ∷ 0x90 ∷ payload =
    wire-first 512 0x81 payload ∙ (λ i. 0x81 ∷ e i / 0x100 ∷ e i % 0x100 ∷ take_all 509 payload (omega arith) i) in
    one_only (fragments_written 512 0x81 payload) [] many ∙ ap (λ (f : List ℕ). f ∷ []) first

back_at : (size : ℕ) (payload : List ℕ) → 20 ≤ size → size ≤ 512 → length payload ≡ 65535 → RoundTrip size 0x81 payload 65535
back_at size payload small large e =
    round-trips size 0x81 payload 65535 (record { smallest = small; largest = large; command = omega arith; short = omega arith; fits = omega arith })

pub bluetooth-rows : BluetoothRows
unfolding pick is_in later chunks numbered is_size is_command read written fragments gather begin on_fragment hear
bluetooth-rows =
    record {
      sizes = refl;
      longest = refl;
      commands = refl;
      example = refl;
      read_back = refl;
      at-512 = one-512;
      empty = refl;
      fills = fills_one;
      one-over = needs_two;
      most = many-20;
      number-127 = λ cmd payload e. number_at cmd payload e 127 0 (omega arith);
      number-128 = λ cmd payload e. number_at cmd payload e 128 1 (omega arith);
      wrap-26 = λ cmd payload e. number_at cmd payload e 3328 1 (omega arith);
      last = last-20;
      back-20 = λ payload e. back_at 20 payload (omega arith) (omega arith) e;
      back-512 = λ payload e. back_at 512 payload (omega arith) (omega arith) e;
      no_bytes = refl;
      one-byte-begins = refl;
      two-bytes-begin = refl;
      one_byte = refl;
      one-byte-wrong = refl;
      one-byte-none = refl;
      above = refl;
      at_size = refl;
      above-begins = refl;
      zero-with-data = refl;
      zero = refl;
      exactly = refl;
      too_long = refl;
      too-long-first = refl;
      too_much = refl;
      inside = refl;
      inside-long = refl;
      wrong = refl;
      over = refl;
      right = refl;
      wraps = refl;
      lowest = refl;
      highest = refl;
    }
