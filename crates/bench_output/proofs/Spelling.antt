-- Texts of bytes and numbers, and the zeros at a packet's end. Assumes nothing.
use Prim.Native.Nat.{ℕ, zero, suc, ◌+◌, ◌-◌, ◌*◌, ◌/◌, ◌%◌, ◌^◌, ◌≤◌, ◌<◌}
use native.Mathlib.Omega.{arith}
use native.Mathlib.Numerals.{add-one}
use mathlib.Core.Path.{◌≡◌, refl, sym, ap, subst, ◌∙◌}
use mathlib.Core.List.{List, [], ◌∷◌, ◌++◌, reverse, append_assoc, append-nil, reverse-append, reverse-reverse}
use borrow.Author.Tests.{lt-ltb, le-ltb, eq-eqb, ne_eqb}
use Rattle.ctaphid.proofs.Tests.{pick-both}
use lib.Dec.{eqb, ltb}
use lib.ListN.{length, take, drop, get_or, length-append, length-reverse, take-append-drop, drop_of_length-le}
use lib.Seq.{take-suc, take-append-le, drop-append-le, take_all, take-length, length-take-le}
use Rattle.std.specs.Int.{w32, to_be_bytes}
use Rattle.ctaphid.specs.Choice.{pick}
use Rattle.ctaphid.specs.Packets.{four}
use Rattle.bench_output.specs.Placing.{laid, Put, decimal}
use Rattle.bench_input.proofs.ReadBack.{length-hex}
use Rattle.bench_output.proofs.Puts.{put_both}
use Rattle.bench_input.specs.Hex.{ascii, hex_digit, hex_of}
use Rattle.bench_output.specs.Packets.{front_zeros_dropped, end_zeros_dropped, trimmed, packet_line}
use Rattle.bench_output.specs.Printing.{payload_text, printing, printed}
use Rattle.std.proofs.Common.{Ok}

-- ---- a channel's four bytes

four-bytes : (n : ℕ) → n < 2 ^ 32 → to_be_bytes w32 n ≡ four n
four-bytes n h =
    let first : n / 256 ^ 3 % 256 ≡ n / 0x100_0000 = omega arith in
    λ i. first i ∷ (n / 0x1_0000 % 0x100) ∷ (n / 0x100 % 0x100) ∷ (n % 0x100) ∷ []

pub four-put : {bytes out left : List ℕ} {at n next : ℕ} → n < 2 ^ 32 → bytes ≡ to_be_bytes w32 n → Put at (hex_of bytes) out next left → Put at (hex_of (four n)) out next left
four-put {bytes} {out} {left} {at} {n} {next} h e p = subst (λ (l : List ℕ). Put at (hex_of l) out next left) (e ∙ four-bytes n h) p

-- ---- hex

pub hex-append : (a b : List ℕ) → hex_of (a ++ b) ≡ hex_of a ++ hex_of b
unfolding hex_of
hex-append [] b = refl
hex-append (x ∷ a) b = ap (λ (t : List ℕ). hex_digit (x / 16) ∷ hex_digit (x % 16) ∷ t) (hex-append a b)

-- a byte more
hex-more : (part : List ℕ) (i : ℕ) → i < length part → hex_of (take (i + 1) part) ≡ hex_of (take i part) ++ hex_of (get_or part i 0 ∷ [])
hex-more part i h = rw (add-one, take-suc part i 0) (hex-append (take i part) (get_or part i 0 ∷ []))

-- a turn of the loop that puts bytes in hex
pub hex-turn : (part out mid left : List ℕ) (at place i : ℕ) → i < length part → at + 2 * length part ≤ length out → Put at (hex_of (take i part)) out place mid
    → left ≡ laid place (hex_of (get_or part i 0 ∷ [])) mid → Put at (hex_of (take (i + 1) part)) out (place + 2) left
unfolding hex_of
hex-turn part out mid left at place i h room p e =
    let n : length (hex_of (take i part)) ≡ 2 * i = length-hex (take i part) ∙ ap (λ (k : ℕ). 2 * k) (length-take-le i part (omega arith)) in
    rw (hex-more part i h) (put_both (omega arith) p (record { next = refl; bytes = e }))

-- ---- decimal
module _ (n : ℕ) where
  pub one-digit : n < 10 → decimal 3 n ≡ (48 + n) ∷ []
  unfolding decimal pick
  one-digit h =
      let last : n % 10 ≡ n = omega arith in
      simp (lt-ltb n 10 h, last)

  pub two_digits : 10 ≤ n → n < 100 → decimal 3 n ≡ (48 + n / 10) ∷ (48 + n % 10) ∷ []
  unfolding decimal pick
  two_digits l h =
      let first : n / 10 % 10 ≡ n / 10 = omega arith in
      simp (le-ltb n 10 l, lt-ltb (n / 10) 10 (omega arith), first)

  pub three-digits : 100 ≤ n → n < 1000 → decimal 3 n ≡ (48 + n / 100) ∷ (48 + n / 10 % 10) ∷ (48 + n % 10) ∷ []
  unfolding decimal pick
  three-digits l h =
      let first : n / 10 / 10 % 10 ≡ n / 100 = omega arith in
      simp (le-ltb n 10 (omega arith), le-ltb (n / 10) 10 (omega arith), lt-ltb (n / 10 / 10) 10 (omega arith), first)

pub decimal-length : (most n : ℕ) → length (decimal most n) ≤ most
unfolding decimal
decimal-length zero n = omega arith
decimal-length (suc most) n =
    simp length-append
    (pick-both (λ (t : List ℕ). length t + 1 ≤ suc most) (ltb n 10) [] (decimal most (n / 10)) (omega arith) (omega (arith, decimal-length most (n / 10))))

-- ---- the zeros at a packet's end
end-zero : (l : List ℕ) (b : ℕ) → b ≡ 0 → end_zeros_dropped (l ++ (b ∷ [])) ≡ end_zeros_dropped l
unfolding end_zeros_dropped front_zeros_dropped pick
end-zero l b e = rw reverse-append (simp (eq-eqb b 0 e))

end-other : (l : List ℕ) (b : ℕ) → (b ≡ 0 → ⊥) → end_zeros_dropped (l ++ (b ∷ [])) ≡ l ++ (b ∷ [])
unfolding end_zeros_dropped front_zeros_dropped pick
end-other l b e =
    rw reverse-append (simp (ne_eqb b 0 e) (ap reverse (sym (reverse-append l (b ∷ []))) ∙ reverse-reverse (l ++ (b ∷ []))))

front_length : (l : List ℕ) → length (front_zeros_dropped l) ≤ length l
unfolding front_zeros_dropped
front_length [] = omega arith
front_length (b ∷ l) = pick-both (λ (t : List ℕ). length t ≤ length (b ∷ l)) (eqb b 0) (front_zeros_dropped l) (b ∷ l) (omega (arith, front_length l)) (omega arith)

pub trimmed-length : (p : List ℕ) → length (trimmed p) ≤ length p
unfolding trimmed end_zeros_dropped
trimmed-length p =
    let z = front_length (reverse (drop 7 p)) in
    let e = length-append (take 7 p) (drop 7 p) in
    let w : length (take 7 p ++ drop 7 p) ≡ length p = ap length (take-append-drop 7 p) in
    simp (length-append, length-reverse) (omega (arith, z, e, w, length-reverse (drop 7 p)))

-- a byte more at the end
module _ (q : List ℕ) (b : ℕ) (h : 7 ≤ length q) where
  pub trim-zero : b ≡ 0 → trimmed (q ++ (b ∷ [])) ≡ trimmed q
  unfolding trimmed
  trim-zero e = rw (take-append-le 7 q (b ∷ []), drop-append-le 7 q (b ∷ []), end-zero (drop 7 q) b e)

  pub trim-other : (b ≡ 0 → ⊥) → trimmed (q ++ (b ∷ [])) ≡ q ++ (b ∷ [])
  unfolding trimmed
  trim-other e = rw (take-append-le 7 q (b ∷ []), drop-append-le 7 q (b ∷ []), end-other (drop 7 q) b e, ← append_assoc, take-append-drop)

pub trim-seven : (q : List ℕ) → length q ≡ 7 → trimmed q ≡ q
unfolding trimmed end_zeros_dropped front_zeros_dropped
trim-seven q h =
    let none : drop 7 q ≡ [] = drop_of_length-le q {i = 7} (omega arith) in
    rw none (append-nil (take 7 q) ∙ take_all 7 q (omega arith))

-- a byte less of a packet's front
module _ (p : List ℕ) (n : ℕ) (long : 7 < n) (h : n ≤ length p) where
  abbrev less : List ℕ
  less = take (n - 1) p

  snoc : take n p ≡ less ++ (get_or p (n - 1) 0 ∷ [])
  snoc =
      let e : n ≡ suc (n - 1) = omega arith in
      ap (λ (k : ℕ). take k p) e ∙ take-suc p (n - 1) 0 (omega arith)

  less-long : 7 ≤ length less
  less-long = omega (arith, length-take-le (n - 1) p (omega arith))

  pub trim-back : get_or p (n - 1) 0 ≡ 0 → trimmed (take n p) ≡ trimmed (take (n - 1) p)
  trim-back e = ap trimmed snoc ∙ trim-zero less (get_or p (n - 1) 0) less-long e

  pub trim-here : (get_or p (n - 1) 0 ≡ 0 → ⊥) → trimmed (take n p) ≡ take n p
  trim-here e = ap trimmed snoc ∙ (trim-other less (get_or p (n - 1) 0) less-long e ∙ sym snoc)

-- zeros from a place on are dropped
trim-zeros : (p : List ℕ) (n k : ℕ) → 7 ≤ n → n + k ≤ length p → ((j : ℕ) → n ≤ j → j < length p → get_or p j 0 ≡ 0) → trimmed (take (n + k) p) ≡ trimmed (take n p)
trim-zeros p n zero h r z = let e : n + 0 ≡ n = omega arith in ap (λ (m : ℕ). trimmed (take m p)) e
trim-zeros p n (suc k) h r z =
    let e : n + suc k - 1 ≡ n + k = omega arith in
    trim-back p (n + suc k) (omega arith) (omega arith) (z (n + suc k - 1) (omega arith) (omega arith))
    ∙ (ap (λ (m : ℕ). trimmed (take m p)) e ∙ trim-zeros p n k h (omega arith) z)

module _ (p : List ℕ) (n : ℕ) (least : 7 ≤ n) (h : n ≤ length p) (zeros : (j : ℕ) → n ≤ j → j < length p → get_or p j 0 ≡ 0) where
  trimmed-front : trimmed (take n p) ≡ trimmed p
  trimmed-front =
      let all : n + (length p - n) ≡ length p = omega arith in
      sym (trim-zeros p n (length p - n) least (omega arith) zeros) ∙ (ap (λ (m : ℕ). trimmed (take m p)) all ∙ ap trimmed (take-length p))

  -- up to the last byte that isn't 0, or up to the seventh
  pub shown-last : 7 < n → (get_or p (n - 1) 0 ≡ 0 → ⊥) → take n p ≡ trimmed p
  shown-last long e = sym (trim-here p n long h e) ∙ trimmed-front

  pub shown-least : n ≡ 7 → take n p ≡ trimmed p
  shown-least e = sym (trim-seven (take n p) (length-take-le n p h ∙ e)) ∙ trimmed-front

-- ---- lines
pub line-length : (p : List ℕ) → length p ≤ 64 → length (packet_line p) ≤ 131
unfolding packet_line
line-length p h = simp length-append (omega (arith, length-hex (trimmed p), trimmed-length p))

pub payload-none : (l : List ℕ) → length l ≡ 0 → payload_text l ≡ []
payload-none [] e = refl
payload-none (b ∷ l) e = absurd (omega arith)

pub payload-some : (l : List ℕ) → (length l ≡ 0 → ⊥) → payload_text l ≡ ascii " " ++ hex_of l
payload-some [] e = absurd (e refl)
payload-some (b ∷ l) e = refl

pub payload-length : (l : List ℕ) → length (payload_text l) ≤ 1 + 2 * length l
payload-length [] = omega arith
payload-length (b ∷ l) = omega (arith, length-hex (b ∷ l))

-- a text at the front
pub at_front : {t out left : List ℕ} {r : ℕ} → Put 0 t out r left → printing (Ok r) left ≡ printed t out
at_front {t} {out} p =
    let z : 0 + length t ≡ length t = omega arith in
    λ i. printing (Ok ((p.next ∙ z) i)) ((p.bytes ∙ ap (λ (k : ℕ). t ++ drop k out) z) i)
