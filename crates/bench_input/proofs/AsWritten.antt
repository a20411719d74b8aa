-- What a line reads as is what is written there. Assumes nothing.
use Prim.Native.Nat.{ℕ, suc, ◌+◌, ◌*◌, ◌≤◌}
use native.Mathlib.Omega.{arith}
use mathlib.Core.Path.{◌≡◌, refl, sym, ap, subst, ◌∙◌}
use mathlib.Core.Bool.{Bool, true, false, ◌||◌}
use mathlib.Core.List.{List, ◌∷◌, ◌++◌}
use Rattle.std.proofs.Common.{Ok, Err, None}
use borrow.Author.Tests.{le-leb, leb-true, eq-eqb, ne_eqb, eqb-true}
use lib.Dec.{leb, eqb}
use lib.ListN.{length, take, drop, get_or, length-append, take-append-drop}
use lib.Seq.{length-take-le, drop-cons, take-append_seam, get_or-append_seam, get_or-append-add, drop-append-add}
use Rattle.ctaphid.specs.Choice.{pick}
use Rattle.ctaphid.specs.Limits.{packet_size}
use Rattle.ctaphid.proofs.Tests.{pick_true}
use Rattle.bench_input.specs.Hex.{'0', '1', space, hex_of, bytes_of, is_hex}
use Rattle.bench_input.specs.Lines.{Input, Decimal, number_of, flag_of, Written, Reading, reads, unread, digits_in, is_flag, is_formed, input_of, line_of, ReadsAsWritten, OneReading, read, read_to, read_into, read_line_of, CallsAsWritten}
use Rattle.packet.specs.declared.refusal.Refusal.TheVariants.{PacketSize}
use Rattle.bench_input.proofs.ReadBack.{by_bool, picked, passed, length-hex, hex-all, hex-read, read_length, read-bytes, read-hex, HexFacts, hex-is, is-hex}
use Rattle.bench_input.proofs.Digits.{in-front, before-space}

-- ---- the tests, as facts

flag-of : (c : ℕ) → is_flag c ≡ true → flag_of (eqb c '1') ≡ c
flag-of c e =
    by_bool (eqb c '0')
    (λ z. let zero : c ≡ '0' = eqb-true c '0' z in rw (zero) refl)
    (λ z. let one : eqb c '1' ≡ true = ap (λ (b : Bool). b || eqb c '1') (sym z) ∙ e in rw one (sym (eqb-true c '1' one)))

flag_is : (b : Bool) → is_flag (flag_of b) ≡ true
flag_is true = refl
flag_is false = refl

flag-told : (b : Bool) → eqb (flag_of b) '1' ≡ b
flag-told true = refl
flag-told false = refl

pub record FormFacts (l : List ℕ) (n : ℕ) : Type 0 where
  pub some : 1 ≤ n
  pub most : n ≤ 15
  pub long : n + 3 ≤ length l
  pub before : get_or l n 0 ≡ space
  pub flag : is_flag (get_or l (n + 1) 0) ≡ true
  pub after : get_or l (n + 2) 0 ≡ space
  pub hex : is_hex (drop (n + 3) l) ≡ true

module _ (l : List ℕ) (n : ℕ) where
  pub form-is : is_formed l n ≡ true → FormFacts l n
  unfolding is_formed
  form-is e =
      let p₁ = pick_true (leb 1 n) _ e in
      let p₂ = pick_true (leb n 15) _ p₁.1 in
      let p₃ = pick_true (leb (n + 3) (length l)) _ p₂.1 in
      let p₄ = pick_true (eqb (get_or l n 0) space) _ p₃.1 in
      let p₅ = pick_true (is_flag (get_or l (n + 1) 0)) _ p₄.1 in
      let p₆ = pick_true (eqb (get_or l (n + 2) 0) space) _ p₅.1 in
      record {
        some = leb-true 1 n p₁.0;
        most = leb-true n 15 p₂.0;
        long = leb-true (n + 3) (length l) p₃.0;
        before = eqb-true (get_or l n 0) space p₄.0;
        flag = p₅.0;
        after = eqb-true (get_or l (n + 2) 0) space p₆.0;
        hex = p₆.1;
      }

  is-formed : FormFacts l n → is_formed l n ≡ true
  unfolding is_formed pick
  is-formed f =
      simp (
        le-leb 1 n f.some,
        le-leb n 15 f.most,
        le-leb (n + 3) (length l) f.long,
        eq-eqb (get_or l n 0) space f.before,
        f.flag,
        eq-eqb (get_or l (n + 2) 0) space f.after,
        f.hex,
      )

  -- ---- what reads was written so

  -- a line, cut after its digits
  three-more : n + 3 ≤ length l → drop n l ≡ get_or l n 0 ∷ (get_or l (n + 1) 0 ∷ (get_or l (n + 2) 0 ∷ drop (n + 3) l))
  three-more h =
      let a : n + 1 ≡ suc n = omega arith in
      let b : n + 2 ≡ suc (suc n) = omega arith in
      let c : n + 3 ≡ suc (suc (suc n)) = omega arith in
      rw (a, b, c)
      (drop-cons l n 0 (omega arith)
      ∙ ap (λ (t : List ℕ). get_or l n 0 ∷ t)
      (drop-cons l (suc n) 0 (omega arith)
      ∙ ap (λ (t : List ℕ). get_or l (suc n) 0 ∷ t) (drop-cons l (suc (suc n)) 0 (omega arith))))

  formed-written : Decimal (take n l) → FormFacts l n → Written l (input_of l n)
  unfolding input_of
  formed-written d f =
      let h = hex-is (drop (n + 3) l) f.hex in
      let back : hex_of (bytes_of (drop (n + 3) l)) ≡ drop (n + 3) l = read-hex (drop (n + 3) l) h.even h.all in
      let size : 2 * length (bytes_of (drop (n + 3) l)) ≡ length (drop (n + 3) l) = read_length (drop (n + 3) l) h.even in
      let long : length (take n l) ≡ n = length-take-le n l (omega (arith, f.long)) in
      record {
        digits = take n l;
        some-digits = rw long f.some;
        most-digits = rw long f.most;
        decimal = d;
        time = refl;
        some_bytes = omega (arith, h.some);
        most_bytes = omega (arith, h.most);
        bytes = read-bytes (drop (n + 3) l) h.all;
        line =
            sym (take-append-drop n l)
            ∙ ap (λ (t : List ℕ). take n l ++ t)
            (three-more f.long
            ∙ (λ i. f.before i ∷ (sym {b = get_or l (n + 1) 0} (flag-of _ f.flag) i ∷ (f.after i ∷ sym back i))));
      }

-- ---- what was written so reads

module _ (digits : List ℕ) (flag : ℕ) (hex : List ℕ) where
  abbrev rest : List ℕ
  rest = space ∷ (flag ∷ (space ∷ hex))

  rest_at : (k : ℕ) → get_or (digits ++ rest) (length digits + k) 0 ≡ get_or rest k 0
  rest_at k = get_or-append-add digits rest k 0

  hex-there : drop (length digits + 3) (digits ++ rest) ≡ hex
  hex-there = drop-append-add digits rest 3

  written-formed : 1 ≤ length digits → length digits ≤ 15 → is_flag flag ≡ true → HexFacts hex → FormFacts (digits ++ rest) (length digits)
  written-formed some most f h = record {
    some = some;
    most = most;
    long = omega (arith, length-append digits rest);
    before = get_or-append_seam digits space (flag ∷ (space ∷ hex)) 0;
    flag = rw (rest_at 1) f;
    after = rest_at 2;
    hex = rw hex-there (is-hex hex h);
  }

  written-input : input_of (digits ++ rest) (length digits) ≡ record { time = number_of digits; disabled = eqb flag '1'; bytes = bytes_of hex }
  unfolding input_of
  written-input = λ i. record {
    time = number_of (take-append_seam digits rest i);
    disabled = eqb (rest_at 1 i) '1';
    bytes = bytes_of (hex-there i);
  }

formed-reads : (l : List ℕ) → is_formed l (digits_in l) ≡ true → line_of l ≡ reads (input_of l (digits_in l))
unfolding line_of
formed-reads l f = picked _ _ f

unformed-reads : (l : List ℕ) → is_formed l (digits_in l) ≡ false → line_of l ≡ unread
unfolding line_of
unformed-reads l f = passed _ _ f

written-reads : (l : List ℕ) (i : Input) → Written l i → line_of l ≡ reads i
written-reads l i w =
    let bytes = i.bytes in
    let flag = flag_of i.disabled in
    let all : List ℕ = w.digits ++ (space ∷ (flag ∷ (space ∷ hex_of bytes))) in
    let size : length (hex_of bytes) ≡ 2 * length bytes = length-hex bytes in
    let hex : HexFacts (hex_of bytes) = record {
      some = omega (arith, w.some_bytes);
      most = omega (arith, w.most_bytes);
      even = omega arith;
      all = hex-all bytes w.bytes;
    } in
    let count : digits_in all ≡ length w.digits = before-space w.digits (flag ∷ (space ∷ hex_of bytes)) w.decimal in
    let formed : FormFacts all (digits_in all) =
    rw count (written-formed w.digits flag (hex_of bytes) w.some-digits w.most-digits (flag_is i.disabled) hex) in
    let input : input_of all (length w.digits) ≡ i =
    written-input w.digits flag (hex_of bytes)
    ∙ (λ k. record { time = sym w.time k; disabled = flag-told i.disabled k; bytes = hex-read bytes w.bytes k }) in
    ap line_of w.line ∙ (formed-reads all (is-formed all (digits_in all) formed) ∙ ap reads (ap (input_of all) count ∙ input))

-- ---- both ways

reads-not-unread : (i : Input) → reads i ≡ unread → ⊥
reads-not-unread i e = let z : ◌≡◌ {A = ℕ} 0 1 = cc in omega arith

same-reading : (i j : Input) → reads i ≡ reads j → i ≡ j
same-reading i j e = cc

reads-written : (l : List ℕ) (i : Input) → line_of l ≡ reads i → Written l i
reads-written l i e =
    by_bool (is_formed l (digits_in l))
    (λ f.
    let same : input_of l (digits_in l) ≡ i = same-reading _ _ (sym (formed-reads l f) ∙ e) in
    subst (λ (j : Input). Written l j) same (formed-written l (digits_in l) (in-front l) (form-is l (digits_in l) f)))
    (λ f. absurd (reads-not-unread i (sym e ∙ unformed-reads l f)))

pub reads-as-written : ReadsAsWritten
reads-as-written = record { sound = reads-written; complete = written-reads }

pub one-reading : OneReading
one-reading = record {
  one = λ l i j v w. same-reading i j (sym (written-reads l i v) ∙ written-reads l j w);
  none = λ l e i w. reads-not-unread i (sym (written-reads l i w) ∙ e);
  only = unwritten;
}
  where
    by-reading : (l : List ℕ) (r : Reading) → line_of l ≡ r → ((i : Input) → Written l i → ⊥) → line_of l ≡ unread
    by-reading l (reads i) e no-input = absurd (no-input i (reads-written l i e))
    by-reading l unread e no-input = e

    unwritten : (l : List ℕ) → ((i : Input) → Written l i → ⊥) → line_of l ≡ unread
    unwritten l no-input = by-reading l (line_of l) refl no-input

-- ---- what a call leaves

module _ (l p : List ℕ) where
  pub left-refused : (length p ≡ packet_size → ⊥) → read_line_of l p ≡ read (Err PacketSize) p
  unfolding read_line_of pick
  left-refused size = simp (ne_eqb (length p) packet_size size)

  module _ (size : length p ≡ packet_size) where
    left_by : (r : Reading) → line_of l ≡ r → read_line_of l p ≡ read_into r p
    unfolding read_line_of pick
    left_by r e = simp (eq-eqb (length p) packet_size size, e)

    pub left-read : is_formed l (digits_in l) ≡ true → read_line_of l p ≡ read_to (input_of l (digits_in l))
    left-read f = left_by (reads (input_of l (digits_in l))) (formed-reads l f)

    pub left-unread : is_formed l (digits_in l) ≡ false → read_line_of l p ≡ read (Ok None) p
    left-unread f = left_by unread (unformed-reads l f)

pub calls-as-written : CallsAsWritten
calls-as-written = record {
  input = λ l p i size w. left_by l p size (reads i) (written-reads l i w);
  unread = λ l p size no-input. left_by l p size unread (one-reading.only l no-input);
}
