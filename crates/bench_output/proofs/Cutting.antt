-- A message's packets, written by index, and the lines that they print. Assumes nothing.
use Prim.Native.Nat.{ℕ, zero, suc, ◌+◌, ◌*◌, ◌/◌, ◌≤◌, ◌<◌}
use native.Mathlib.Omega.{arith}
use native.Mathlib.Numerals.{add-one}
use mathlib.Core.Path.{◌≡◌, refl, sym, ap, ◌∙◌}
use mathlib.Core.List.{List, [], ◌∷◌, ◌++◌, map, flatten, append-nil, append_assoc}
use borrow.Author.Tests.{le-ltb}
use lib.ListN.{length, take, drop, get_or, length-append, length-take}
use lib.Seq.{take-suc, take_all}
use Rattle.ctaphid.specs.Choice.{pick}
use Rattle.ctaphid.specs.Messages.{wire}
use Rattle.ctaphid.specs.Packets.{written}
use Rattle.ctaphid.proofs.Messages.{wire-length, wire-first, wire-later}
use Rattle.ctaphid.proofs.RoundTrip.{padded-length}
use Rattle.ctaphid.proofs.Splitting.{hid-count}
use Rattle.send.specs.Sending.{Left, left, count_of, write_of}
use Rattle.send.specs.declared.Count.{Count}
use Rattle.send.specs.declared.Count.TheVariants.{Packets, Refused as NoCount}
use Rattle.send.specs.declared.Written.{Written}
use Rattle.send.proofs.Answers.{writes}
use Rattle.bench_output.specs.Placing.{Put}
use Rattle.bench_output.specs.Packets.{packet_line, packet_lines}
use Rattle.bench_output.proofs.Puts.{put_both}
use Rattle.bench_output.proofs.Spelling.{line-length}

-- ---- how many
counted : (len : ℕ) → len ≤ 7609 → count_of len ≡ Packets (1 + (len + 1) / 59)
unfolding count_of pick
counted len h = simp (le-ltb 7609 len h) (ap Packets (hid-count len))

pub count-told : {r : Count} {k : ℕ} (len : ℕ) → len ≤ 7609 → r ≡ Packets k → r ≡ count_of len → k ≡ 1 + (len + 1) / 59
count-told len h e f = cc (counted len h)

pub count-refused : {r : Count} {k : ℕ} (len : ℕ) → len ≤ 7609 → r ≡ NoCount k → r ≡ count_of len → 0 ≡ 1 + (len + 1) / 59
count-refused len h e f = let z : ◌≡◌ {A = ℕ} 0 1 = cc (counted len h) in omega arith

-- ---- which
module _ (cid cmd : ℕ) (payload : List ℕ) (i : ℕ) (i-within : i < 1 + (length payload + 1) / 59) where
  pub packet-written : (old p : List ℕ) {r : Written} → length old ≡ 64 → cmd ≤ 127 → length payload ≤ 7609 → left r p ≡ write_of cid cmd payload i old → p ≡ get_or (wire cid cmd payload) i []
  packet-written old p size c n e = ap (λ (o : Left). o.packet) (e ∙ writes cid cmd payload i old size c n i-within)

-- ---- the lines of the first packets
flatten-snoc : (f : List ℕ → List ℕ) (l : List (List ℕ)) (x : List ℕ) → flatten (map f (l ++ (x ∷ []))) ≡ flatten (map f l) ++ f x
unfolding flatten
flatten-snoc f [] x = append-nil (f x)
flatten-snoc f (y ∷ l) x = ap (λ (t : List ℕ). f y ++ t) (flatten-snoc f l x) ∙ sym (append_assoc (f y) (flatten (map f l)) (f x))

module _ (cid cmd : ℕ) (payload : List ℕ) where
  abbrev pub first_lines : (i : ℕ) → List ℕ
  first_lines i = flatten (map packet_line (take i (wire cid cmd payload)))

  pub first-none : first_lines 0 ≡ []
  unfolding flatten
  first-none = refl

  pub first_more : (i : ℕ) → i < 1 + (length payload + 1) / 59 → first_lines (i + 1) ≡ first_lines i ++ packet_line (get_or (wire cid cmd payload) i [])
  first_more i h = rw (add-one, take-suc (wire cid cmd payload) i [] (omega (arith, wire-length cid cmd payload))) (flatten-snoc packet_line (take i (wire cid cmd payload)) _)

  pub first-all : (i : ℕ) → 1 + (length payload + 1) / 59 ≤ i → first_lines i ≡ packet_lines cid cmd payload
  unfolding packet_lines
  first-all i h = ap (λ (l : List (List ℕ)). flatten (map packet_line l)) (take_all i (wire cid cmd payload) (omega (arith, wire-length cid cmd payload)))

  -- a turn of the loop over the packets
  pub packets-turn : (i : ℕ) → i < 1 + (length payload + 1) / 59 → {place next : ℕ} {out mid left p : List ℕ} → p ≡ get_or (wire cid cmd payload) i []
      → place ≤ length out → Put 0 (first_lines i) out place mid → Put place (packet_line p) mid next left → Put 0 (first_lines (i + 1)) out next left
  packets-turn i h {place} {next} {out} {mid} {left} {p} e room a b =
      rw (first_more i h, ← e) (put_both (omega (arith, a.next)) a b)

  -- ---- and how long they are
  wire-size : (i : ℕ) → i < 1 + (length payload + 1) / 59 → length (get_or (wire cid cmd payload) i []) ≡ 64
  unfolding written
  wire-size zero h = rw (wire-first cid cmd payload) (omega (arith, padded-length 57 (take 57 payload) (omega (arith, length-take 57 payload))))
  wire-size (suc i) h =
      let field = take 59 (drop (57 + 59 * i) payload) in
      rw (wire-later cid cmd payload i (omega arith)) (omega (arith, padded-length 59 field (omega (arith, length-take 59 (drop (57 + 59 * i) payload)))))

  first-length : (i : ℕ) → i ≤ 1 + (length payload + 1) / 59 → length (first_lines i) ≤ 131 * i
  unfolding flatten
  first-length zero h = omega arith
  first-length (suc i) h =
      let p = get_or (wire cid cmd payload) i [] in
      let long : length p ≤ 64 = omega (arith, wire-size i (omega arith)) in
      rw (← add-one i, first_more i (omega arith)) (omega (arith, length-append (first_lines i) (packet_line p), first-length i (omega arith), line-length p long))

  pub lines-length : length payload ≤ 7609 → length (packet_lines cid cmd payload) ≤ 16899
  lines-length n =
      let all = 1 + (length payload + 1) / 59 in
      omega (arith, first-length all (omega arith), ap length (first-all all (omega arith)))
