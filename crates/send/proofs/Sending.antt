-- A sender's call, by what `write_of` gives, and by whether a packet is left. Assumes nothing.
use Prim.Native.Nat.{ℕ, ◌+◌, ◌/◌, ◌≤◌, ◌<◌}
use native.Mathlib.Omega.{arith}
use mathlib.Core.Path.{◌≡◌, sym, ap, ◌∙◌}
use mathlib.Core.List.{List, []}
use mathlib.Core.Bool.{true, false}
use borrow.Author.Tests.{eq-eqb, ne_eqb, lt-ltb, le-ltb}
use lib.Dec.{eqb}
use lib.ListN.{length, get_or}
use Rattle.ctaphid.specs.Choice.{pick}
use Rattle.ctaphid.specs.Messages.{count, wire}
use Rattle.ctaphid.proofs.Splitting.{hid-count}
use Rattle.send.specs.Sending.{Left, left, write_of}
use Rattle.send.specs.Sender.{Sent, sent, sent_of, has_more}
use Rattle.send.specs.declared.Written.{Written}
use Rattle.send.specs.declared.Written.TheVariants as written
use Rattle.send.specs.declared.sender.Next.TheVariants.{Packet, NoneLeft, Refused}
use Rattle.send.proofs.Answers.{by_tests}

-- what a sender makes of a written packet, or of a refusal: but for 1, none is left
abbrev pub after : Written → ℕ → List ℕ → Sent
after written.Packet place p = sent Packet (place + 1) p
after (written.Refused number) place p = pick (eqb number 1) (sent (Refused 1) place p) (sent NoneLeft place p)

abbrev pub after_left : Left → ℕ → Sent
after_left o place = after o.answer place o.packet

no-packet : (p q : List ℕ) (number : ℕ) → left written.Packet p ≡ left (written.Refused number) q → ⊥
no-packet p q number e = let z : ◌≡◌ {A = ℕ} 0 1 = cc (ap (λ (o : Left). o.answer) e) in omega arith

module _ (cid cmd : ℕ) (payload : List ℕ) (place : ℕ) (old : List ℕ) where
  -- ---- whether a packet is left
  pub more : cmd ≤ 127 → length payload ≤ 7609 → place < 1 + (length payload + 1) / 59 → has_more cmd payload place ≡ true
  unfolding has_more pick
  more c n i = simp (le-ltb _ _ c, le-ltb 7609 (length payload) n, lt-ltb place (count 57 59 (length payload)) (omega (arith, hid-count (length payload))))

  pub none-12 : 127 < cmd → has_more cmd payload place ≡ false
  unfolding has_more pick
  none-12 c = simp (lt-ltb _ _ c)

  pub none-7 : cmd ≤ 127 → 7609 < length payload → has_more cmd payload place ≡ false
  unfolding has_more pick
  none-7 c n = simp (le-ltb _ _ c, lt-ltb 7609 (length payload) n)

  pub none-6 : cmd ≤ 127 → length payload ≤ 7609 → 1 + (length payload + 1) / 59 ≤ place → has_more cmd payload place ≡ false
  unfolding has_more pick
  none-6 c n i = simp (le-ltb _ _ c, le-ltb 7609 (length payload) n, le-ltb place (count 57 59 (length payload)) (omega (arith, hid-count (length payload))))

  -- ---- what a call leaves
  pub sent-1 : (length old ≡ 64 → ⊥) → sent_of cid cmd payload place old ≡ sent (Refused 1) place old
  unfolding sent_of pick
  sent-1 size = simp (ne_eqb _ _ size)

  pub sent-more : length old ≡ 64 → has_more cmd payload place ≡ true → sent_of cid cmd payload place old ≡ sent Packet (place + 1) (get_or (wire cid cmd payload) place [])
  unfolding sent_of pick
  sent-more size h = simp (eq-eqb _ _ size, h)

  pub sent-none : length old ≡ 64 → has_more cmd payload place ≡ false → sent_of cid cmd payload place old ≡ sent NoneLeft place old
  unfolding sent_of pick
  sent-none size h = simp (eq-eqb _ _ size, h)

  -- ---- which is what is made of `write_of`
  pub as_written : sent_of cid cmd payload place old ≡ after_left (write_of cid cmd payload place old) place
  unfolding pick
  as_written =
      by_tests cid cmd payload place old (λ o. sent_of cid cmd payload place old ≡ after_left o place)
      sent-1
      (λ size c. sent-none size (none-12 c))
      (λ size c n. sent-none size (none-7 c n))
      (λ size c n i. sent-none size (none-6 c n i))
      (λ size c n i. sent-more size (more c n i))

  -- a packet is written at a place below the count, and so far below any limit
  pub written_low : (p : List ℕ) → left written.Packet p ≡ write_of cid cmd payload place old → place < 130
  written_low p =
      by_tests cid cmd payload place old (λ o. left written.Packet p ≡ o → place < 130)
      (λ size e. absurd (no-packet p old 1 e))
      (λ size c e. absurd (no-packet p old 12 e))
      (λ size c n e. absurd (no-packet p old 7 e))
      (λ size c n i e. absurd (no-packet p old 6 e))
      (λ size c n i e. omega arith)

  -- ---- by the answer of `write_packet`
  pub sent-packet : {r : Written} (p : List ℕ) → r ≡ written.Packet → left r p ≡ write_of cid cmd payload place old → sent Packet (place + 1) p ≡ sent_of cid cmd payload place old
  sent-packet p is e = ap (λ (w : Written). after w place p) (sym is) ∙ (ap (λ (o : Left). after_left o place) e ∙ sym as_written)

  pub sent-refused : {r : Written} {number : ℕ} (p : List ℕ) → r ≡ written.Refused number → number ≡ 1 → left r p ≡ write_of cid cmd payload place old → sent (Refused 1) place p ≡ sent_of cid cmd payload place old
  unfolding pick
  sent-refused p is one e = sym (simp (is, eq-eqb _ _ one)) ∙ (ap (λ (o : Left). after_left o place) e ∙ sym as_written)

  pub sent-none-left : {r : Written} {number : ℕ} (p : List ℕ) → r ≡ written.Refused number → (number ≡ 1 → ⊥) → left r p ≡ write_of cid cmd payload place old → sent NoneLeft place p ≡ sent_of cid cmd payload place old
  unfolding pick
  sent-none-left p is other e = sym (simp (is, ne_eqb _ _ other)) ∙ (ap (λ (o : Left). after_left o place) e ∙ sym as_written)

  pub sent-low : {r : Written} (p : List ℕ) → r ≡ written.Packet → left r p ≡ write_of cid cmd payload place old → place < 130
  sent-low p is e = written_low p (ap (λ (w : Written). left w p) (sym is) ∙ e)
