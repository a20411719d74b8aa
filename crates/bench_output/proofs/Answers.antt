-- What each of the code's answers prints, and what `text_of` gives, by its tests. Assumes nothing.
use Prim.Native.Nat.{ℕ, ◌+◌, ◌*◌, ◌≤◌, ◌<◌}
use native.Mathlib.Omega.{arith}
use native.Mathlib.Decide.{dec_le}
use mathlib.Core.Path.{◌≡◌, refl, sym, ap, ◌∙◌}
use mathlib.Core.List.{List}
use mathlib.Core.Bool.{Bool, true, false}
use borrow.Author.Tests.{lt-ltb, le-ltb, ltb-false}
use lib.Dec.{ltb}
use lib.ListN.{length, drop, length-append}
use Rattle.ctaphid.specs.Choice.{pick}
use Rattle.ctaphid.specs.Commands.{number}
use Rattle.packet.specs.declared.command.CtapHidCommand.{CtapHidCommand}
use Rattle.packet.specs.Numbers.{command_meant}
use Rattle.answers.specs.declared.Answer.{Answer}
use Rattle.answers.specs.declared.Answer.TheVariants as answers
use Rattle.answers.specs.Payloads.{payload_of}
use Rattle.bench_output.specs.Placing.{Put}
use Rattle.bench_input.specs.Hex.{ascii, hex_of}
use Rattle.bench_output.specs.Packets.{packet_lines}
use Rattle.bench_output.specs.Printing.{refused_line, command_line, answer_lines, said_with, is_unsendable, Printing, printing, printed, text_of, hex_text_of, NoneLonger}
use Rattle.bench_input.proofs.ReadBack.{length-hex}
use Rattle.bench_output.proofs.Spelling.{decimal-length, payload-length}
use Rattle.bench_output.proofs.Cutting.{lines-length}
use Rattle.std.proofs.Common.{Result, Ok, Err}
use Rattle.packet.specs.declared.refusal.Refusal.{Refusal}
use Rattle.packet.specs.declared.refusal.Refusal.TheVariants.{ShortBuffer, Command, LongPayload}

-- ---- a command that is sent is one that a packet can carry
module _ {a : Answer} (h : is_unsendable a ≡ false) {k : ℕ} {c len : ℕ} {cmd : CtapHidCommand} (is : k ≡ number (command_meant cmd)) where
  pub echo-low : a ≡ answers.Echo c cmd len → k ≤ 127
  echo-low e = omega (arith, ltb-false 127 (number (command_meant cmd)) (sym (ap is_unsendable e) ∙ h))

  pub reply-low : a ≡ answers.Reply c cmd len → k ≤ 127
  reply-low e = omega (arith, ltb-false 127 (number (command_meant cmd)) (sym (ap is_unsendable e) ∙ h))

-- and the test of it
module _ {a : Answer} (k : ℕ) {c len : ℕ} {cmd : CtapHidCommand} where
  pub sent-echo : a ≡ answers.Echo c cmd len → k ≡ number (command_meant cmd) → ltb 127 k ≡ is_unsendable a
  sent-echo e is = ap (ltb 127) is ∙ sym (ap is_unsendable e)

  pub sent-reply : a ≡ answers.Reply c cmd len → k ≡ number (command_meant cmd) → ltb 127 k ≡ is_unsendable a
  sent-reply e is = ap (ltb 127) is ∙ sym (ap is_unsendable e)

-- ---- an answer's lines, by its case
abbrev Says : Answer → (payload out : List ℕ) → ℕ → List ℕ → Type 0
Says a payload out r left = Put 0 (answer_lines (said_with a payload)) out r left

module _ {a : Answer} (payload : List ℕ) {out left : List ℕ} {r : ℕ} where
  pub said-refused : {n : ℕ} → a ≡ answers.Refused n → Put 0 (refused_line n) out r left → Says a payload out r left
  unfolding answer_lines
  said-refused e p = rw e p

  pub said-nothing : a ≡ answers.Nothing → Put 0 (ascii "-\n") out r left → Says a payload out r left
  unfolding answer_lines
  said-nothing e p = rw e p

  module _ (k : ℕ) {c len : ℕ} {cmd : CtapHidCommand} where
    pub said-message : a ≡ answers.Message c cmd len → k ≡ number (command_meant cmd) → Put 0 (command_line c k payload) out r left → Says a payload out r left
    unfolding answer_lines
    said-message e is p = rw (e, ← is) p

    pub said-echo : a ≡ answers.Echo c cmd len → k ≡ number (command_meant cmd) → Put 0 (packet_lines c k payload) out r left → Says a payload out r left
    unfolding answer_lines
    said-echo e is p = rw (e, ← is) p

    pub said-reply : a ≡ answers.Reply c cmd len → k ≡ number (command_meant cmd) → Put 0 (packet_lines c k payload) out r left → Says a payload out r left
    unfolding answer_lines
    said-reply e is p = rw (e, ← is) p

-- ---- what a call leaves
module _ (a : Answer) (m r out : List ℕ) where
  pub text-2 : length out < 16899 → text_of a m r out ≡ printing (Err ShortBuffer) out
  unfolding text_of pick
  text-2 h = simp (lt-ltb _ _ h)

  pub text-12 : 16899 ≤ length out → {b : Bool} → b ≡ is_unsendable a → b ≡ true → text_of a m r out ≡ printing (Err Command) out
  unfolding text_of pick
  text-12 h is t = simp (le-ltb (length out) 16899 h, sym is ∙ t)

  module _ (h : 16899 ≤ length out) {b : Bool} (sent : b ≡ is_unsendable a) (off : b ≡ false) (payload : List ℕ) (is : payload ≡ payload_of a m r) where
    pub text-7 : 7609 < length payload → text_of a m r out ≡ printing (Err LongPayload) out
    unfolding text_of pick
    text-7 n = rw (← is) (simp (le-ltb (length out) 16899 h, sym sent ∙ off, lt-ltb 7609 (length payload) n))

    pub text-is : length payload ≤ 7609 → text_of a m r out ≡ printed (answer_lines (said_with a payload)) out
    unfolding text_of pick
    text-is n = rw (← is) (simp (le-ltb (length out) 16899 h, sym sent ∙ off, le-ltb 7609 (length payload) n))

-- ---- lengths
pub none-longer : NoneLonger
unfolding answer_lines refused_line command_line hex_of
none-longer (answers.Refused n) payload h = simp length-append (omega (arith, decimal-length 3 n))
none-longer answers.Nothing payload h = omega arith
none-longer (answers.Message c cmd len) payload h = simp length-append (omega (arith, payload-length payload))
none-longer (answers.Echo c cmd len) payload h = lines-length c (number (command_meant cmd)) payload h
none-longer (answers.Reply c cmd len) payload h = lines-length c (number (command_meant cmd)) payload h

-- ---- for a caller, who takes the front of the buffer that a call says
printed-fits : (text out : List ℕ) {x : Result ℕ Refusal} {n : ℕ} {left : List ℕ} → x ≡ Ok n → printing x left ≡ printed text out → (n ≡ length text) × (n ≤ length left)
printed-fits text out {x} {n} {left} is e =
    let same : n ≡ length text = cc (ap (λ (o : Printing). o.answer) e) in
    let long : length left ≡ length text + length (drop (length text) out) = ap (λ (o : Printing). length o.out) e ∙ length-append text (drop (length text) out) in
    (same, omega arith)

refused-not : {refusal : Refusal} {n : ℕ} {x : Result ℕ Refusal} {left out : List ℕ} → x ≡ Ok n → printing x left ≡ printing (Err refusal) out → ⊥
refused-not is e = cc (ap (λ (o : Printing). o.answer) e)

pub text-fits : (a : Answer) (m r out : List ℕ) {x : Result ℕ Refusal} {n : ℕ} {left : List ℕ} → x ≡ Ok n → printing x left ≡ text_of a m r out → n ≤ length left
text-fits a m r out {x} {n} {left} is e = by-room (dec_le 16899 (length out))
  where
    by-payload : 16899 ≤ length out → is_unsendable a ≡ false → Dec (length (payload_of a m r) ≤ 7609) → n ≤ length left
    by-payload room off (yes h) =
        (printed-fits (answer_lines (said_with a (payload_of a m r))) out is (e ∙ text-is a m r out room refl off (payload_of a m r) refl h)).1
    by-payload room off (no h) = absurd (refused-not is (e ∙ text-7 a m r out room refl off (payload_of a m r) refl (omega arith)))

    by-command : 16899 ≤ length out → (b : Bool) → is_unsendable a ≡ b → n ≤ length left
    by-command room true on = absurd (refused-not is (e ∙ text-12 a m r out room refl on))
    by-command room false off = by-payload room off (dec_le (length (payload_of a m r)) 7609)

    by-room : Dec (16899 ≤ length out) → n ≤ length left
    by-room (yes room) = by-command room (is_unsendable a) refl
    by-room (no room) = absurd (refused-not is (e ∙ text-2 a m r out (omega arith)))

pub hex-fits : (bytes out : List ℕ) {x : Result ℕ Refusal} {n : ℕ} {left : List ℕ} → x ≡ Ok n → printing x left ≡ hex_text_of bytes out → (n ≡ 2 * length bytes) × (n ≤ length left)
unfolding hex_text_of pick
hex-fits bytes out {x} {n} {left} is e = by-room (dec_le (2 * length bytes) (length out))
  where
    by-room : Dec (2 * length bytes ≤ length out) → (n ≡ 2 * length bytes) × (n ≤ length left)
    by-room (yes room) =
        let fits = printed-fits (hex_of bytes) out is (e ∙ simp (le-ltb (length out) (2 * length bytes) room)) in
        (fits.0 ∙ length-hex bytes, fits.1)
    by-room (no room) =
        let none : printing x left ≡ printing (Err ShortBuffer) out = e ∙ simp (lt-ltb (length out) (2 * length bytes) (omega arith)) in
        absurd (refused-not is none)
