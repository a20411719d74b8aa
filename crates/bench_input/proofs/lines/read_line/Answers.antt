use Prim.Native.Nat.{ℕ}
use mathlib.Core.Path.{sym, ap, ◌∙◌}
use Rattle.bench_input.specs.Lines.{is_formed, input_of, read_to}
use Rattle.bench_input.proofs.AsWritten.{left-refused, left-read, left-unread}
use Rattle.bench_input.proofs.lines.read_line.Goals as goal

pub returns-then-packet-ne-PACKET_SIZE : goal.returns-then-packet-ne-PACKET_SIZE
returns-then-packet-ne-PACKET_SIZE c = sym (left-refused _ _ c.if-packet-ne-PACKET_SIZE.true)

pub take_input-requires : goal.take_input-requires
take_input-requires c = (c.digits_in-digits.ensures, sym c.is_formed.ensures ∙ c.if-is_formed.true, c.if-packet-ne-PACKET_SIZE.false)

pub returns-then-is_formed : goal.returns-then-is_formed
returns-then-is_formed c =
    let a = c.args in
    let digits = c.digits_in-digits.ensures in
    let formed = ap (is_formed a.line.now) (sym digits) ∙ (sym c.is_formed.ensures ∙ c.if-is_formed.true) in
    c.take_input.ensures
    ∙ (ap (λ (n : ℕ). read_to (input_of a.line.now n)) digits ∙ sym (left-read a.line.now a.packet.now c.if-packet-ne-PACKET_SIZE.false formed))

pub returns : goal.returns
returns c =
    let a = c.args in
    let digits = c.digits_in-digits.ensures in
    let formed = ap (is_formed a.line.now) (sym digits) ∙ (sym c.is_formed.ensures ∙ c.if-is_formed.false) in
    sym (left-unread a.line.now a.packet.now c.if-packet-ne-PACKET_SIZE.false formed)
