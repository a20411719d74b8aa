use native.Mathlib.Omega.{arith}
use mathlib.Core.Path.{◌∙◌}
use Rattle.ble.proofs.Sending.{sized, write-14, write-2, write-12, write-7, write-6, writes}
use Rattle.std.proofs.lemmas.Bool.{not_from_false, not_from_true}
use Rattle.ble.proofs.writing.write_fragment.Goals as goal

pub returns-then-not-is_size : goal.returns-then-not-is_size
returns-then-not-is_size c = search write-14

pub returns-then-buffer-size : goal.returns-then-buffer-size
returns-then-buffer-size c = write-2 _ _ _ _ _ c.is_size.result c.is_size.ensures (not_from_true _ c.if-not-is_size.false) (omega arith)

pub returns-then-not-is_command : goal.returns-then-not-is_command
returns-then-not-is_command c = write-12 _ _ _ _ _ c.is_size.result c.is_size.ensures (not_from_true _ c.if-not-is_size.false) (omega arith) c.is_command.result c.is_command.ensures (not_from_false _ c.if-not-is_command.true)

pub returns-then-payload-gt-LARGEST_PAYLOAD : goal.returns-then-payload-gt-LARGEST_PAYLOAD
returns-then-payload-gt-LARGEST_PAYLOAD c = write-7 _ _ _ _ _ c.is_size.result c.is_size.ensures (not_from_true _ c.if-not-is_size.false) (omega arith) c.is_command.result c.is_command.ensures (not_from_true _ c.if-not-is_command.false) (omega arith)

pub fragments_in-requires : goal.fragments_in-requires
fragments_in-requires c = ((sized _ c.is_size.result c.is_size.ensures (not_from_true _ c.if-not-is_size.false)).0, omega arith)

pub returns-then-index-fragments_in : goal.returns-then-index-fragments_in
returns-then-index-fragments_in c = write-6 _ _ _ _ _ c.is_size.result c.is_size.ensures (not_from_true _ c.if-not-is_size.false) (omega arith) c.is_command.result c.is_command.ensures (not_from_true _ c.if-not-is_command.false) (omega arith) (omega arith)

pub put_fragment-requires : goal.put_fragment-requires
put_fragment-requires c =
    let s = sized _ c.is_size.result c.is_size.ensures (not_from_true _ c.if-not-is_size.false) in
    record { smallest = s.0; largest = s.1; room = omega arith; short = omega arith; within = omega arith }

pub returns : goal.returns
returns c = c.put_fragment.ensures ∙ writes _ _ _ _ _ c.is_size.result c.is_size.ensures (not_from_true _ c.if-not-is_size.false) (omega arith) c.is_command.result c.is_command.ensures (not_from_true _ c.if-not-is_command.false) (omega arith) (omega arith)
