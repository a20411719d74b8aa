use native.Mathlib.Omega.{arith}
use mathlib.Core.Path.{sym, ap, ◌∙◌}
use Rattle.ctaphid.specs.Bluetooth.{Taken}
use Rattle.ctaphid.proofs.Bluetooth.{hear-over, hear-none, hear-is, read_none, read_short, read-begins, read-follows}
use Rattle.ble.specs.Reading.{laid}
use Rattle.ble.proofs.Receiving.{left-refused}
use Rattle.ble.proofs.reading.hear.Goals as goal

pub returns-then-len-size : goal.returns-then-len-size
returns-then-len-size c =
    let a = c.args in
    left-refused a.collection a.buffer.now _ _ _ c.left.ensures (hear-over _ _ _ a.fragment.now (omega arith))

pub returns-then-len-lt-LATER_HEAD : goal.returns-then-len-lt-LATER_HEAD
returns-then-len-lt-LATER_HEAD c =
    let a = c.args in
    left-refused a.collection a.buffer.now _ _ _ c.left-then-len-lt-LATER_HEAD.ensures (hear-none _ _ _ a.fragment.now (omega arith) (read_none a.fragment.now (omega arith)))

pub returns-then-fragment-lt-FIRST_BIT : goal.returns-then-fragment-lt-FIRST_BIT
returns-then-fragment-lt-FIRST_BIT c =
    let a = c.args in
    c.later.ensures ∙ ap (λ (x : Taken). laid a.collection x a.buffer.now) (sym (hear-is _ _ _ a.fragment.now _ (omega arith) (read-follows a.fragment.now (omega arith) (omega arith))))

pub returns-then-len-lt-FIRST_HEAD : goal.returns-then-len-lt-FIRST_HEAD
returns-then-len-lt-FIRST_HEAD c =
    let a = c.args in
    left-refused a.collection a.buffer.now _ _ _ c.left-then-len-lt-FIRST_HEAD.ensures (hear-none _ _ _ a.fragment.now (omega arith) (read_short a.fragment.now (omega arith) (omega arith)))

pub returns : goal.returns
returns c =
    let a = c.args in
    c.first.ensures ∙ ap (λ (x : Taken). laid a.collection x a.buffer.now) (sym (hear-is _ _ _ a.fragment.now _ (omega arith) (read-begins a.fragment.now (omega arith) (omega arith))))
