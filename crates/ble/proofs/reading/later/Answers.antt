use native.Mathlib.Omega.{arith}
use mathlib.Core.Path.{ap, ◌∙◌}
use Rattle.ctaphid.specs.Bluetooth.{Taken}
use Rattle.packet.proofs.Parts.{rest}
use Rattle.ble.specs.Reading.{laid}
use Rattle.ble.proofs.Receiving.{left-refused, none-begun, another, follows}
use Rattle.ble.proofs.reading.later.Goals as goal

pub returns-then-collection-eq0 : goal.returns-then-collection-eq0
returns-then-collection-eq0 c =
    let a = c.args in
    left-refused a.collection a.buffer.now _ _ _ c.left.ensures (none-begun a.collection a.buffer.now _ _ _ (omega arith))

pub returns-then-fragment-due : goal.returns-then-fragment-due
returns-then-fragment-due c =
    let a = c.args in
    left-refused a.collection a.buffer.now _ _ _ c.left-then-fragment-due.ensures (another a.collection a.buffer.now _ _ _ c.if-collection-eq0.false c.if-fragment-due.true)

pub returns : goal.returns
returns c =
    let a = c.args in
    c.gather.ensures ∙ ap (λ (x : Taken). laid a.collection x a.buffer.now) (follows a.collection a.buffer.now _ _ _ _ (omega arith) (omega arith) (rest 1 a.fragment.now))
