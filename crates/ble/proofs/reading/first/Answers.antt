use native.Mathlib.Omega.{arith}
use mathlib.Core.Path.{ap, ◌∙◌}
use Rattle.ctaphid.specs.Bluetooth.{Taken}
use Rattle.packet.proofs.Parts.{rest}
use Rattle.ble.specs.Reading.{laid}
use Rattle.ble.proofs.Receiving.{left-refused, inside, too_long, begins}
use Rattle.std.proofs.Common.{rules}
use Rattle.ble.proofs.reading.first.Goals as goal

pub returns-then-collection-ne0 : goal.returns-then-collection-ne0
returns-then-collection-ne0 c =
    let a = c.args in
    left-refused a.collection a.buffer.now _ _ _ c.left.ensures (inside a.collection a.buffer.now _ _ _ _ c.if-collection-ne0.true)

pub returns-then-len-buffer : goal.returns-then-len-buffer
returns-then-len-buffer c =
    let a = c.args in
    left-refused a.collection a.buffer.now _ _ _ c.left-then-len-buffer.ensures (too_long a.collection a.buffer.now _ _ _ _ (omega arith) (omega arith))

pub returns : goal.returns
returns c =
    let a = c.args in
    c.gather.ensures ∙ ap (λ (x : Taken). laid a.collection x a.buffer.now) (begins a.collection a.buffer.now _ _ _ _ _ (omega arith) (search rules) (rest 3 a.fragment.now) (omega arith))
