use native.Mathlib.Omega.{arith}
use mathlib.Core.Path.{ap, ◌∙◌}
use Rattle.ctaphid.specs.Host.{none}
use Rattle.host.specs.declared.Collection.{Collection}
use Rattle.ble.specs.declared.Answer.TheVariants.{Message}
use Rattle.ble.proofs.Receiving.{left-refused, excess, waits, whole, never, waits-low}
use Rattle.std.proofs.Common.{rules}
use Rattle.ble.proofs.reading.gather.Goals as goal

pub returns-then-data-len : goal.returns-then-data-len
returns-then-data-len c =
    let a = c.args in
    left-refused a.collection a.buffer.now _ _ _ c.left.ensures (excess a.collection a.begun _ a.buffer.now a.«data».now c.requires (omega arith))

pub overflow_cast-next : goal.overflow_cast-next
overflow_cast-next c =
    let a = c.args in
    omega (arith, waits-low a.collection a.begun none a.buffer.now a.«data».now c.requires (omega arith) _ c.add_data.ensures {n = c.in-Waiting.n} (search rules))

pub returns-in-Waiting : goal.returns-in-Waiting
returns-in-Waiting c =
    let a = c.args in
    waits a.collection a.begun _ a.buffer.now a.«data».now c.requires (omega arith) _ c.add_data.ensures _ c.left-in-Waiting.ensures (search rules)

pub returns-in-Whole : goal.returns-in-Whole
returns-in-Whole c =
    let a = c.args in
    whole a.collection a.begun _ a.buffer.now a.«data».now c.requires (omega arith) _ c.add_data.ensures _ (c.left-in-Whole.ensures ∙ ap (λ (t : Collection). record { collection = t; answer = Message a.begun.cmd a.begun.len }) c.new.ensures) (search rules)

pub returns-in-Refused : goal.returns-in-Refused
returns-in-Refused c =
    let a = c.args in
    never a.collection a.begun _ a.buffer.now a.«data».now c.requires (omega arith) _ c.add_data.ensures {number = c.in-Refused.field-0} _ c.left-in-Refused.ensures (search rules)
