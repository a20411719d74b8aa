use Rattle.ble.proofs.Sending.{laid-short, laid-full, laid-never}
use Rattle.std.proofs.Common.{rules}
use Rattle.ble.proofs.writing.lay.Goals as goal

pub returns-in-Waiting : goal.returns-in-Waiting
returns-in-Waiting c =
    let a = c.args in
    laid-short a.size a.head.now a.«data».now a.buffer.now _ c.requires.0 c.requires.1 c.copy.ensures _ c.add_data.ensures (search rules)

pub returns-in-Whole : goal.returns-in-Whole
returns-in-Whole c =
    let a = c.args in
    laid-full a.size a.head.now a.«data».now a.buffer.now _ c.requires.0 c.requires.1 c.copy.ensures _ c.add_data.ensures (search rules)

pub returns-in-Refused : goal.returns-in-Refused
returns-in-Refused c =
    let a = c.args in
    laid-never a.size a.head.now a.«data».now a.buffer.now _ c.requires.0 c.requires.1 c.copy.ensures _ c.add_data.ensures {number = c.in-Refused.field-0} (search rules)
