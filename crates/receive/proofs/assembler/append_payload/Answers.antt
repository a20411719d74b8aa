use Prim.Native.Nat.{◌<◌}
use native.Mathlib.Omega.{arith}
use Rattle.ctaphid.proofs.Tests.{tests}
use Rattle.receive.proofs.Receiving.{turns, waits-low}
use Rattle.receive.proofs.assembler.append_payload.Goals as goal

pub overflow_cast-next : goal.overflow_cast-next
overflow_cast-next c =
    let a = c.args in
    let low : c.in-Waiting.n < a.assembler.len = search waits-low in
    omega arith

pub returns-in-Waiting : goal.returns-in-Waiting
returns-in-Waiting c = search (tests, turns)

pub returns-in-Whole : goal.returns-in-Whole
returns-in-Whole c = search (tests, turns)

pub returns-in-Refused : goal.returns-in-Refused
returns-in-Refused c = search (tests, turns)
