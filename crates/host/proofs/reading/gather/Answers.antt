use Prim.Native.Nat.{◌<◌}
use native.Mathlib.Omega.{arith}
use Rattle.ctaphid.proofs.Tests.{tests}
use Rattle.host.proofs.Receiving.{hearing, waits-low}
use Rattle.host.proofs.reading.gather.Goals as goal

pub overflow_cast-next : goal.overflow_cast-next
overflow_cast-next c =
    let low : c.in-Waiting.n < c.args.collection.len = search waits-low in
    omega arith

pub returns-in-Waiting : goal.returns-in-Waiting
returns-in-Waiting c = search (tests, hearing)

pub returns-in-Whole : goal.returns-in-Whole
returns-in-Whole c = search (tests, hearing)

pub returns-in-Refused : goal.returns-in-Refused
returns-in-Refused c = search (tests, hearing)
