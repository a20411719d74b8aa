use Rattle.ctaphid.proofs.Tests.{tests}
use Rattle.receive.proofs.Receiving.{turns}
use Rattle.receive.proofs.assembler.receive.Goals as goal

pub returns-then-assembler-eq0 : goal.returns-then-assembler-eq0
returns-then-assembler-eq0 c = search (tests, turns)

pub returns-then-assembler-time : goal.returns-then-assembler-time
returns-then-assembler-time c = search (tests, turns)

pub returns : goal.returns
returns c = search (tests, turns)
