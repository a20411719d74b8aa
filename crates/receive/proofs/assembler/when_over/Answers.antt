use Rattle.ctaphid.proofs.Tests.{tests}
use Rattle.receive.proofs.Receiving.{turns}
use Rattle.receive.proofs.assembler.when_over.Goals as goal

pub returns-in-InitPacket : goal.returns-in-InitPacket
returns-in-InitPacket c = search (tests, turns)

pub returns-then-cid-assembler : goal.returns-then-cid-assembler
returns-then-cid-assembler c = search (tests, turns)

pub returns-else-cid-assembler : goal.returns-else-cid-assembler
returns-else-cid-assembler c = search (tests, turns)
