use Rattle.ctaphid.proofs.Tests.{tests}
use Rattle.receive.proofs.Receiving.{turns}
use Rattle.receive.proofs.assembler.when_idle.Goals as goal

pub returns-in-InitPacket : goal.returns-in-InitPacket
returns-in-InitPacket c = search (tests, turns)

pub returns-in-ContinuationPacket : goal.returns-in-ContinuationPacket
returns-in-ContinuationPacket c = search (tests, turns)
