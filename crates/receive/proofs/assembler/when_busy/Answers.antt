use Rattle.receive.proofs.Receiving.{turns}
use Rattle.receive.proofs.assembler.when_busy.Goals as goal

pub returns-then-channel-assembler : goal.returns-then-channel-assembler
returns-then-channel-assembler c = search turns

pub returns : goal.returns
returns c = search turns
