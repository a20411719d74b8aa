use Rattle.receive.proofs.Receiving.{sound}
use Rattle.receive.proofs.MessageAssembler.is_sound.Goals as goal

pub returns-then-self-eq0 : goal.returns-then-self-eq0
returns-then-self-eq0 c = search sound

pub returns-then-self-gt127 : goal.returns-then-self-gt127
returns-then-self-gt127 c = search sound

pub returns : goal.returns
returns c = search sound
