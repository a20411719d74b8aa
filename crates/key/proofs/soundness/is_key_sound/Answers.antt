use Rattle.key.proofs.Sound.{key-tests}
use Rattle.key.proofs.soundness.is_key_sound.Goals as goal

pub returns-then-is_sound : goal.returns-then-is_sound
returns-then-is_sound c = search key-tests

pub returns : goal.returns
returns c = search key-tests
