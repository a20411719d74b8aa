use Rattle.host.proofs.Sound.{sound_none, sound-over, sound-begun}
use Rattle.std.proofs.Common.{rules}
use Rattle.host.proofs.soundness.is_sound.Goals as goal

pub returns-then-len-eq0 : goal.returns-then-len-eq0
returns-then-len-eq0 c = search (rules, sound_none, sound-over, sound-begun)

pub returns-then-len-gt-LARGEST_PAYLOAD : goal.returns-then-len-gt-LARGEST_PAYLOAD
returns-then-len-gt-LARGEST_PAYLOAD c = search (rules, sound_none, sound-over, sound-begun)

pub returns : goal.returns
returns c = search (rules, sound_none, sound-over, sound-begun)
