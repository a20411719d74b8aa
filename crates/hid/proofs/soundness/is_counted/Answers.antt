use Rattle.hid.proofs.Sound.{counted}
use Rattle.hid.proofs.soundness.is_counted.Goals as goal

pub returns-then-a-gt127 : goal.returns-then-a-gt127
returns-then-a-gt127 c = search counted

pub returns-then-a-max : goal.returns-then-a-max
returns-then-a-max c = search counted

pub returns-then-a-seq : goal.returns-then-a-seq
returns-then-a-seq c = search counted

pub returns : goal.returns
returns c = search counted
