use Rattle.ctaphid.proofs.Tests.{tests}
use Rattle.hid.specs.Soundness.{is_timely}
use Rattle.hid.proofs.soundness.is_timely.Goals as goal

pub returns-then-assembler-hid : goal.returns-then-assembler-hid
unfolding is_timely
returns-then-assembler-hid c = search tests depth 12

pub returns-then-hid : goal.returns-then-hid
unfolding is_timely
returns-then-hid c = search tests depth 12

pub returns-then-wink-hid : goal.returns-then-wink-hid
unfolding is_timely
returns-then-wink-hid c = search tests depth 12

pub returns : goal.returns
unfolding is_timely
returns c = search tests depth 12
