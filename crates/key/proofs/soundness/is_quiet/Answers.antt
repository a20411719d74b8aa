use Rattle.ctaphid.proofs.Tests.{tests}
use Rattle.key.specs.Soundness.{is_quiet}
use Rattle.key.proofs.soundness.is_quiet.Goals as goal

pub returns-then-hid : goal.returns-then-hid
unfolding is_quiet
returns-then-hid c = search tests depth 12

pub returns-then-hid-wink : goal.returns-then-hid-wink
unfolding is_quiet
returns-then-hid-wink c = search tests depth 12

pub returns-then-hid-ne0 : goal.returns-then-hid-ne0
unfolding is_quiet
returns-then-hid-ne0 c = search tests depth 12

pub returns-then-hid-gt7609 : goal.returns-then-hid-gt7609
unfolding is_quiet
returns-then-hid-gt7609 c = search tests depth 12

pub returns-then-hid-gt4294967294 : goal.returns-then-hid-gt4294967294
unfolding is_quiet
returns-then-hid-gt4294967294 c = search tests depth 12

pub returns-then-hid-a : goal.returns-then-hid-a
unfolding is_quiet
returns-then-hid-a c = search tests depth 12

pub returns : goal.returns
unfolding is_quiet
returns c = search tests depth 12
