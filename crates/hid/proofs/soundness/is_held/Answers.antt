use Rattle.ctaphid.proofs.Tests.{tests}
use Rattle.hid.specs.Soundness.{is_held}
use Rattle.hid.proofs.soundness.is_held.Goals as goal

pub returns-then-hid : goal.returns-then-hid
unfolding is_held
returns-then-hid c = search tests

pub returns : goal.returns
unfolding is_held
returns c = search tests
