use Rattle.ctaphid.proofs.Tests.{tests}
use Rattle.hid.specs.Soundness.{is_on_channel}
use Rattle.hid.proofs.Sound.{allocated-yes, allocated-no}
use Rattle.hid.proofs.soundness.is_on_channel.Goals as goal

pub returns-then-is_allocated : goal.returns-then-is_allocated
unfolding is_on_channel
returns-then-is_allocated c = search (tests, allocated-yes, allocated-no) depth 8

pub returns-then-cid-ne4294967295 : goal.returns-then-cid-ne4294967295
unfolding is_on_channel
returns-then-cid-ne4294967295 c = search (tests, allocated-yes, allocated-no) depth 8

pub returns : goal.returns
unfolding is_on_channel
returns c = search (tests, allocated-yes, allocated-no) depth 8
