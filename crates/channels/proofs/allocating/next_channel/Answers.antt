use Rattle.ctaphid.proofs.Tests.{tests}
use Rattle.ctaphid.specs.Transport.{next_channel}
use Rattle.channels.proofs.allocating.next_channel.Goals as goal

pub returns-then-allocated-eq-MAX_CID : goal.returns-then-allocated-eq-MAX_CID
unfolding next_channel
returns-then-allocated-eq-MAX_CID c = search tests

pub returns : goal.returns
unfolding next_channel
returns c = search tests
