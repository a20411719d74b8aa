use Rattle.ctaphid.proofs.Tests.{tests}
use Rattle.ctaphid.specs.Transport.{is_allocated}
use Rattle.channels.proofs.validity.is_allocated.Goals as goal

pub returns-then-cid-lt1 : goal.returns-then-cid-lt1
unfolding is_allocated
returns-then-cid-lt1 c = search tests

pub returns : goal.returns
unfolding is_allocated
returns c = search tests
