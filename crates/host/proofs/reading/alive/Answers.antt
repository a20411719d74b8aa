use Rattle.ctaphid.proofs.Tests.{tests}
use Rattle.host.proofs.Receiving.{hearing}
use Rattle.ctaphid.specs.Host.{alive}
use Rattle.host.proofs.reading.alive.Goals as goal

pub returns-then-len-ne1 : goal.returns-then-len-ne1
unfolding alive
returns-then-len-ne1 c = search (tests, hearing)

pub returns : goal.returns
unfolding alive
returns c = search (tests, hearing)
