use Rattle.ctaphid.proofs.Tests.{tests}
use Rattle.host.proofs.Receiving.{hearing}
use Rattle.host.proofs.reading.first.Goals as goal

pub returns-then-cmd-eq-KEEPALIVE : goal.returns-then-cmd-eq-KEEPALIVE
returns-then-cmd-eq-KEEPALIVE c = search (tests, hearing, c.alive.ensures)

pub returns : goal.returns
returns c = search (tests, hearing)
