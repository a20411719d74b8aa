use Rattle.ctaphid.proofs.Tests.{tests}
use Rattle.host.proofs.Receiving.{hearing, gathers}
use Rattle.host.proofs.reading.hear.Goals as goal

pub returns-then-from-cid : goal.returns-then-from-cid
returns-then-from-cid c = search (tests, hearing)

pub returns-then-collection-ne0 : goal.returns-then-collection-ne0
returns-then-collection-ne0 c = search (tests, hearing)

pub returns-else-collection-ne0 : goal.returns-else-collection-ne0
returns-else-collection-ne0 c = search (tests, hearing)

pub returns-then-from-cid-2 : goal.returns-then-from-cid-2
returns-then-from-cid-2 c = search (tests, hearing)

pub returns-then-collection-eq0 : goal.returns-then-collection-eq0
returns-then-collection-eq0 c = search (tests, hearing)

pub returns-then-seq-collection : goal.returns-then-seq-collection
returns-then-seq-collection c = search (tests, hearing)

pub returns-else-seq-collection : goal.returns-else-seq-collection
returns-else-seq-collection c = search (tests, hearing, gathers)
