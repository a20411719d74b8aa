use Rattle.ctaphid.proofs.Tests.{tests}
use Rattle.channels.proofs.Valid.{valid-first, valid-later}
use Rattle.channels.proofs.validity.has_valid_channel.Goals as goal

pub returns-then-cid : goal.returns-then-cid
returns-then-cid c = search (tests, valid-first, valid-later)

pub returns-then-cid-2 : goal.returns-then-cid-2
returns-then-cid-2 c = search (tests, valid-first, valid-later)

pub returns-else-cid : goal.returns-else-cid
returns-else-cid c = search (tests, valid-first, valid-later)

pub returns-else-cid-2 : goal.returns-else-cid-2
returns-else-cid-2 c = search (tests, valid-first, valid-later)
