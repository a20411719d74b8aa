use Rattle.ctaphid.proofs.Tests.{tests}
use Rattle.flat.specs.TellingWaits.{received_told}
use Rattle.flat.proofs.waiting.received_of.Goals as goal

pub returns-then-arrived-eq0 : goal.returns-then-arrived-eq0
unfolding received_told
returns-then-arrived-eq0 c = search tests

pub returns : goal.returns
unfolding received_told
returns c = search tests
