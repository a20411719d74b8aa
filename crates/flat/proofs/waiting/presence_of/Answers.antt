use Rattle.ctaphid.proofs.Tests.{tests}
use Rattle.flat.specs.TellingWaits.{presence_told}
use Rattle.flat.proofs.waiting.presence_of.Goals as goal

pub returns-then-presence-eq-TIMEOUT : goal.returns-then-presence-eq-TIMEOUT
unfolding presence_told
returns-then-presence-eq-TIMEOUT c = search tests

pub returns-then-presence-eq-TOUCHED : goal.returns-then-presence-eq-TOUCHED
unfolding presence_told
returns-then-presence-eq-TOUCHED c = search tests

pub returns : goal.returns
unfolding presence_told
returns c = search tests
