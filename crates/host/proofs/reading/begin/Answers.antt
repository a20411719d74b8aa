use Rattle.ctaphid.proofs.Tests.{tests}
use Rattle.host.proofs.Receiving.{hearing, gathers}
use Rattle.ctaphid.specs.Host.{begin}
use Rattle.host.proofs.reading.begin.Goals as goal

pub returns-then-len-gt-LARGEST_PAYLOAD : goal.returns-then-len-gt-LARGEST_PAYLOAD
unfolding begin
returns-then-len-gt-LARGEST_PAYLOAD c = search (tests, hearing)

pub returns-then-len-buffer : goal.returns-then-len-buffer
unfolding begin
returns-then-len-buffer c = search (tests, hearing)

pub returns : goal.returns
unfolding begin
returns c = search (tests, hearing, gathers)
