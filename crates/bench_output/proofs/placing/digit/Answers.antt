use Rattle.ctaphid.proofs.Tests.{tests}
use Rattle.bench_output.proofs.placing.digit.Goals as goal

pub returns-then-d-lt10 : goal.returns-then-d-lt10
returns-then-d-lt10 c = search tests

pub returns : goal.returns
returns c = search tests
