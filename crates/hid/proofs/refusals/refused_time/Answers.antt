use Rattle.ctaphid.proofs.Tests.{tests}
use Rattle.hid.proofs.refusals.refused_time.Goals as goal

pub returns-then-time-gt-LAST_TIME_MS : goal.returns-then-time-gt-LAST_TIME_MS
returns-then-time-gt-LAST_TIME_MS c = search tests

pub returns-then-time-last : goal.returns-then-time-last
returns-then-time-last c = search tests

pub returns : goal.returns
returns c = search tests
