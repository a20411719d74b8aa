use Rattle.ctaphid.proofs.Tests.{tests}
use Rattle.ctaphid.specs.Transport.{is_shut, is_locked_against}
use Rattle.channels.proofs.validity.is_shut.Goals as goal

pub returns-then-disabled : goal.returns-then-disabled
unfolding is_shut is_locked_against
returns-then-disabled c = search tests

pub returns-then-time-lock : goal.returns-then-time-lock
unfolding is_shut is_locked_against
returns-then-time-lock c = search tests

pub returns : goal.returns
unfolding is_shut is_locked_against
returns c = search tests
