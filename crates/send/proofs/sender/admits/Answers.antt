use Rattle.ctaphid.proofs.Tests.{tests}
use Rattle.send.specs.Sender.{admitted}
use Rattle.send.proofs.sender.admits.Goals as goal

pub returns-then-cmd-gt127 : goal.returns-then-cmd-gt127
unfolding admitted
returns-then-cmd-gt127 c = search tests

pub returns-then-payload-gt-LARGEST_PAYLOAD : goal.returns-then-payload-gt-LARGEST_PAYLOAD
unfolding admitted
returns-then-payload-gt-LARGEST_PAYLOAD c = search tests

pub returns : goal.returns
unfolding admitted
returns c = search tests
