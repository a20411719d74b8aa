use Rattle.ctaphid.proofs.Tests.{tests}
use Rattle.hid.specs.Soundness.{transacts}
use Rattle.hid.proofs.Sound.{counted-yes, counted-no, transacts-none, transacts-some}
use Rattle.hid.proofs.soundness.transacts.Goals as goal

pub returns-then-hid-eq0 : goal.returns-then-hid-eq0
returns-then-hid-eq0 c = transacts-none c.args.hid c.if-hid-eq0.true

pub returns-then-is_counted : goal.returns-then-is_counted
returns-then-is_counted c = search transacts-some

pub returns : goal.returns
unfolding transacts
returns c = search (tests, counted-yes, counted-no)
