use Rattle.hid.proofs.Counting.{due-0, due-missing}
use Rattle.hid.proofs.due.still_due.Goals as goal

pub returns-then-a-eq0 : goal.returns-then-a-eq0
returns-then-a-eq0 c = search due-0

pub returns : goal.returns
returns c = due-missing c.args.a c.requires c.if-a-eq0.false
