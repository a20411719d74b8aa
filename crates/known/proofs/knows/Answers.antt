use Rattle.known.proofs.Requests.{requests, beyond}
use Rattle.known.proofs.knows.Goals as goal

pub returns-then-cmd-lt32 : goal.returns-then-cmd-lt32
returns-then-cmd-lt32 c = requests c.args.bits c.args.cmd c.if-cmd-lt32.true

pub returns : goal.returns
returns c = beyond c.args.bits c.args.cmd c.if-cmd-lt32.false c.is_allowed.ensures
