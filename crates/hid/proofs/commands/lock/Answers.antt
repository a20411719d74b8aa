use Rattle.hid.proofs.Served.{lock-served}
use Rattle.hid.proofs.commands.lock.Goals as goal

pub returns : goal.returns
returns c = search lock-served
