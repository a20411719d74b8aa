use Rattle.hid.proofs.Served.{init-served}
use Rattle.hid.proofs.commands.init.Goals as goal

pub returns : goal.returns
returns c = search init-served
