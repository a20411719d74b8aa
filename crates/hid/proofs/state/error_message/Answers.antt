use Rattle.hid.proofs.Served.{laid}
use Rattle.hid.proofs.state.error_message.Goals as goal

pub returns : goal.returns
returns c = search laid
