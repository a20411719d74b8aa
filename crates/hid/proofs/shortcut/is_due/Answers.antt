use Rattle.hid.proofs.Shortening.{due-told}
use Rattle.hid.proofs.shortcut.is_due.Goals as goal

pub returns-in-Packet : goal.returns-in-Packet
returns-in-Packet c = search due-told
