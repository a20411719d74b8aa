use Rattle.hid.proofs.Finishing.{outers}
use Rattle.hid.proofs.main_hid.on_msg.Goals as goal

pub returns-then-hid-eq0 : goal.returns-then-hid-eq0
returns-then-hid-eq0 c = search outers

pub returns : goal.returns
returns c = search outers
