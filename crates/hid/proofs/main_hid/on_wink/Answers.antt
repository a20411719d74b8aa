use Rattle.hid.proofs.Finishing.{outers}
use Rattle.hid.proofs.main_hid.on_wink.Goals as goal

pub returns-then-len-ne0 : goal.returns-then-len-ne0
returns-then-len-ne0 c = search outers

pub returns : goal.returns
returns c = search outers
