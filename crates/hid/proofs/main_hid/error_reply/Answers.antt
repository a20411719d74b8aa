use Rattle.hid.proofs.Finishing.{outers}
use Rattle.hid.proofs.main_hid.error_reply.Goals as goal

pub returns : goal.returns
returns c = search outers
