use Rattle.key.proofs.Sound.{fits}
use Rattle.key.proofs.soundness.is_fit.Goals as goal
use Rattle.key.proofs.soundness.is_fit.Goals.{then-hid+else-hid-lock, else-hid}

pub returns-then-hid-lock : goal.returns-then-hid-lock
returns-then-hid-lock c = search fits

pub returns : goal.returns
returns c = elim c.if-hid.branch [ then-hid+else-hid-lock w ↦ search fits | else-hid w ↦ search fits ]
