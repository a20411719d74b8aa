use mathlib.Core.Path.{refl}
use Rattle.answers.proofs.Fronts.{up_to_fits, up-to-short}
use Rattle.answers.proofs.payloads.up_to.Goals as goal

pub returns-then-len-buffer : goal.returns-then-len-buffer
returns-then-len-buffer c = record { bytes = up_to_fits _ _ c.if-len-buffer.true; place = refl }

pub returns : goal.returns
returns c = record { bytes = up-to-short _ _ c.if-len-buffer.false; place = refl }
