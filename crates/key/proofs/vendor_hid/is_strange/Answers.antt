use Rattle.key.proofs.Finishing.{strange}
use Rattle.key.proofs.vendor_hid.is_strange.Goals as goal

pub returns-then-number-eq-WINK : goal.returns-then-number-eq-WINK
returns-then-number-eq-WINK c = search strange

pub returns-then-number-eq-MSG : goal.returns-then-number-eq-MSG
returns-then-number-eq-MSG c = search strange

pub returns : goal.returns
returns c = search strange
