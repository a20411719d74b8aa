use Rattle.hid.proofs.Finishing.{outers}
use Rattle.hid.proofs.main_hid.on_request.Goals as goal

pub returns-then-number-eq-WINK : goal.returns-then-number-eq-WINK
returns-then-number-eq-WINK c = search outers

pub returns-then-number-eq-MSG : goal.returns-then-number-eq-MSG
returns-then-number-eq-MSG c = search outers

pub returns : goal.returns
returns c = search outers
