use Rattle.touch.proofs.Sending.{goes_before}
use Rattle.touch.proofs.responding.on_unrelated.Goals as goal

pub returns : goal.returns
returns c = search goes_before
