use Rattle.key.proofs.Fitting.{beside}
use Rattle.key.proofs.stepping.last_beside.Goals as goal

pub returns-then-is_fit : goal.returns-then-is_fit
returns-then-is_fit c = search beside

pub returns : goal.returns
returns c = search beside
