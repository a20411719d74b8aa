use Rattle.touch.proofs.Stepping.{begin-late, begins}
use Rattle.touch.proofs.Wait.begin.Goals as goal

pub returns-then-time-gt-LAST_TIME_MS : goal.returns-then-time-gt-LAST_TIME_MS
returns-then-time-gt-LAST_TIME_MS c = search (begin-late, begins)

pub returns : goal.returns
returns c = search (begin-late, begins)
