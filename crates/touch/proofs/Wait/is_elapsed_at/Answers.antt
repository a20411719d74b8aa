use Rattle.touch.proofs.Stepping.{asking}
use Rattle.touch.proofs.Wait.is_elapsed_at.Goals as goal

pub returns-then-time-gt-LAST_TIME_MS : goal.returns-then-time-gt-LAST_TIME_MS
returns-then-time-gt-LAST_TIME_MS c = search asking

pub returns-then-time-self : goal.returns-then-time-self
returns-then-time-self c = search asking

pub returns-then-time-self-2 : goal.returns-then-time-self-2
returns-then-time-self-2 c = search asking

pub returns : goal.returns
returns c = search asking
