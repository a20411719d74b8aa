use Rattle.touch.proofs.Stepping.{stepping}
use Rattle.touch.proofs.Wait.step.Goals as goal

pub returns-then-is_cut : goal.returns-then-is_cut
returns-then-is_cut c = search stepping

pub returns-then-time-gt-LAST_TIME_MS : goal.returns-then-time-gt-LAST_TIME_MS
returns-then-time-gt-LAST_TIME_MS c = search stepping

pub returns-then-time-self : goal.returns-then-time-self
returns-then-time-self c = search stepping

pub returns-then-time-self-2 : goal.returns-then-time-self-2
returns-then-time-self-2 c = search stepping

pub returns : goal.returns
returns c = search stepping
