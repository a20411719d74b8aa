use Rattle.channels.proofs.Locks.{locks}
use Rattle.channels.proofs.locking.answer_lock.Goals as goal

pub returns-then-payload-ne1 : goal.returns-then-payload-ne1
returns-then-payload-ne1 c = search locks

pub returns-then-seconds-gt-LONGEST_LOCK_S : goal.returns-then-seconds-gt-LONGEST_LOCK_S
returns-then-seconds-gt-LONGEST_LOCK_S c = search locks

pub returns-then-seconds-eq0 : goal.returns-then-seconds-eq0
returns-then-seconds-eq0 c = search locks

pub returns : goal.returns
returns c = search locks
