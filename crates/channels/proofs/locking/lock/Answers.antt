use Rattle.channels.proofs.Locks.{lock-calls}
use Rattle.channels.proofs.locking.lock.Goals as goal

pub returns-then-reply-lt-SHORT_REPLY_SIZE : goal.returns-then-reply-lt-SHORT_REPLY_SIZE
returns-then-reply-lt-SHORT_REPLY_SIZE c = search lock-calls

pub returns-then-time-gt-LAST_TIME_MS : goal.returns-then-time-gt-LAST_TIME_MS
returns-then-time-gt-LAST_TIME_MS c = search lock-calls

pub returns : goal.returns
returns c = search lock-calls
