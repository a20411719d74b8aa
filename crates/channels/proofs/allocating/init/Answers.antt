use Rattle.channels.proofs.Inits.{init-calls}
use Rattle.channels.proofs.allocating.init.Goals as goal

pub returns-then-reply-lt-SHORT_REPLY_SIZE : goal.returns-then-reply-lt-SHORT_REPLY_SIZE
returns-then-reply-lt-SHORT_REPLY_SIZE c = search init-calls

pub returns-then-allocated-gt-MAX_CID : goal.returns-then-allocated-gt-MAX_CID
returns-then-allocated-gt-MAX_CID c = search init-calls

pub returns : goal.returns
returns c = search init-calls
