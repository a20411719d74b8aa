use Rattle.answers.proofs.Laying.{error-refused, error-laid}
use Rattle.answers.proofs.replies.error_message.Goals as goal

pub returns-then-reply-lt-SHORT_REPLY_SIZE : goal.returns-then-reply-lt-SHORT_REPLY_SIZE
returns-then-reply-lt-SHORT_REPLY_SIZE c = search error-refused

pub returns : goal.returns
returns c = search error-laid
