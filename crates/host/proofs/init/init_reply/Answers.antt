use Rattle.host.proofs.Fields.{taken_is, reply-taken, reply-none}
use Rattle.host.proofs.init.init_reply.Goals as goal

pub fields-requires : goal.fields-requires
fields-requires c = (taken_is _ _ _ c.is_init_reply.ensures c.if-is_init_reply.true).0

pub returns-then-is_init_reply : goal.returns-then-is_init_reply
returns-then-is_init_reply c = search (reply-taken, reply-none)

pub returns : goal.returns
returns c = search (reply-taken, reply-none)
