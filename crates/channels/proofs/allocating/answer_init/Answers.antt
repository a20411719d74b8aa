use Rattle.channels.proofs.Inits.{inits}
use Rattle.channels.proofs.allocating.answer_init.Goals as goal

pub returns-then-nonce-ne8 : goal.returns-then-nonce-ne8
returns-then-nonce-ne8 c = search inits

pub returns-then-cid-eq-BROADCAST : goal.returns-then-cid-eq-BROADCAST
returns-then-cid-eq-BROADCAST c = search inits

pub returns : goal.returns
returns c = search inits
