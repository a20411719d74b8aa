use native.Mathlib.Omega.{arith}
use mathlib.Core.Path.{sym, ap}
use Rattle.ctaphid.proofs.InitReplies.{init-another, init-short, init-long, init-taken}
use Rattle.host.specs.Init.{is_taken}
use Rattle.host.proofs.init.is_init_reply.Goals as goal

pub returns-then-cmd-ne-INIT : goal.returns-then-cmd-ne-INIT
returns-then-cmd-ne-INIT c = sym (ap is_taken (init-another _ _ c.if-cmd-ne-INIT.true))

pub returns-then-payload-lt-FIELDS_SIZE : goal.returns-then-payload-lt-FIELDS_SIZE
returns-then-payload-lt-FIELDS_SIZE c = sym (ap is_taken (init-short _ _ (omega arith) (omega arith)))

pub returns-then-payload-gt-LARGEST_PAYLOAD : goal.returns-then-payload-gt-LARGEST_PAYLOAD
returns-then-payload-gt-LARGEST_PAYLOAD c = sym (ap is_taken (init-long _ _ (omega arith) (omega arith) (omega arith)))

pub returns : goal.returns
returns c = sym (ap is_taken (init-taken _ _ (omega arith) (omega arith) (omega arith)))
