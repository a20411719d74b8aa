use native.Mathlib.Omega.{arith}
use Rattle.host.proofs.Fields.{rest-most}
use Rattle.flat.proofs.init_reply.Goals as goal

pub overflow_cast-result : goal.overflow_cast-result
overflow_cast-result c = omega (arith, rest-most _ _ _ c.init_rest.ensures.bytes)
