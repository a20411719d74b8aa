use native.Mathlib.Omega.{arith}
use Rattle.packet.proofs.Parts.{rest}
use Rattle.host.proofs.Fields.{taken_is}
use Rattle.host.proofs.init.init_rest.Goals as goal

pub slice_bounds-result-count : goal.slice_bounds-result-count
slice_bounds-result-count c = omega (arith, (taken_is _ _ _ c.is_init_reply.ensures c.if-is_init_reply.true).0)

pub slice_bounds-result-start : goal.slice_bounds-result-start
slice_bounds-result-start c = omega (arith, (taken_is _ _ _ c.is_init_reply.ensures c.if-is_init_reply.true).0)

pub returns-then-is_init_reply : goal.returns-then-is_init_reply
returns-then-is_init_reply c =
    let p = c.args.payload.now in
    let is = (taken_is c.args.cmd p _ c.is_init_reply.ensures c.if-is_init_reply.true).1 in
    record { bytes = rw is (rest 17 p); place = rw is }
