use Rattle.hid.proofs.Shortening.{short-asks, short-step}
use Rattle.hid.proofs.CtapHid.step.Goals as goal

pub go_on-next-requires : goal.go_on-next-requires
go_on-next-requires c =
    let a = c.args in
    short-asks a.self 0 a.time a.disabled a.packet.now a.message.now a.reply.now c.refusal.ensures c.if-refusal-eq0.true c.is_due.ensures c.if-is_due.true

pub returns-then-refusal-eq0 : goal.returns-then-refusal-eq0
returns-then-refusal-eq0 c =
    let a = c.args in
    short-step a.self 0 a.time a.disabled a.packet.now a.message.now a.reply.now c.refusal.ensures c.if-refusal-eq0.true c.is_due.ensures c.if-is_due.true _ _ c.go_on-next.ensures _ c.no_message.ensures
