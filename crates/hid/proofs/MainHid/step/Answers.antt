use Rattle.hid.proofs.Shortening.{short-asks}
use Rattle.hid.proofs.Finishing.{finished-short, main-asks, main-finished}
use Rattle.hid.proofs.MainHid.step.Goals as goal

pub go_on-next-requires : goal.go_on-next-requires
go_on-next-requires c =
    let a = c.args in
    short-asks a.self.hid a.self.wink a.time a.disabled a.packet.now a.message.now a.reply.now c.refusal.ensures c.if-refusal-eq0.true c.is_due.ensures c.if-is_due.true

pub returns-then-refusal-eq0 : goal.returns-then-refusal-eq0
returns-then-refusal-eq0 c =
    let a = c.args in
    finished-short a.self a.time a.disabled a.packet.now a.message.now a.reply.now c.refusal.ensures c.if-refusal-eq0.true c.is_due.ensures c.if-is_due.true _ _ c.go_on-next.ensures _ c.with_wink.ensures

pub finish-requires : goal.finish-requires
finish-requires c =
    let a = c.args in
    main-asks a.self a.time a.disabled a.packet.now a.message.now a.reply.now _ _ _ c.admit-stepped.ensures

pub returns : goal.returns
returns c =
    let a = c.args in
    main-finished a.self a.time a.disabled a.packet.now a.message.now a.reply.now _ _ _ c.admit-stepped.ensures _ _ c.finish.ensures
