use Rattle.hid.proofs.Refusing.{step-refused, step-admitted, step-heard}
use Rattle.hid.proofs.transport.admit.Goals as goal

pub returns-then-number-ne0 : goal.returns-then-number-ne0
returns-then-number-ne0 c = search step-refused

pub process_packet-requires : goal.process_packet-requires
process_packet-requires c =
    let a = c.args in
    step-admitted a.hid a.wink a.time a.disabled a.packet.now a.message.now a.reply.now c.refusal-number.ensures c.if-number-ne0.false

pub returns : goal.returns
returns c = search step-heard
