use Rattle.hid.proofs.Heard.{counts_of, serves-of, serves}
use Rattle.hid.proofs.hearing.serve.Goals as goal

pub still_due-due-requires : goal.still_due-due-requires
still_due-due-requires c = search counts_of

pub settle-requires : goal.settle-requires
settle-requires c =
    let a = c.args in
    serves-of a.hid a.time a.packet a.«data».now a.message.now a.reply.now _ _ c.requires.hears.0 c.requires.hears.1 c.requires.data_value c.parse_packet-assembled.ensures c.still_due-due.ensures _ c.with_assembler-next.ensures

pub returns : goal.returns
returns c =
    let a = c.args in
    serves a.hid a.time a.packet a.«data».now a.message.now a.reply.now _ _ c.requires.hears.0 c.requires.hears.1 c.requires.data_value c.parse_packet-assembled.ensures c.still_due-due.ensures _ c.with_assembler-next.ensures _ _ c.channel.ensures c.settle.ensures
