use Rattle.std.proofs.lemmas.Bool.{not_from_false}
use Rattle.ctaphid.specs.Receiver.{start_known}
use Rattle.ctaphid.proofs.Tests.{tests}
use Rattle.receive.proofs.Receiving.{turns, start-unknown}
use Rattle.receive.proofs.assembler.parse_init_packet.Goals as goal

pub returns-then-not-knows : goal.returns-then-not-knows
returns-then-not-knows c =
    let a = c.args in
    start-unknown a.max a.vendor a.time a.cid a.cmd a.len a.«data».now a.message.now c.knows.ensures _ (not_from_false _ c.if-not-knows.true) c.reset.ensures

pub returns-then-len-max : goal.returns-then-len-max
unfolding start_known
returns-then-len-max c = search (tests, turns)

pub returns : goal.returns
unfolding start_known
returns c = search (tests, turns)
