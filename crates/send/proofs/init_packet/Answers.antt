use Rattle.ctaphid.specs.Packets.{written}
use Rattle.send.proofs.init_packet.Goals as goal

pub returns : goal.returns
unfolding written
returns c = simp (c.copy_from_slice.ensures.after, c.head-front.ensures)
