use native.Mathlib.Omega.{arith}
use mathlib.Core.Path.{sym}
use Rattle.ctaphid.specs.Packets.{channel_in, declared_in}
use Rattle.packet.proofs.Packets.{refuses, reads_first, reads-later}
use Rattle.packet.proofs.process_single_packet.Goals as goal

pub returns-then-packet-ne-PACKET_SIZE : goal.returns-then-packet-ne-PACKET_SIZE
returns-then-packet-ne-PACKET_SIZE c = sym (refuses _ c.if-packet-ne-PACKET_SIZE.true)

pub returns-then-kind-ge-INIT_BIT : goal.returns-then-kind-ge-INIT_BIT
unfolding channel_in declared_in
returns-then-kind-ge-INIT_BIT c =
    let p = c.args.packet.now in
    let is = reads_first p c.if-packet-ne-PACKET_SIZE.false (omega arith) in
    rw is (simp (c.be32-cid.ensures, c.be16-len.ensures))

pub returns-else-kind-ge-INIT_BIT : goal.returns-else-kind-ge-INIT_BIT
unfolding channel_in
returns-else-kind-ge-INIT_BIT c =
    let p = c.args.packet.now in
    let is = reads-later p c.if-packet-ne-PACKET_SIZE.false (omega arith) in
    rw is (simp c.be32-cid.ensures)
