use native.Mathlib.Omega.{arith}
use native.Mathlib.Nat.{zero-add}
use Rattle.packet.proofs.Parts.{rest}
use Rattle.packet.proofs.Packets.{refuses, reads_first, reads-later}
use Rattle.packet.proofs.packet_data.Goals as goal

pub returns-then-packet-ne-PACKET_SIZE : goal.returns-then-packet-ne-PACKET_SIZE
returns-then-packet-ne-PACKET_SIZE c =
    let is = refuses c.args.packet.now c.if-packet-ne-PACKET_SIZE.true in
    record { bytes = rw is; place = rw (is, zero-add) }

pub returns-then-packet-ge-INIT_BIT : goal.returns-then-packet-ge-INIT_BIT
returns-then-packet-ge-INIT_BIT c =
    let p = c.args.packet.now in
    let is = reads_first p c.if-packet-ne-PACKET_SIZE.false (omega arith) in
    record { bytes = rw is (rest 7 p); place = rw is }

pub returns-else-packet-ge-INIT_BIT : goal.returns-else-packet-ge-INIT_BIT
returns-else-packet-ge-INIT_BIT c =
    let p = c.args.packet.now in
    let is = reads-later p c.if-packet-ne-PACKET_SIZE.false (omega arith) in
    record { bytes = rw is (rest 5 p); place = rw is }
