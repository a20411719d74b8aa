use Rattle.host.proofs.Refusing.{read-1, read-3, read-admitted, read-heard}
use Rattle.host.proofs.Collection.read.Goals as goal

pub returns-then-packet-ne-PACKET_SIZE : goal.returns-then-packet-ne-PACKET_SIZE
returns-then-packet-ne-PACKET_SIZE c = search (read-1, read-3, read-admitted, read-heard)

pub read_packet-requires : goal.read_packet-requires
read_packet-requires c = search (read-1, read-3, read-admitted, read-heard)

pub returns-then-is_sound : goal.returns-then-is_sound
returns-then-is_sound c = search (read-1, read-3, read-admitted, read-heard)

pub returns : goal.returns
returns c = search (read-1, read-3, read-admitted, read-heard)
