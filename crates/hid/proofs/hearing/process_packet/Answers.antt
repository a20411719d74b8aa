use native.Mathlib.Omega.{arith}
use Rattle.packet.proofs.Packets.{never-refused, packet-read}
use Rattle.hid.proofs.Heard.{hears-packet, heard-packet}
use Rattle.std.proofs.Common.{rules}
use Rattle.hid.proofs.hearing.process_packet.Goals as goal

pub hear-requires : goal.hear-requires
hear-requires c =
    let is = packet-read c.args.packet.now c.requires.0.size c.process_single_packet.result c.process_single_packet.ensures {processed = c.in-Packet.processed} c.packet_data-data.result.now (search rules) c.packet_data-data.ensures.bytes in
    (hears-packet c.args.hid c.args.time c.args.packet.now c.args.message.now _ is c.requires.0 (λ i. omega (arith, c.shared_slice_known-1.given i)), c.requires.1)

pub returns-in-Packet : goal.returns-in-Packet
returns-in-Packet c =
    let is = packet-read c.args.packet.now c.requires.0.size c.process_single_packet.result c.process_single_packet.ensures {processed = c.in-Packet.processed} c.packet_data-data.result.now (search rules) c.packet_data-data.ensures.bytes in
    heard-packet c.args.hid c.args.time c.args.packet.now c.args.message.now _ is c.args.disabled c.args.reply.now _ c.hear.ensures

pub returns-in-Refused : goal.returns-in-Refused
returns-in-Refused c = never-refused c.args.packet.now c.requires.0.size c.process_single_packet.result c.process_single_packet.ensures {n = c.in-Refused.field-0} (search rules)
