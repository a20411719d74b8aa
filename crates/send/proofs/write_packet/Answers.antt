use native.Mathlib.Omega.{arith}
use mathlib.Core.Path.{sym, ap, ◌∙◌}
use Rattle.send.specs.Sending.{left}
use Rattle.send.specs.declared.Written.TheVariants.{Packet}
use Rattle.send.proofs.Answers.{refuses-1, refuses-12, refuses-7, refuses-6, writes}
use Rattle.send.proofs.write_packet.Goals as goal

pub returns-then-packet-ne-PACKET_SIZE : goal.returns-then-packet-ne-PACKET_SIZE
returns-then-packet-ne-PACKET_SIZE c = sym (refuses-1 _ _ _ _ _ c.if-packet-ne-PACKET_SIZE.true)

pub returns-then-cmd-gt127 : goal.returns-then-cmd-gt127
returns-then-cmd-gt127 c = sym (refuses-12 _ _ _ _ _ (omega arith) (omega arith))

pub returns-then-payload-gt-LARGEST_PAYLOAD : goal.returns-then-payload-gt-LARGEST_PAYLOAD
returns-then-payload-gt-LARGEST_PAYLOAD c = sym (refuses-7 _ _ _ _ _ (omega arith) (omega arith) (omega arith))

pub returns-then-index-packets_in : goal.returns-then-index-packets_in
returns-then-index-packets_in c = sym (refuses-6 _ _ _ _ _ (omega arith) (omega arith) (omega arith) (omega arith))

pub put_packet-requires : goal.put_packet-requires
put_packet-requires c = record { size = omega arith; command = omega arith; short = omega arith; within = omega arith }

pub returns : goal.returns
returns c = ap (left Packet) c.put_packet.ensures ∙ sym (writes _ _ _ _ _ (omega arith) (omega arith) (omega arith) (omega arith))
