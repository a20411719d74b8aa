use native.Mathlib.Omega.{arith}
use mathlib.Core.Path.{sym, ◌∙◌}
use Rattle.send.proofs.Answers.{split-short, split-1, split-12, split-long}
use Rattle.send.proofs.split_message.Goals as goal

pub returns-then-payload-le-LARGEST_PAYLOAD : goal.returns-then-payload-le-LARGEST_PAYLOAD
returns-then-payload-le-LARGEST_PAYLOAD c = c.write_packet.ensures ∙ sym (split-short _ _ _ _ _ _ (omega arith))

pub returns-then-packet-ne-PACKET_SIZE : goal.returns-then-packet-ne-PACKET_SIZE
returns-then-packet-ne-PACKET_SIZE c = sym (split-1 _ _ _ _ _ _ c.if-packet-ne-PACKET_SIZE.true)

pub returns-then-cmd-gt127 : goal.returns-then-cmd-gt127
returns-then-cmd-gt127 c = sym (split-12 _ _ _ _ _ _ (omega arith) (omega arith))

pub returns : goal.returns
returns c = c.write_packet-2.ensures ∙ sym (split-long _ _ _ _ _ _ (omega arith) (omega arith) (omega arith))
