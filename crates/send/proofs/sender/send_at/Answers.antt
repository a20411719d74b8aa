use native.Mathlib.Omega.{arith}
use Rattle.send.proofs.Sending.{sent-packet, sent-refused, sent-none-left, sent-low}
use Rattle.send.proofs.sender.send_at.Goals as goal

pub overflow_add-result : goal.overflow_add-result
overflow_add-result c = omega (arith, sent-low _ _ _ _ _ _ c.in-Packet.is c.write_packet.ensures)

pub returns-in-Packet : goal.returns-in-Packet
returns-in-Packet c = search (sent-packet)

pub returns-then-number-eq1 : goal.returns-then-number-eq1
returns-then-number-eq1 c = search (sent-refused)

pub returns-else-number-eq1 : goal.returns-else-number-eq1
returns-else-number-eq1 c = search (sent-none-left)
