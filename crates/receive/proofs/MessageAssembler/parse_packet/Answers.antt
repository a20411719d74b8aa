use Rattle.receive.proofs.Receiving.{parse-refused, parse-receives, parse-received}
use Rattle.receive.proofs.MessageAssembler.parse_packet.Goals as goal

pub returns-then-number-ne0 : goal.returns-then-number-ne0
returns-then-number-ne0 c = search parse-refused

pub receive-requires : goal.receive-requires
receive-requires c = search parse-receives

pub returns : goal.returns
returns c = search parse-received
