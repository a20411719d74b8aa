use Rattle.touch.proofs.Sending.{arrived-nothing, arrived-packet, arrived-never}
use Rattle.touch.proofs.responding.respond.Goals as goal

pub returns-in-Timeout : goal.returns-in-Timeout
returns-in-Timeout c = search arrived-nothing

pub returns-in-Packet : goal.returns-in-Packet
returns-in-Packet c = search arrived-packet

pub returns-in-Refused : goal.returns-in-Refused
returns-in-Refused c = search arrived-never
