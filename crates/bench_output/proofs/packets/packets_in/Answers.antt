use Rattle.bench_output.proofs.Cutting.{count-told, count-refused}
use Rattle.bench_output.proofs.packets.packets_in.Goals as goal

pub returns-in-Packets : goal.returns-in-Packets
returns-in-Packets c = search (count-told)

pub returns-in-Refused : goal.returns-in-Refused
returns-in-Refused c = search (count-refused)
