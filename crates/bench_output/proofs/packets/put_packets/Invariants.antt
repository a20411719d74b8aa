use Prim.Native.Nat.{◌*◌, ◌≤◌}
use mathlib.Core.Path.{◌≡◌}
use lib.ListN.{length}
use Rattle.bench_output.specs.Placing.{Put}
use Rattle.bench_output.proofs.Cutting.{first_lines}
use Rattle.bench_output.proofs.packets.put_packets.Given as goal

abbrev pub invariant-loop-i : goal.invariant-loop-i
invariant-loop-i l = (l.place ≤ 131 * l.i) × (length l.out ≡ length l.initial.out) × (length l.packet ≡ 64) × Put 0 (first_lines l.cid l.cmd l.payload l.i) l.initial.out l.place l.out
