use Prim.Native.Nat.{◌+◌, ◌*◌}
use mathlib.Core.Path.{◌≡◌}
use lib.ListN.{length, take}
use Rattle.bench_output.specs.Placing.{Put}
use Rattle.bench_input.specs.Hex.{hex_of}
use Rattle.bench_output.proofs.placing.put_hex.Given as goal

abbrev pub invariant-loop-byte : goal.invariant-loop-byte
invariant-loop-byte l = (l.place ≡ l.at + 2 * l.byte-index) × (length l.out ≡ length l.initial.out) × Put l.at (hex_of (take l.byte-index l.part)) l.initial.out l.place l.out
