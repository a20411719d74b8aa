use mathlib.Core.Path.{◌≡◌}
use lib.ListN.{take}
use Rattle.ctaphid.specs.Messages.{padded}
use Rattle.bench_input.specs.Hex.{bytes_of}
use Rattle.bench_input.proofs.hex.decode.Given as goal

abbrev pub invariant-loop-i : goal.invariant-loop-i
invariant-loop-i l = take l.i l.packet ≡ take l.i (padded 64 (bytes_of l.hex))
