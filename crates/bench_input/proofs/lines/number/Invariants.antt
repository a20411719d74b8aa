use Prim.Native.Nat.{◌^◌, ◌<◌}
use mathlib.Core.Path.{◌≡◌}
use lib.ListN.{drop}
use Rattle.bench_input.specs.Lines.{number_from, number_of}
use Rattle.bench_input.proofs.lines.number.Given as goal

abbrev pub invariant-loop-digit : goal.invariant-loop-digit
invariant-loop-digit l = (l.value < 10 ^ l.digit-index) × (number_of l.digits ≡ number_from l.value (drop l.digit-index l.digits))
