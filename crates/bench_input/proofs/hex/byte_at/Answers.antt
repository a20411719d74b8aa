use Prim.Native.Nat.{◌+◌, ◌*◌}
use native.Mathlib.Omega.{arith}
use mathlib.Core.Path.{sym}
use Rattle.bench_input.proofs.ReadBack.{hex-at, byte-there, byte_past}
use Rattle.bench_input.proofs.hex.byte_at.Goals as goal

pub returns-then-low-hex : goal.returns-then-low-hex
returns-then-low-hex c = sym (byte_past c.args.hex.now c.args.index (omega arith))

pub hex_value-requires : goal.hex_value-requires
hex_value-requires c = hex-at c.args.hex.now c.requires.0 (2 * c.args.index) (omega arith)

pub hex_value-requires-2 : goal.hex_value-requires-2
hex_value-requires-2 c = hex-at c.args.hex.now c.requires.0 (2 * c.args.index + 1) (omega arith)

pub returns : goal.returns
returns c = omega (arith, byte-there c.args.hex.now c.args.index (omega arith))
