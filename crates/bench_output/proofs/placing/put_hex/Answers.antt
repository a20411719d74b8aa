use native.Mathlib.Omega.{arith}
use lib.Seq.{take_all}
use Rattle.bench_input.specs.Hex.{hex_of}
use Rattle.bench_output.proofs.Puts.{put-none}
use Rattle.bench_output.proofs.Spelling.{hex-turn}
use Rattle.std.proofs.Common.{rules}
use Rattle.bench_output.proofs.placing.put_hex.Goals as goal

pub loop-byte-init : goal.loop-byte-init
unfolding hex_of
loop-byte-init c = (search rules, search rules, put-none _ _)

pub loop-byte-preserved : goal.loop-byte-preserved
loop-byte-preserved c =
    let at = c.loop-byte in
    let a = c.args in (
      search rules,
      search rules,
      hex-turn a.part.now a.out.now at.out _ a.at at.place at.byte-index (omega arith) (omega arith) at.invariant.2 c.put_byte.ensures,
    )

pub returns : goal.returns
returns c =
    let a = c.args in
    let at = c.loop-byte in
    rw (take_all at.byte-index a.part.now (omega arith)) at at.invariant.2
