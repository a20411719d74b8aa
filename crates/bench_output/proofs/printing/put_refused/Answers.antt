use native.Mathlib.Omega.{arith}
use Rattle.bench_output.specs.Printing.{refused_line}
use Rattle.bench_output.proofs.Puts.{put_both}
use Rattle.bench_output.proofs.Spelling.{decimal-length}
use Rattle.bench_output.proofs.printing.put_refused.Goals as goal

pub put-requires : goal.put-requires
put-requires c =
    let a = c.args in
    omega (arith, decimal-length 3 a.number, c.put-a.ensures.next, c.put_decimal-b.ensures.next)

pub returns : goal.returns
unfolding refused_line
returns c =
    let a = c.args in
    put_both (omega (arith, decimal-length 3 a.number))
    (put_both (omega arith) c.put-a.ensures c.put_decimal-b.ensures)
    c.put.ensures
