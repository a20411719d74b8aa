use Rattle.std.proofs.Common.{rules}
use native.Mathlib.Omega.{arith}
use Rattle.bench_output.proofs.Puts.{put-none, put_both}
use Rattle.bench_output.proofs.Spelling.{payload-none, payload-some}
use Rattle.bench_output.proofs.printing.put_payload.Goals as goal

pub returns-then-is_empty : goal.returns-then-is_empty
returns-then-is_empty c = rw (payload-none c.args.payload.now (search rules)) (put-none _ _)

pub returns : goal.returns
returns c =
    let a = c.args in
    rw (payload-some a.payload.now (search rules)) (put_both (omega arith) c.put-a.ensures c.put_hex.ensures)
