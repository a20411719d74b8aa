use Prim.Native.Nat.{◌+◌, ◌/◌, ◌%◌}
use native.Mathlib.Omega.{arith}
use Rattle.bench_output.proofs.Puts.{put_one, put_two, put_three}
use Rattle.bench_output.proofs.Spelling.{one-digit, two_digits, three-digits}
use Rattle.bench_output.proofs.placing.put_decimal.Goals as goal

pub returns-then-number-lt10 : goal.returns-then-number-lt10
returns-then-number-lt10 c = let a = c.args in rw (one-digit a.number (omega arith)) (put_one (48 + a.number) a.at a.out.now (omega arith))

pub returns-then-number-lt100 : goal.returns-then-number-lt100
returns-then-number-lt100 c =
    let a = c.args in
    rw (two_digits a.number (omega arith) (omega arith)) (put_two (48 + a.number / 10) (48 + a.number % 10) a.at a.out.now (omega arith))

pub returns : goal.returns
returns c =
    let a = c.args in
    rw (three-digits a.number (omega arith) (omega arith))
    (put_three (48 + a.number / 100) (48 + a.number / 10 % 10) (48 + a.number % 10) a.at a.out.now (omega arith))
