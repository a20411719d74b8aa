use native.Mathlib.Omega.{arith}
use mathlib.Core.Path.{refl}
use Rattle.std.proofs.Common.{Some, None, Ok}
use Rattle.bench_lines.proofs.Answered.{bench-short, answered, unread-left}
use Rattle.bench_lines.proofs.answering.bench_line.Goals as goal

pub returns-then-out-lt-LONGEST : goal.returns-then-out-lt-LONGEST
returns-then-out-lt-LONGEST c = bench-short _ _ _ _ _ (omega arith)

pub returns-in-Ok-Some : goal.returns-in-Ok-Some
returns-in-Ok-Some c =
    let a = c.args in
    answered a.hid a.line.now a.message.now a.reply.now a.out.now (omega arith) _ refl _ c.read_line.ensures {a' = Ok (Some c.in-Ok-Some.field-0-0)} _ (cc) c.step_on.ensures

pub returns-in-Ok-None : goal.returns-in-Ok-None
returns-in-Ok-None c =
    let a = c.args in
    answered a.hid a.line.now a.message.now a.reply.now a.out.now (omega arith) _ refl _ c.read_line.ensures {a' = Ok None} _ (cc)
    (unread-left a.hid a.message.now a.reply.now a.out.now c.unread.new.out c.unread.result c.unread.ensures)

pub returns-in-Err : goal.returns-in-Err
returns-in-Err c =
    let a = c.args in
    answered a.hid a.line.now a.message.now a.reply.now a.out.now (omega arith) _ refl _ c.read_line.ensures _ c.in-Err.is
    (unread-left a.hid a.message.now a.reply.now a.out.now c.unread-in-Err.new.out c.unread-in-Err.result c.unread-in-Err.ensures)
