use Rattle.hid.proofs.Heard.{hearing, arriving-busy}
use Rattle.hid.proofs.state.at_time.Goals as goal

pub returns-then-assembler-eq0 : goal.returns-then-assembler-eq0
returns-then-assembler-eq0 c = search hearing

pub returns : goal.returns
returns c =
    let a = c.args in
    arriving-busy a.hid a.time _ c.if-assembler-eq0.false c.with_assembler-2.ensures
