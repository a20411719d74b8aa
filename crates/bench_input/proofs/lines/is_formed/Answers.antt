use Rattle.ctaphid.proofs.Tests.{tests}
use Prim.Native.Nat.{◌+◌}
use mathlib.Core.Path.{sym, ap, ◌∙◌}
use Rattle.packet.proofs.Parts.{rest}
use Rattle.bench_input.specs.Hex.{is_hex}
use Rattle.bench_input.specs.Lines.{is_formed}
use Rattle.bench_input.proofs.lines.is_formed.Goals as goal

pub returns-then-digits-lt1 : goal.returns-then-digits-lt1
unfolding is_formed
returns-then-digits-lt1 c = search tests depth 30

pub returns-then-digits-gt-MOST_DIGITS : goal.returns-then-digits-gt-MOST_DIGITS
unfolding is_formed
returns-then-digits-gt-MOST_DIGITS c = search tests depth 30

pub returns-then-line-hex : goal.returns-then-line-hex
unfolding is_formed
returns-then-line-hex c = search tests depth 30

pub returns-then-line-digits-ne32 : goal.returns-then-line-digits-ne32
unfolding is_formed
returns-then-line-digits-ne32 c = search tests depth 30

pub returns-then-line-gap-ne32 : goal.returns-then-line-gap-ne32
unfolding is_formed
returns-then-line-gap-ne32 c = search (tests, sym c.is_flag.ensures ∙ c.if-is_flag.true) depth 30

pub returns-then-is_flag : goal.returns-then-is_flag
unfolding is_formed
returns-then-is_flag c =
    let a = c.args in
    let flag = sym c.is_flag.ensures ∙ c.if-is_flag.true in
    let hex = c.is_hex.ensures ∙ ap is_hex (rest (a.digits + 3) a.line.now) in
    search (tests, flag, hex) depth 30

pub returns : goal.returns
unfolding is_formed
returns c = search (tests, sym c.is_flag.ensures ∙ c.if-is_flag.false) depth 30
