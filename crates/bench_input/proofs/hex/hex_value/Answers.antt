use native.Mathlib.Omega.{arith}
use mathlib.Core.Path.{sym, ◌∙◌}
use Rattle.bench_input.proofs.ReadBack.{digit-is, letter-is, digit_value, letter-value}
use Rattle.bench_input.proofs.hex.hex_value.Goals as goal

pub returns-then-is_ascii_digit : goal.returns-then-is_ascii_digit
returns-then-is_ascii_digit c =
    let digit = sym c.is_ascii_digit.ensures.value ∙ c.if-is_ascii_digit.true in
    (sym (digit_value c.args.c digit), omega (arith, digit-is c.args.c digit))

pub overflow_sub-result-else-is_ascii_digit : goal.overflow_sub-result-else-is_ascii_digit
overflow_sub-result-else-is_ascii_digit c = omega (arith, letter-is c.args.c (sym c.is_ascii_digit.ensures.value ∙ c.if-is_ascii_digit.false) c.requires)

pub returns-else-is_ascii_digit : goal.returns-else-is_ascii_digit
returns-else-is_ascii_digit c =
    let none = sym c.is_ascii_digit.ensures.value ∙ c.if-is_ascii_digit.false in
    (sym (letter-value c.args.c none), omega (arith, letter-is c.args.c none c.requires))
