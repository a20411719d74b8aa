use Prim.Native.Nat.{ℕ, ◌+◌, ◌*◌}
use native.Mathlib.Omega.{arith}
use mathlib.Core.Path.{sym, ap, ◌∙◌}
use lib.ListN.{drop}
use Rattle.bench_input.specs.Lines.{number_from}
use Rattle.bench_input.proofs.Digits.{digit_at, number_more, number-end, below_more, below-most}
use Rattle.bench_input.proofs.lines.number.Goals as goal

pub overflow_mul-value : goal.overflow_mul-value
overflow_mul-value c = let at = c.loop-digit in omega (arith, below-most at.value at.digit-index (omega arith) at.invariant.0)

pub overflow_sub-digit : goal.overflow_sub-digit
overflow_sub-digit c = omega (arith, digit_at c.args.digits.now c.requires.1 c.loop-digit.digit-index (omega arith))

pub overflow_add-value : goal.overflow_add-value
overflow_add-value c =
    let at = c.loop-digit in
    omega (arith, below-most at.value at.digit-index (omega arith) at.invariant.0, digit_at c.args.digits.now c.requires.1 at.digit-index (omega arith))

pub loop-digit-preserved : goal.loop-digit-preserved
loop-digit-preserved c =
    let at = c.loop-digit in
    let l = c.args.digits.now in (
      below_more at.value _ at.digit-index at.invariant.0 (omega (arith, digit_at l c.requires.1 at.digit-index (omega arith))),
      at.invariant.1
          ∙ (number_more l at.digit-index at.value (omega arith) ∙ ap (λ (d : ℕ). number_from (10 * at.value + d) (drop (at.digit-index + 1) l)) (sym c.from.ensures)),
    )

pub returns : goal.returns
returns c = let at = c.loop-digit in sym (at.invariant.1 ∙ number-end _ at.digit-index at.value (omega arith))
