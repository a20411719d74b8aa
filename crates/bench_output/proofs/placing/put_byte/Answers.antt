use mathlib.Core.List.{[], ◌∷◌}
use Rattle.bench_output.specs.Placing.{laid}
use mathlib.Core.Path.{◌∙◌}
use native.Mathlib.Omega.{arith}
use Rattle.bench_input.specs.Hex.{hex_of}
use Rattle.bench_output.proofs.Puts.{put_two}
use Rattle.bench_output.proofs.placing.put_byte.Goals as goal

pub returns : goal.returns
unfolding hex_of
returns c =
    let a = c.args in
    (put_two c.digit-high.result c.digit-low.result a.at a.out.now (omega arith)).bytes
    ∙ (λ i. laid a.at (c.digit-high.ensures i ∷ c.digit-low.ensures i ∷ []) a.out.now)
