use native.Mathlib.Omega.{arith}
use mathlib.Core.Path.{ap, ◌∙◌}
use Rattle.bench_input.specs.Pieces.{keep_of}
use Rattle.bench_input.proofs.Kept.{cut-over, cut-past, cut-whole, cut-part, part-found, end-found}
use Rattle.bench_input.proofs.pieces.cut_line.Goals as goal

pub returns-then-kept-line : goal.returns-then-kept-line
returns-then-kept-line c = cut-over _ _ _ _ (omega arith)

pub returns-then-from-input : goal.returns-then-from-input
returns-then-from-input c = cut-past _ _ _ _ (omega arith) (omega arith)

pub returns-then-end-input : goal.returns-then-end-input
returns-then-end-input c =
    let a = c.args in
    let end = c.line_end-end.result in
    let found = c.line_end-end.ensures.value in
    let e = c.keep-now_kept.ensures ∙ ap (keep_of a.line.now a.kept) (part-found a.input.now a.from end found (omega arith)) in
    cut-whole a.line.now a.kept a.input.now a.from (omega arith) (omega arith) (end-found a.input.now a.from end found (omega arith)) c.keep-now_kept.new.line e (omega arith)

pub returns : goal.returns
returns c =
    let a = c.args in
    let end = c.line_end-end.result in
    let found = c.line_end-end.ensures.value in
    let e = c.keep-now_kept.ensures ∙ ap (keep_of a.line.now a.kept) (part-found a.input.now a.from end found (omega arith)) in
    cut-part a.line.now a.kept a.input.now a.from (omega arith) (omega arith) (end-found a.input.now a.from end found (omega arith)) c.keep-now_kept.new.line e (omega arith)
