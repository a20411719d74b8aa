use Rattle.bench_lines.proofs.Answered.{stepped-on}
use Rattle.bench_lines.proofs.answering.step_on.Goals as goal

pub returns : goal.returns
returns c = stepped-on c.step-stepped.result _ _ c.answer_text-text.result _ _ c.step-stepped.ensures c.answer_text-text.ensures
