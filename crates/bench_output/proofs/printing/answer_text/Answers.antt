use Rattle.bench_output.proofs.Spelling.{at_front}
use native.Mathlib.Omega.{arith}
use mathlib.Core.Path.{sym, ◌∙◌}
use Rattle.bench_output.proofs.Answers.{text-2, text-12, text-7, text-is}
use Rattle.std.proofs.Common.{rules}
use Rattle.bench_output.proofs.printing.answer_text.Goals as goal

pub returns-then-out-lt-LONGEST : goal.returns-then-out-lt-LONGEST
returns-then-out-lt-LONGEST c = sym (text-2 _ _ _ _ (omega arith))

pub returns-then-is_unsendable : goal.returns-then-is_unsendable
returns-then-is_unsendable c = sym (text-12 _ _ _ _ (omega arith) c.is_unsendable.ensures c.if-is_unsendable.true)

pub returns-then-payload-gt-LARGEST_PAYLOAD : goal.returns-then-payload-gt-LARGEST_PAYLOAD
returns-then-payload-gt-LARGEST_PAYLOAD c = sym (text-7 _ _ _ _ (omega arith) c.is_unsendable.ensures c.if-is_unsendable.false _ c.payload-payload.ensures.bytes (omega arith))

pub put_answer-requires : goal.put_answer-requires
put_answer-requires c = (search rules, search rules, sym c.is_unsendable.ensures ∙ c.if-is_unsendable.false)

pub returns : goal.returns
returns c = at_front c.put_answer.ensures ∙ sym (text-is _ _ _ _ (omega arith) c.is_unsendable.ensures c.if-is_unsendable.false _ c.payload-payload.ensures.bytes (omega arith))
