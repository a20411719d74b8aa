use mathlib.Core.Logic.{inl, inr}
use Rattle.bench_output.proofs.Answers.{sent-echo, sent-reply}
use Rattle.bench_output.proofs.printing.is_unsendable.Goals as goal

pub returns-in-Echo : goal.returns-in-Echo
returns-in-Echo c = elim c.in-Echo.is [ inl e ↦ sent-echo _ e.2 c.number.ensures | inr e ↦ sent-reply _ e.2 c.number.ensures ]
