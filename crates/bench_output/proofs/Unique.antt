-- Each public contract leaves one outcome: the answer, and the lent bytes at exit. Assumes nothing.
use mathlib.Core.Path.{refl, sym, ap, ◌∙◌}
use Rattle.outcome.specs.One.{OneOutcome, from-facts}
use Rattle.bench_output.specs.Printing.{Printing}
use Rattle.bench_output.specs.contracts.printing.answer_text as answer-text
use Rattle.bench_output.specs.contracts.printing.hex_text as hex-text

pub answer_text-one : OneOutcome answer-text.ended (λ M 𝓤 𝓛. answer-text.clauses 𝓛) (λ M 𝓤 𝓛. answer-text.spec 𝓛)
answer_text-one = record {
  stated = λ M 𝓤 𝓛 mem run. refl;
  one = λ {𝓤 = 𝓤} 𝓛 mem run κs a g x y v w. from-facts 𝓤 (λ p q. (ap (λ (o : Printing). o.answer) (p ∙ sym q), λ i. (tt, (tt, (tt, (((p ∙ sym q) i).out, tt))))));
}

pub hex_text-one : OneOutcome hex-text.ended (λ M 𝓤 𝓛. hex-text.clauses 𝓛) (λ M 𝓤 𝓛. hex-text.spec 𝓛)
hex_text-one = record {
  stated = λ M 𝓤 𝓛 mem run. refl;
  one = λ {𝓤 = 𝓤} 𝓛 mem run κs a g x y v w. from-facts 𝓤 (λ p q. (ap (λ (o : Printing). o.answer) (p ∙ sym q), λ i. (tt, (((p ∙ sym q) i).out, tt))));
}
