-- The public contract leaves one outcome: the answer, and the lent bytes at exit. Assumes nothing.
use mathlib.Core.Path.{refl, sym, ap, ◌∙◌}
use Rattle.outcome.specs.One.{OneOutcome, from-facts}
use Rattle.bench_lines.specs.Answering.{Benched}
use Rattle.bench_lines.specs.contracts.answering.bench_line as bench-line

pub bench_line-one : OneOutcome bench-line.ended (λ M 𝓤 𝓛. bench-line.clauses 𝓛) (λ M 𝓤 𝓛. bench-line.spec 𝓛)
bench_line-one = record {
  stated = λ M 𝓤 𝓛 mem run. refl;
  one = λ {𝓤 = 𝓤} 𝓛 mem run κs a g x y v w. from-facts 𝓤 (λ p q. (ap (λ (o : Benched). o.printed) (p ∙ sym q), λ i. (tt, (tt, (((p ∙ sym q) i).message, (((p ∙ sym q) i).reply, (((p ∙ sym q) i).out, tt)))))));
}
