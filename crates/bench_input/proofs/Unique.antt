-- Each public contract leaves one outcome: the answer, and the lent bytes at exit. Assumes nothing.
use mathlib.Core.Path.{refl, sym, ap, ◌∙◌}
use Rattle.outcome.specs.One.{OneOutcome, from-facts}
use Rattle.bench_input.specs.Pieces.{Cutting}
use Rattle.bench_input.specs.Lines.{Read}
use Rattle.bench_input.specs.contracts.pieces.cut_line as cut-Line
use Rattle.bench_input.specs.contracts.lines.read_line as read-line

pub cut_line-one : OneOutcome cut-Line.ended (λ M 𝓤 𝓛. cut-Line.clauses 𝓛) (λ M 𝓤 𝓛. cut-Line.spec 𝓛)
cut_line-one = record {
  stated = λ M 𝓤 𝓛 mem run. refl;
  one = λ {𝓤 = 𝓤} 𝓛 mem run κs a g x y v w. from-facts 𝓤 (λ p q. (ap (λ (o : Cutting). o.answer) (p ∙ sym q), λ i. (((p ∙ sym q) i).line, (tt, (tt, (tt, tt))))));
}

pub read_line-one : OneOutcome read-line.ended (λ M 𝓤 𝓛. read-line.clauses 𝓛) (λ M 𝓤 𝓛. read-line.spec 𝓛)
read_line-one = record {
  stated = λ M 𝓤 𝓛 mem run. refl;
  one = λ {𝓤 = 𝓤} 𝓛 mem run κs a g x y v w. from-facts 𝓤 (λ p q. (ap (λ (o : Read). o.answer) (p ∙ sym q), λ i. (tt, (((p ∙ sym q) i).packet, tt))));
}
