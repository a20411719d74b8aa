-- Each public contract leaves one outcome: the answer, and the buffer at exit where one is lent. Assumes nothing.
use mathlib.Core.Path.{refl, sym, ap, ◌∙◌}
use Rattle.outcome.specs.One.{OneOutcome, from-facts}
use Rattle.collect.specs.Adding.{Adding}
use Rattle.collect.specs.contracts.add_data as add
use Rattle.collect.specs.contracts.stands as stands

pub add_data-one : OneOutcome add.ended (λ M 𝓤 𝓛. add.clauses 𝓛) (λ M 𝓤 𝓛. add.spec 𝓛)
add_data-one = record {
  stated = λ M 𝓤 𝓛 mem run. refl;
  one = λ {𝓤 = 𝓤} 𝓛 mem run κs a g x y v w. from-facts 𝓤 (λ p q. (ap (λ (o : Adding). o.answer) (p ∙ sym q), λ i. (((p ∙ sym q) i).message, (tt, (tt, (tt, tt))))));
}

pub stands-one : OneOutcome stands.ended (λ M 𝓤 𝓛. stands.clauses 𝓛) (λ M 𝓤 𝓛. stands.spec 𝓛)
stands-one = record {
  stated = λ M 𝓤 𝓛 mem run. refl;
  one = λ {𝓤 = 𝓤} 𝓛 mem run κs a g x y v w. from-facts 𝓤 (λ p q. (p ∙ sym q, refl));
}
