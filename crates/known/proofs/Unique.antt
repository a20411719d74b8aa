-- Each public contract leaves one outcome. Assumes nothing.
use mathlib.Core.Path.{refl, sym, ◌∙◌}
use Rattle.outcome.specs.One.{OneOutcome, from-facts}
use Rattle.known.specs.contracts.knows as knows
use Rattle.known.specs.contracts.vendor.read_list as read-list
use Rattle.known.specs.contracts.vendor.is_allowed as is-allowed

pub knows-one : OneOutcome knows.ended (λ M 𝓤 𝓛. knows.clauses 𝓛) (λ M 𝓤 𝓛. knows.spec 𝓛)
knows-one = record {
  stated = λ M 𝓤 𝓛 mem run. refl;
  one = λ {𝓤 = 𝓤} 𝓛 mem run κs a g x y v w. from-facts 𝓤 (λ p q. (p ∙ sym q, refl));
}

pub read_list-one : OneOutcome read-list.ended (λ M 𝓤 𝓛. read-list.clauses 𝓛) (λ M 𝓤 𝓛. read-list.spec 𝓛)
read_list-one = record {
  stated = λ M 𝓤 𝓛 mem run. refl;
  one = λ {𝓤 = 𝓤} 𝓛 mem run κs a g x y v w. from-facts 𝓤 (λ p q. (p ∙ sym q, refl));
}

pub is_allowed-one : OneOutcome is-allowed.ended (λ M 𝓤 𝓛. is-allowed.clauses 𝓛) (λ M 𝓤 𝓛. is-allowed.spec 𝓛)
is_allowed-one = record {
  stated = λ M 𝓤 𝓛 mem run. refl;
  one = λ {𝓤 = 𝓤} 𝓛 mem run κs a g x y v w. from-facts 𝓤 (λ p q. (p ∙ sym q, refl));
}
