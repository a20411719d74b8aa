-- Each public contract of the wait leaves one outcome: the answer, and the wait at exit where it is lent. Assumes nothing.
use mathlib.Core.Path.{refl, sym, ap, ◌∙◌}
use Rattle.outcome.specs.One.{OneOutcome, from-facts}
use Rattle.touch.specs.declared.Responded.{Responded}
use Rattle.touch.specs.contracts.Wait.begin as begin
use Rattle.touch.specs.contracts.Wait.is_elapsed_at as is-elapsed-at
use Rattle.touch.specs.contracts.Wait.is_elapsed as is-elapsed
use Rattle.touch.specs.contracts.Wait.step as step
use Rattle.touch.specs.contracts.Wait.respond_busy as respond-busy

pub begin-one : OneOutcome begin.ended (λ M 𝓤 𝓛. begin.clauses 𝓛) (λ M 𝓤 𝓛. begin.spec 𝓛)
begin-one = record {
  stated = λ M 𝓤 𝓛 mem run. refl;
  one = λ {𝓤 = 𝓤} 𝓛 mem run κs a g x y v w. from-facts 𝓤 (λ p q. (p ∙ sym q, refl));
}

pub is_elapsed_at-one : OneOutcome is-elapsed-at.ended (λ M 𝓤 𝓛. is-elapsed-at.clauses 𝓛) (λ M 𝓤 𝓛. is-elapsed-at.spec 𝓛)
is_elapsed_at-one = record {
  stated = λ M 𝓤 𝓛 mem run. refl;
  one = λ {𝓤 = 𝓤} 𝓛 mem run κs a g x y v w. from-facts 𝓤 (λ p q. (p ∙ sym q, refl));
}

pub is_elapsed-one : OneOutcome is-elapsed.ended (λ M 𝓤 𝓛. is-elapsed.clauses 𝓛) (λ M 𝓤 𝓛. is-elapsed.spec 𝓛)
is_elapsed-one = record {
  stated = λ M 𝓤 𝓛 mem run. refl;
  one = λ {𝓤 = 𝓤} 𝓛 mem run κs a g x y v w. from-facts 𝓤 (λ p q. (p ∙ sym q, refl));
}

pub step-one : OneOutcome step.ended (λ M 𝓤 𝓛. step.clauses 𝓛) (λ M 𝓤 𝓛. step.spec 𝓛)
step-one = record {
  stated = λ M 𝓤 𝓛 mem run. refl;
  one = λ {𝓤 = 𝓤} 𝓛 mem run κs a g x y v w. from-facts 𝓤 (λ p q. (p ∙ sym q, refl));
}

pub respond_busy-one : OneOutcome respond-busy.ended (λ M 𝓤 𝓛. respond-busy.clauses 𝓛) (λ M 𝓤 𝓛. respond-busy.spec 𝓛)
respond_busy-one = record {
  stated = λ M 𝓤 𝓛 mem run. refl;
  one = λ {𝓤 = 𝓤} 𝓛 mem run κs a g x y v w. from-facts 𝓤 (λ p q. (ap (λ (o : Responded). o.response) (p ∙ sym q), λ i. (((p ∙ sym q) i).wait, (tt, (tt, (tt, (tt, tt)))))));
}
