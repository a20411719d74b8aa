-- Each public contract leaves one outcome: what is returned, and the short buffer at exit. Assumes nothing.
use mathlib.Core.Path.{refl, sym, ap, ◌∙◌}
use Rattle.outcome.specs.One.{OneOutcome, from-facts}
use Rattle.answers.specs.Replies.{Answering}
use Rattle.channels.specs.Allocating.{Allocating}
use Rattle.channels.specs.Locking.{Locking}
use Rattle.channels.specs.contracts.validity.is_allocated as is-allocated
use Rattle.channels.specs.contracts.validity.has_valid_channel as has-valid-channel
use Rattle.channels.specs.contracts.validity.is_shut as is-shut
use Rattle.channels.specs.contracts.validity.not_valid as not_valid
use Rattle.channels.specs.contracts.allocating.init as init
use Rattle.channels.specs.contracts.locking.lock as lock

pub is_allocated-one : OneOutcome is-allocated.ended (λ M 𝓤 𝓛. is-allocated.clauses 𝓛) (λ M 𝓤 𝓛. is-allocated.spec 𝓛)
is_allocated-one = record {
  stated = λ M 𝓤 𝓛 mem run. refl;
  one = λ {𝓤 = 𝓤} 𝓛 mem run κs a g x y v w. from-facts 𝓤 (λ p q. (p ∙ sym q, refl));
}

pub has_valid_channel-one : OneOutcome has-valid-channel.ended (λ M 𝓤 𝓛. has-valid-channel.clauses 𝓛) (λ M 𝓤 𝓛. has-valid-channel.spec 𝓛)
has_valid_channel-one = record {
  stated = λ M 𝓤 𝓛 mem run. refl;
  one = λ {𝓤 = 𝓤} 𝓛 mem run κs a g x y v w. from-facts 𝓤 (λ p q. (p ∙ sym q, refl));
}

pub is_shut-one : OneOutcome is-shut.ended (λ M 𝓤 𝓛. is-shut.clauses 𝓛) (λ M 𝓤 𝓛. is-shut.spec 𝓛)
is_shut-one = record {
  stated = λ M 𝓤 𝓛 mem run. refl;
  one = λ {𝓤 = 𝓤} 𝓛 mem run κs a g x y v w. from-facts 𝓤 (λ p q. (p ∙ sym q, refl));
}

pub not_valid-one : OneOutcome not_valid.ended (λ M 𝓤 𝓛. not_valid.clauses 𝓛) (λ M 𝓤 𝓛. not_valid.spec 𝓛)
not_valid-one = record {
  stated = λ M 𝓤 𝓛 mem run. refl;
  one = λ {𝓤 = 𝓤} 𝓛 mem run κs a g x y v w. from-facts 𝓤 (λ p q. (ap (λ (o : Answering). o.answer) (p ∙ sym q), λ i. (tt, (((p ∙ sym q) i).reply, tt))));
}

pub init-one : OneOutcome init.ended (λ M 𝓤 𝓛. init.clauses 𝓛) (λ M 𝓤 𝓛. init.spec 𝓛)
init-one = record {
  stated = λ M 𝓤 𝓛 mem run. refl;
  one = λ {𝓤 = 𝓤} 𝓛 mem run κs a g x y v w. from-facts 𝓤 (λ p q. (ap (λ (o : Allocating). o.allocated) (p ∙ sym q), λ i. (tt, (tt, (tt, (tt, (((p ∙ sym q) i).reply, tt)))))));
}

pub lock-one : OneOutcome lock.ended (λ M 𝓤 𝓛. lock.clauses 𝓛) (λ M 𝓤 𝓛. lock.spec 𝓛)
lock-one = record {
  stated = λ M 𝓤 𝓛 mem run. refl;
  one = λ {𝓤 = 𝓤} 𝓛 mem run κs a g x y v w. from-facts 𝓤 (λ p q. (ap (λ (o : Locking). o.locked) (p ∙ sym q), λ i. (tt, (tt, (tt, (tt, (tt, (((p ∙ sym q) i).reply, tt))))))));
}
