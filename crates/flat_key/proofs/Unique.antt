-- Each public contract of the key's C boundary leaves one outcome: what is returned, and the lent bytes at exit. Assumes nothing.
use mathlib.Core.Path.{refl, sym, ap, ◌∙◌}
use Rattle.outcome.specs.One.{OneOutcome, from-facts}
use Rattle.flat.specs.Telling.{Flattened, MainFlattened}
use Rattle.flat_key.specs.contracts.key_new as key-new
use Rattle.flat_key.specs.contracts.key_main_step as key-main-step
use Rattle.flat_key.specs.contracts.key_vendor_step as key-vendor-step
use Rattle.flat_key.specs.contracts.key_main_is_locked as key-main-is-locked
use Rattle.flat_key.specs.contracts.key_vendor_is_locked as key-vendor-is-locked
use Rattle.flat_key.specs.contracts.key_is_winking as key-is-winking

pub key_new-one : OneOutcome key-new.ended (λ M 𝓤 𝓛. key-new.clauses 𝓛) (λ M 𝓤 𝓛. key-new.spec 𝓛)
key_new-one = record {
  stated = λ M 𝓤 𝓛 mem run. refl;
  one = λ {𝓤 = 𝓤} 𝓛 mem run κs a g x y v w. from-facts 𝓤 (λ p q. (p ∙ sym q, refl));
}

pub key_main_step-one : OneOutcome key-main-step.ended (λ M 𝓤 𝓛. key-main-step.clauses 𝓛) (λ M 𝓤 𝓛. key-main-step.spec 𝓛)
key_main_step-one = record {
  stated = λ M 𝓤 𝓛 mem run. refl;
  one = λ {𝓤 = 𝓤} 𝓛 mem run κs a g x y v w. from-facts 𝓤 (λ p q. (ap (λ (o : MainFlattened). o.left) (p ∙ sym q), λ i. (tt, (tt, (tt, (((p ∙ sym q) i).message, (((p ∙ sym q) i).reply, tt)))))));
}

pub key_vendor_step-one : OneOutcome key-vendor-step.ended (λ M 𝓤 𝓛. key-vendor-step.clauses 𝓛) (λ M 𝓤 𝓛. key-vendor-step.spec 𝓛)
key_vendor_step-one = record {
  stated = λ M 𝓤 𝓛 mem run. refl;
  one = λ {𝓤 = 𝓤} 𝓛 mem run κs a g x y v w. from-facts 𝓤 (λ p q. (ap (λ (o : Flattened). o.left) (p ∙ sym q), λ i. (tt, (tt, (tt, (((p ∙ sym q) i).message, (((p ∙ sym q) i).reply, tt)))))));
}

pub key_main_is_locked-one : OneOutcome key-main-is-locked.ended (λ M 𝓤 𝓛. key-main-is-locked.clauses 𝓛) (λ M 𝓤 𝓛. key-main-is-locked.spec 𝓛)
key_main_is_locked-one = record {
  stated = λ M 𝓤 𝓛 mem run. refl;
  one = λ {𝓤 = 𝓤} 𝓛 mem run κs a g x y v w. from-facts 𝓤 (λ p q. (p ∙ sym q, refl));
}

pub key_vendor_is_locked-one : OneOutcome key-vendor-is-locked.ended (λ M 𝓤 𝓛. key-vendor-is-locked.clauses 𝓛) (λ M 𝓤 𝓛. key-vendor-is-locked.spec 𝓛)
key_vendor_is_locked-one = record {
  stated = λ M 𝓤 𝓛 mem run. refl;
  one = λ {𝓤 = 𝓤} 𝓛 mem run κs a g x y v w. from-facts 𝓤 (λ p q. (p ∙ sym q, refl));
}

pub key_is_winking-one : OneOutcome key-is-winking.ended (λ M 𝓤 𝓛. key-is-winking.clauses 𝓛) (λ M 𝓤 𝓛. key-is-winking.spec 𝓛)
key_is_winking-one = record {
  stated = λ M 𝓤 𝓛 mem run. refl;
  one = λ {𝓤 = 𝓤} 𝓛 mem run κs a g x y v w. from-facts 𝓤 (λ p q. (p ∙ sym q, refl));
}
