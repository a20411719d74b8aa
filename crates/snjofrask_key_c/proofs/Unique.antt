-- Each entry's contract leaves one outcome: what it returns, and the key and the lent bytes at exit. Assumes nothing.
use mathlib.Core.Path.{refl, sym, ap, ◌∙◌}
use Rattle.outcome.specs.One.{OneOutcome, from-facts}
use Rattle.flat_key.specs.declared.MadeKey.{MadeKey}
use Rattle.flat_key.specs.Telling.{KeyFlattened}
use Rattle.snjofrask_key_c.specs.contracts.snjofrask_key_new as key-new
use Rattle.snjofrask_key_c.specs.contracts.snjofrask_key_main_step as key-main-step
use Rattle.snjofrask_key_c.specs.contracts.snjofrask_key_vendor_step as key-vendor-step
use Rattle.snjofrask_key_c.specs.contracts.snjofrask_key_main_is_locked as key-main-is-locked
use Rattle.snjofrask_key_c.specs.contracts.snjofrask_key_vendor_is_locked as key-vendor-is-locked
use Rattle.snjofrask_key_c.specs.contracts.snjofrask_key_is_winking as key-is-winking

pub snjofrask_key_new-one : OneOutcome key-new.ended (λ M 𝓤 𝓛. key-new.clauses 𝓛) (λ M 𝓤 𝓛. key-new.spec 𝓛)
snjofrask_key_new-one = record {
  stated = λ M 𝓤 𝓛 mem run. refl;
  one = λ {𝓤 = 𝓤} 𝓛 mem run κs a g x y v w. from-facts 𝓤 (λ p q. (ap (λ (o : MadeKey). o.refusal) (p ∙ sym q), λ i. (((p ∙ sym q) i).key, (tt, (tt, (tt, (tt, tt)))))));
}

pub snjofrask_key_main_step-one : OneOutcome key-main-step.ended (λ M 𝓤 𝓛. key-main-step.clauses 𝓛) (λ M 𝓤 𝓛. key-main-step.spec 𝓛)
snjofrask_key_main_step-one = record {
  stated = λ M 𝓤 𝓛 mem run. refl;
  one = λ {𝓤 = 𝓤} 𝓛 mem run κs a g x y v w. from-facts 𝓤 (λ p q. (ap (λ (o : KeyFlattened). o.outcome) (p ∙ sym q), λ i. (((p ∙ sym q) i).key, (tt, (tt, (((p ∙ sym q) i).message, (((p ∙ sym q) i).reply, tt)))))));
}

pub snjofrask_key_vendor_step-one : OneOutcome key-vendor-step.ended (λ M 𝓤 𝓛. key-vendor-step.clauses 𝓛) (λ M 𝓤 𝓛. key-vendor-step.spec 𝓛)
snjofrask_key_vendor_step-one = record {
  stated = λ M 𝓤 𝓛 mem run. refl;
  one = λ {𝓤 = 𝓤} 𝓛 mem run κs a g x y v w. from-facts 𝓤 (λ p q. (ap (λ (o : KeyFlattened). o.outcome) (p ∙ sym q), λ i. (((p ∙ sym q) i).key, (tt, (tt, (((p ∙ sym q) i).message, (((p ∙ sym q) i).reply, tt)))))));
}

pub snjofrask_key_main_is_locked-one : OneOutcome key-main-is-locked.ended (λ M 𝓤 𝓛. key-main-is-locked.clauses 𝓛) (λ M 𝓤 𝓛. key-main-is-locked.spec 𝓛)
snjofrask_key_main_is_locked-one = record {
  stated = λ M 𝓤 𝓛 mem run. refl;
  one = λ {𝓤 = 𝓤} 𝓛 mem run κs a g x y v w. from-facts 𝓤 (λ p q. (p ∙ sym q, refl));
}

pub snjofrask_key_vendor_is_locked-one : OneOutcome key-vendor-is-locked.ended (λ M 𝓤 𝓛. key-vendor-is-locked.clauses 𝓛) (λ M 𝓤 𝓛. key-vendor-is-locked.spec 𝓛)
snjofrask_key_vendor_is_locked-one = record {
  stated = λ M 𝓤 𝓛 mem run. refl;
  one = λ {𝓤 = 𝓤} 𝓛 mem run κs a g x y v w. from-facts 𝓤 (λ p q. (p ∙ sym q, refl));
}

pub snjofrask_key_is_winking-one : OneOutcome key-is-winking.ended (λ M 𝓤 𝓛. key-is-winking.clauses 𝓛) (λ M 𝓤 𝓛. key-is-winking.spec 𝓛)
snjofrask_key_is_winking-one = record {
  stated = λ M 𝓤 𝓛 mem run. refl;
  one = λ {𝓤 = 𝓤} 𝓛 mem run κs a g x y v w. from-facts 𝓤 (λ p q. (p ∙ sym q, refl));
}
