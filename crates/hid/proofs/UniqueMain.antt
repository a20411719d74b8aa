-- Each public contract of the device leaves one outcome: the answer, and the state and both buffers at exit where they are lent. Assumes nothing.
use mathlib.Core.Path.{refl, sym, ap, ◌∙◌}
use Rattle.outcome.specs.One.{OneOutcome, from-facts}
use Rattle.hid.specs.MainHid.{MainStepping}
use Rattle.hid.specs.contracts.MainHid.new as new
use Rattle.hid.specs.contracts.MainHid.step as step
use Rattle.hid.specs.contracts.MainHid.is_winking_at as is-winking-at
use Rattle.hid.specs.contracts.MainHid.process_hid_packet as process-hid-packet
use Rattle.hid.specs.contracts.MainHid.should_wink as should-wink

pub new-one : OneOutcome new.ended (λ M 𝓤 𝓛. new.clauses 𝓛) (λ M 𝓤 𝓛. new.spec 𝓛)
new-one = record {
  stated = λ M 𝓤 𝓛 mem run. refl;
  one = λ {𝓤 = 𝓤} 𝓛 mem run κs a g x y v w. from-facts 𝓤 (λ p q. (p ∙ sym q, refl));
}

pub step-one : OneOutcome step.ended (λ M 𝓤 𝓛. step.clauses 𝓛) (λ M 𝓤 𝓛. step.spec 𝓛)
step-one = record {
  stated = λ M 𝓤 𝓛 mem run. refl;
  one = λ {𝓤 = 𝓤} 𝓛 mem run κs a g x y v w. from-facts 𝓤 (λ p q. (ap (λ (o : MainStepping). o.stepped) (p ∙ sym q), λ i. (tt, (tt, (tt, (tt, (((p ∙ sym q) i).message, (((p ∙ sym q) i).reply, tt))))))));
}

pub is_winking_at-one : OneOutcome is-winking-at.ended (λ M 𝓤 𝓛. is-winking-at.clauses 𝓛) (λ M 𝓤 𝓛. is-winking-at.spec 𝓛)
is_winking_at-one = record {
  stated = λ M 𝓤 𝓛 mem run. refl;
  one = λ {𝓤 = 𝓤} 𝓛 mem run κs a g x y v w. from-facts 𝓤 (λ p q. (p ∙ sym q, refl));
}

pub process_hid_packet-one : OneOutcome process-hid-packet.ended (λ M 𝓤 𝓛. process-hid-packet.clauses 𝓛) (λ M 𝓤 𝓛. process-hid-packet.spec 𝓛)
process_hid_packet-one = record {
  stated = λ M 𝓤 𝓛 mem run. refl;
  one = λ {𝓤 = 𝓤} 𝓛 mem run κs a g x y v w. from-facts 𝓤 (λ p q. (ap (λ (o : MainStepping). o.stepped.answer) (p ∙ sym q), λ i. (((p ∙ sym q) i).stepped.hid, (tt, (tt, (tt, (((p ∙ sym q) i).message, (((p ∙ sym q) i).reply, tt))))))));
}

pub should_wink-one : OneOutcome should-wink.ended (λ M 𝓤 𝓛. should-wink.clauses 𝓛) (λ M 𝓤 𝓛. should-wink.spec 𝓛)
should_wink-one = record {
  stated = λ M 𝓤 𝓛 mem run. refl;
  one = λ {𝓤 = 𝓤} 𝓛 mem run κs a g x y v w. from-facts 𝓤 (λ p q. (p ∙ sym q, refl));
}
