-- Each public contract of the key leaves one outcome: the answer, and the key and both buffers at exit where they are lent. Assumes nothing.
use mathlib.Core.Path.{refl, sym, ap, ◌∙◌}
use Rattle.outcome.specs.One.{OneOutcome, from-facts}
use Rattle.hid.specs.Hearing.{Stepping}
use Rattle.hid.specs.MainHid.{MainStepping}
use Rattle.key.specs.Stepping.{KeyStepping}
use Rattle.key.specs.contracts.Key.new as new
use Rattle.key.specs.contracts.Key.step_main as step-main
use Rattle.key.specs.contracts.Key.step_vendor as step-vendor
use Rattle.key.specs.contracts.Key.process_main_packet as process-main-packet
use Rattle.key.specs.contracts.Key.process_vendor_packet as process-vendor-packet
use Rattle.key.specs.contracts.Key.is_main_locked_at as is-main-locked-at
use Rattle.key.specs.contracts.Key.is_vendor_locked_at as is-vendor-locked-at
use Rattle.key.specs.contracts.Key.is_winking_at as is-winking-at
use Rattle.key.specs.contracts.Key.has_main_lock as has-main-lock
use Rattle.key.specs.contracts.Key.has_vendor_lock as has-vendor-lock
use Rattle.key.specs.contracts.Key.should_wink as should-wink

pub new-one : OneOutcome new.ended (λ M 𝓤 𝓛. new.clauses 𝓛) (λ M 𝓤 𝓛. new.spec 𝓛)
new-one = record {
  stated = λ M 𝓤 𝓛 mem run. refl;
  one = λ {𝓤 = 𝓤} 𝓛 mem run κs a g x y v w. from-facts 𝓤 (λ p q. (p ∙ sym q, refl));
}

pub step_main-one : OneOutcome step-main.ended (λ M 𝓤 𝓛. step-main.clauses 𝓛) (λ M 𝓤 𝓛. step-main.spec 𝓛)
step_main-one = record {
  stated = λ M 𝓤 𝓛 mem run. refl;
  one = λ {𝓤 = 𝓤} 𝓛 mem run κs a g x y v w. from-facts 𝓤 (λ p q. (ap (λ (o : MainStepping). o.stepped) (p ∙ sym q), λ i. (tt, (tt, (tt, (((p ∙ sym q) i).message, (((p ∙ sym q) i).reply, tt)))))));
}

pub step_vendor-one : OneOutcome step-vendor.ended (λ M 𝓤 𝓛. step-vendor.clauses 𝓛) (λ M 𝓤 𝓛. step-vendor.spec 𝓛)
step_vendor-one = record {
  stated = λ M 𝓤 𝓛 mem run. refl;
  one = λ {𝓤 = 𝓤} 𝓛 mem run κs a g x y v w. from-facts 𝓤 (λ p q. (ap (λ (o : Stepping). o.stepped) (p ∙ sym q), λ i. (tt, (tt, (tt, (((p ∙ sym q) i).message, (((p ∙ sym q) i).reply, tt)))))));
}

pub process_main_packet-one : OneOutcome process-main-packet.ended (λ M 𝓤 𝓛. process-main-packet.clauses 𝓛) (λ M 𝓤 𝓛. process-main-packet.spec 𝓛)
process_main_packet-one = record {
  stated = λ M 𝓤 𝓛 mem run. refl;
  one = λ {𝓤 = 𝓤} 𝓛 mem run κs a g x y v w. from-facts 𝓤 (λ p q. (ap (λ (o : KeyStepping). o.answer) (p ∙ sym q), λ i. (((p ∙ sym q) i).key, (tt, (tt, (((p ∙ sym q) i).message, (((p ∙ sym q) i).reply, tt)))))));
}

pub process_vendor_packet-one : OneOutcome process-vendor-packet.ended (λ M 𝓤 𝓛. process-vendor-packet.clauses 𝓛) (λ M 𝓤 𝓛. process-vendor-packet.spec 𝓛)
process_vendor_packet-one = record {
  stated = λ M 𝓤 𝓛 mem run. refl;
  one = λ {𝓤 = 𝓤} 𝓛 mem run κs a g x y v w. from-facts 𝓤 (λ p q. (ap (λ (o : KeyStepping). o.answer) (p ∙ sym q), λ i. (((p ∙ sym q) i).key, (tt, (tt, (((p ∙ sym q) i).message, (((p ∙ sym q) i).reply, tt)))))));
}

pub is_main_locked_at-one : OneOutcome is-main-locked-at.ended (λ M 𝓤 𝓛. is-main-locked-at.clauses 𝓛) (λ M 𝓤 𝓛. is-main-locked-at.spec 𝓛)
is_main_locked_at-one = record {
  stated = λ M 𝓤 𝓛 mem run. refl;
  one = λ {𝓤 = 𝓤} 𝓛 mem run κs a g x y v w. from-facts 𝓤 (λ p q. (p ∙ sym q, refl));
}

pub is_vendor_locked_at-one : OneOutcome is-vendor-locked-at.ended (λ M 𝓤 𝓛. is-vendor-locked-at.clauses 𝓛) (λ M 𝓤 𝓛. is-vendor-locked-at.spec 𝓛)
is_vendor_locked_at-one = record {
  stated = λ M 𝓤 𝓛 mem run. refl;
  one = λ {𝓤 = 𝓤} 𝓛 mem run κs a g x y v w. from-facts 𝓤 (λ p q. (p ∙ sym q, refl));
}

pub is_winking_at-one : OneOutcome is-winking-at.ended (λ M 𝓤 𝓛. is-winking-at.clauses 𝓛) (λ M 𝓤 𝓛. is-winking-at.spec 𝓛)
is_winking_at-one = record {
  stated = λ M 𝓤 𝓛 mem run. refl;
  one = λ {𝓤 = 𝓤} 𝓛 mem run κs a g x y v w. from-facts 𝓤 (λ p q. (p ∙ sym q, refl));
}

pub has_main_lock-one : OneOutcome has-main-lock.ended (λ M 𝓤 𝓛. has-main-lock.clauses 𝓛) (λ M 𝓤 𝓛. has-main-lock.spec 𝓛)
has_main_lock-one = record {
  stated = λ M 𝓤 𝓛 mem run. refl;
  one = λ {𝓤 = 𝓤} 𝓛 mem run κs a g x y v w. from-facts 𝓤 (λ p q. (p ∙ sym q, refl));
}

pub has_vendor_lock-one : OneOutcome has-vendor-lock.ended (λ M 𝓤 𝓛. has-vendor-lock.clauses 𝓛) (λ M 𝓤 𝓛. has-vendor-lock.spec 𝓛)
has_vendor_lock-one = record {
  stated = λ M 𝓤 𝓛 mem run. refl;
  one = λ {𝓤 = 𝓤} 𝓛 mem run κs a g x y v w. from-facts 𝓤 (λ p q. (p ∙ sym q, refl));
}

pub should_wink-one : OneOutcome should-wink.ended (λ M 𝓤 𝓛. should-wink.clauses 𝓛) (λ M 𝓤 𝓛. should-wink.spec 𝓛)
should_wink-one = record {
  stated = λ M 𝓤 𝓛 mem run. refl;
  one = λ {𝓤 = 𝓤} 𝓛 mem run κs a g x y v w. from-facts 𝓤 (λ p q. (p ∙ sym q, refl));
}
