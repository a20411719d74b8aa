-- Each public contract of the transport leaves one outcome: the answer, and the state and both buffers at exit where they are lent. Assumes nothing.
use mathlib.Core.Path.{refl, sym, ap, ◌∙◌}
use Rattle.outcome.specs.One.{OneOutcome, from-facts}
use Rattle.hid.specs.Hearing.{Stepping}
use Rattle.hid.specs.contracts.soundness.is_sound as is-sound
use Rattle.hid.specs.contracts.questions.running_soundly as running-soundly
use Rattle.hid.specs.contracts.CtapHid.new as new
use Rattle.hid.specs.contracts.CtapHid.step as step
use Rattle.hid.specs.contracts.CtapHid.is_locked_at as is-locked-at
use Rattle.hid.specs.contracts.CtapHid.parse_packet as parse-packet
use Rattle.hid.specs.contracts.CtapHid.has_channel_lock as has-channel-lock

pub new-one : OneOutcome new.ended (λ M 𝓤 𝓛. new.clauses 𝓛) (λ M 𝓤 𝓛. new.spec 𝓛)
new-one = record {
  stated = λ M 𝓤 𝓛 mem run. refl;
  one = λ {𝓤 = 𝓤} 𝓛 mem run κs a g x y v w. from-facts 𝓤 (λ p q. (p ∙ sym q, refl));
}

pub step-one : OneOutcome step.ended (λ M 𝓤 𝓛. step.clauses 𝓛) (λ M 𝓤 𝓛. step.spec 𝓛)
step-one = record {
  stated = λ M 𝓤 𝓛 mem run. refl;
  one = λ {𝓤 = 𝓤} 𝓛 mem run κs a g x y v w. from-facts 𝓤 (λ p q. (ap (λ (o : Stepping). o.stepped) (p ∙ sym q), λ i. (tt, (tt, (tt, (tt, (((p ∙ sym q) i).message, (((p ∙ sym q) i).reply, tt))))))));
}

pub is_locked_at-one : OneOutcome is-locked-at.ended (λ M 𝓤 𝓛. is-locked-at.clauses 𝓛) (λ M 𝓤 𝓛. is-locked-at.spec 𝓛)
is_locked_at-one = record {
  stated = λ M 𝓤 𝓛 mem run. refl;
  one = λ {𝓤 = 𝓤} 𝓛 mem run κs a g x y v w. from-facts 𝓤 (λ p q. (p ∙ sym q, refl));
}

pub parse_packet-one : OneOutcome parse-packet.ended (λ M 𝓤 𝓛. parse-packet.clauses 𝓛) (λ M 𝓤 𝓛. parse-packet.spec 𝓛)
parse_packet-one = record {
  stated = λ M 𝓤 𝓛 mem run. refl;
  one = λ {𝓤 = 𝓤} 𝓛 mem run κs a g x y v w. from-facts 𝓤 (λ p q. (ap (λ (o : Stepping). o.stepped.answer) (p ∙ sym q), λ i. (((p ∙ sym q) i).stepped.hid, (tt, (tt, (tt, (((p ∙ sym q) i).message, (((p ∙ sym q) i).reply, tt))))))));
}

pub has_channel_lock-one : OneOutcome has-channel-lock.ended (λ M 𝓤 𝓛. has-channel-lock.clauses 𝓛) (λ M 𝓤 𝓛. has-channel-lock.spec 𝓛)
has_channel_lock-one = record {
  stated = λ M 𝓤 𝓛 mem run. refl;
  one = λ {𝓤 = 𝓤} 𝓛 mem run κs a g x y v w. from-facts 𝓤 (λ p q. (p ∙ sym q, refl));
}

pub is_sound-one : OneOutcome is-sound.ended (λ M 𝓤 𝓛. is-sound.clauses 𝓛) (λ M 𝓤 𝓛. is-sound.spec 𝓛)
is_sound-one = record {
  stated = λ M 𝓤 𝓛 mem run. refl;
  one = λ {𝓤 = 𝓤} 𝓛 mem run κs a g x y v w. from-facts 𝓤 (λ p q. (p ∙ sym q, refl));
}

pub running_soundly-one : OneOutcome running-soundly.ended (λ M 𝓤 𝓛. running-soundly.clauses 𝓛) (λ M 𝓤 𝓛. running-soundly.spec 𝓛)
running_soundly-one = record {
  stated = λ M 𝓤 𝓛 mem run. refl;
  one = λ {𝓤 = 𝓤} 𝓛 mem run κs a g x y v w. from-facts 𝓤 (λ p q. (p ∙ sym q, refl));
}
