-- Each public contract leaves one outcome: the answer, and the collection and the buffer at exit where they are lent. Assumes nothing.
use mathlib.Core.Path.{refl, sym, ap, ◌∙◌}
use Rattle.outcome.specs.One.{OneOutcome, from-facts}
use Rattle.ble.specs.Writing.{Left}
use Rattle.ble.specs.Reading.{Reading}
use Rattle.ble.specs.contracts.command.BleCommand.byte as byte
use Rattle.ble.specs.contracts.command.BleCommand.is_command as is-command
use Rattle.ble.specs.contracts.limits.BleLimits.smallest_fragment as smallest-fragment
use Rattle.ble.specs.contracts.limits.BleLimits.largest_fragment as largest-fragment
use Rattle.ble.specs.contracts.limits.BleLimits.largest_payload as largest-payload
use Rattle.ble.specs.contracts.limits.BleLimits.is_size as is-size
use Rattle.ble.specs.contracts.writing.fragment_count as fragment-count
use Rattle.ble.specs.contracts.writing.write_fragment as write-fragment
use Rattle.ble.specs.contracts.reading.read_fragment as read-fragment
use Rattle.ble.specs.contracts.reading.take_fragment as take-fragment

pub byte-one : OneOutcome byte.ended (λ M 𝓤 𝓛. byte.clauses 𝓛) (λ M 𝓤 𝓛. byte.spec 𝓛)
byte-one = record {
  stated = λ M 𝓤 𝓛 mem run. refl;
  one = λ {𝓤 = 𝓤} 𝓛 mem run κs a g x y v w. from-facts 𝓤 (λ p q. (p ∙ sym q, refl));
}

pub is_command-one : OneOutcome is-command.ended (λ M 𝓤 𝓛. is-command.clauses 𝓛) (λ M 𝓤 𝓛. is-command.spec 𝓛)
is_command-one = record {
  stated = λ M 𝓤 𝓛 mem run. refl;
  one = λ {𝓤 = 𝓤} 𝓛 mem run κs a g x y v w. from-facts 𝓤 (λ p q. (p ∙ sym q, refl));
}

pub smallest_fragment-one : OneOutcome smallest-fragment.ended (λ M 𝓤 𝓛. smallest-fragment.clauses 𝓛) (λ M 𝓤 𝓛. smallest-fragment.spec 𝓛)
smallest_fragment-one = record {
  stated = λ M 𝓤 𝓛 mem run. refl;
  one = λ {𝓤 = 𝓤} 𝓛 mem run κs a g x y v w. from-facts 𝓤 (λ p q. (p ∙ sym q, refl));
}

pub largest_fragment-one : OneOutcome largest-fragment.ended (λ M 𝓤 𝓛. largest-fragment.clauses 𝓛) (λ M 𝓤 𝓛. largest-fragment.spec 𝓛)
largest_fragment-one = record {
  stated = λ M 𝓤 𝓛 mem run. refl;
  one = λ {𝓤 = 𝓤} 𝓛 mem run κs a g x y v w. from-facts 𝓤 (λ p q. (p ∙ sym q, refl));
}

pub largest_payload-one : OneOutcome largest-payload.ended (λ M 𝓤 𝓛. largest-payload.clauses 𝓛) (λ M 𝓤 𝓛. largest-payload.spec 𝓛)
largest_payload-one = record {
  stated = λ M 𝓤 𝓛 mem run. refl;
  one = λ {𝓤 = 𝓤} 𝓛 mem run κs a g x y v w. from-facts 𝓤 (λ p q. (p ∙ sym q, refl));
}

pub is_size-one : OneOutcome is-size.ended (λ M 𝓤 𝓛. is-size.clauses 𝓛) (λ M 𝓤 𝓛. is-size.spec 𝓛)
is_size-one = record {
  stated = λ M 𝓤 𝓛 mem run. refl;
  one = λ {𝓤 = 𝓤} 𝓛 mem run κs a g x y v w. from-facts 𝓤 (λ p q. (p ∙ sym q, refl));
}

pub fragment_count-one : OneOutcome fragment-count.ended (λ M 𝓤 𝓛. fragment-count.clauses 𝓛) (λ M 𝓤 𝓛. fragment-count.spec 𝓛)
fragment_count-one = record {
  stated = λ M 𝓤 𝓛 mem run. refl;
  one = λ {𝓤 = 𝓤} 𝓛 mem run κs a g x y v w. from-facts 𝓤 (λ p q. (p ∙ sym q, refl));
}

pub write_fragment-one : OneOutcome write-fragment.ended (λ M 𝓤 𝓛. write-fragment.clauses 𝓛) (λ M 𝓤 𝓛. write-fragment.spec 𝓛)
write_fragment-one = record {
  stated = λ M 𝓤 𝓛 mem run. refl;
  one = λ {𝓤 = 𝓤} 𝓛 mem run κs a g x y v w. from-facts 𝓤 (λ p q. (ap (λ (o : Left). o.answer) (p ∙ sym q), λ i. (tt, (tt, (tt, (tt, (((p ∙ sym q) i).buffer, tt)))))));
}

pub read_fragment-one : OneOutcome read-fragment.ended (λ M 𝓤 𝓛. read-fragment.clauses 𝓛) (λ M 𝓤 𝓛. read-fragment.spec 𝓛)
read_fragment-one = record {
  stated = λ M 𝓤 𝓛 mem run. refl;
  one = λ {𝓤 = 𝓤} 𝓛 mem run κs a g x y v w. from-facts 𝓤 (λ p q. (λ i. record { collection = ((p ∙ sym q) i).collection; answer = ((p ∙ sym q) i).answer }, λ i. (tt, (tt, (tt, (((p ∙ sym q) i).buffer, tt))))));
}

pub take_fragment-one : OneOutcome take-fragment.ended (λ M 𝓤 𝓛. take-fragment.clauses 𝓛) (λ M 𝓤 𝓛. take-fragment.spec 𝓛)
take_fragment-one = record {
  stated = λ M 𝓤 𝓛 mem run. refl;
  one = λ {𝓤 = 𝓤} 𝓛 mem run κs a g x y v w. from-facts 𝓤 (λ p q. (ap (λ (o : Reading). o.answer) (p ∙ sym q), λ i. (((p ∙ sym q) i).collection, (tt, (tt, (((p ∙ sym q) i).buffer, tt))))));
}
