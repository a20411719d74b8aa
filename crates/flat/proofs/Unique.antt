-- Each public contract of the C boundary leaves one outcome: what is returned, and the lent bytes at exit. Assumes nothing.
use mathlib.Core.Path.{refl, sym, ap, ◌∙◌}
use Rattle.outcome.specs.One.{OneOutcome, from-facts}
use Rattle.flat.specs.Telling.{Flattened, MainFlattened, HostFlattened, Putting}
use Rattle.flat.specs.TellingFragments.{Laying}
use Rattle.flat.specs.contracts.outcome_of as outcome-of
use Rattle.flat.specs.contracts.running_number as running-number
use Rattle.flat.specs.contracts.transport_step as transport-step
use Rattle.flat.specs.contracts.device_step as device-step
use Rattle.flat.specs.contracts.is_locked as is-locked
use Rattle.flat.specs.contracts.is_winking as is-winking
use Rattle.flat.specs.contracts.transport_new as transport-new
use Rattle.flat.specs.contracts.device_new as device-new
use Rattle.flat.specs.contracts.read_packet as read-packet
use Rattle.flat.specs.contracts.packet_count as packet-count
use Rattle.flat.specs.contracts.write_packet as write-packet
use Rattle.flat.specs.contracts.split_message as split-message
use Rattle.flat.specs.contracts.host_read as host-read
use Rattle.flat.specs.contracts.init_reply as init-reply
use Rattle.flat.specs.contracts.fragments.ble_fragment_count as ble-fragment-count
use Rattle.flat.specs.contracts.fragments.ble_write_fragment as ble-write-fragment
use Rattle.flat.specs.contracts.fragments.ble_read_fragment as ble-read-fragment
use Rattle.flat.specs.contracts.waiting.wait_begin as wait-begin
use Rattle.flat.specs.contracts.waiting.wait_elapsed as wait-elapsed
use Rattle.flat.specs.contracts.waiting.wait_step as wait-step

pub outcome_of-one : OneOutcome outcome-of.ended (λ M 𝓤 𝓛. outcome-of.clauses 𝓛) (λ M 𝓤 𝓛. outcome-of.spec 𝓛)
outcome_of-one = record {
  stated = λ M 𝓤 𝓛 mem run. refl;
  one = λ {𝓤 = 𝓤} 𝓛 mem run κs a g x y v w. from-facts 𝓤 (λ p q. (p ∙ sym q, refl));
}

pub running_number-one : OneOutcome running-number.ended (λ M 𝓤 𝓛. running-number.clauses 𝓛) (λ M 𝓤 𝓛. running-number.spec 𝓛)
running_number-one = record {
  stated = λ M 𝓤 𝓛 mem run. refl;
  one = λ {𝓤 = 𝓤} 𝓛 mem run κs a g x y v w. from-facts 𝓤 (λ p q. (p ∙ sym q, refl));
}

pub transport_step-one : OneOutcome transport-step.ended (λ M 𝓤 𝓛. transport-step.clauses 𝓛) (λ M 𝓤 𝓛. transport-step.spec 𝓛)
transport_step-one = record {
  stated = λ M 𝓤 𝓛 mem run. refl;
  one = λ {𝓤 = 𝓤} 𝓛 mem run κs a g x y v w. from-facts 𝓤 (λ p q. (ap (λ (o : Flattened). o.left) (p ∙ sym q), λ i. (tt, (tt, (tt, (tt, (((p ∙ sym q) i).message, (((p ∙ sym q) i).reply, tt))))))));
}

pub device_step-one : OneOutcome device-step.ended (λ M 𝓤 𝓛. device-step.clauses 𝓛) (λ M 𝓤 𝓛. device-step.spec 𝓛)
device_step-one = record {
  stated = λ M 𝓤 𝓛 mem run. refl;
  one = λ {𝓤 = 𝓤} 𝓛 mem run κs a g x y v w. from-facts 𝓤 (λ p q. (ap (λ (o : MainFlattened). o.left) (p ∙ sym q), λ i. (tt, (tt, (tt, (tt, (((p ∙ sym q) i).message, (((p ∙ sym q) i).reply, tt))))))));
}

pub is_locked-one : OneOutcome is-locked.ended (λ M 𝓤 𝓛. is-locked.clauses 𝓛) (λ M 𝓤 𝓛. is-locked.spec 𝓛)
is_locked-one = record {
  stated = λ M 𝓤 𝓛 mem run. refl;
  one = λ {𝓤 = 𝓤} 𝓛 mem run κs a g x y v w. from-facts 𝓤 (λ p q. (p ∙ sym q, refl));
}

pub is_winking-one : OneOutcome is-winking.ended (λ M 𝓤 𝓛. is-winking.clauses 𝓛) (λ M 𝓤 𝓛. is-winking.spec 𝓛)
is_winking-one = record {
  stated = λ M 𝓤 𝓛 mem run. refl;
  one = λ {𝓤 = 𝓤} 𝓛 mem run κs a g x y v w. from-facts 𝓤 (λ p q. (p ∙ sym q, refl));
}

pub transport_new-one : OneOutcome transport-new.ended (λ M 𝓤 𝓛. transport-new.clauses 𝓛) (λ M 𝓤 𝓛. transport-new.spec 𝓛)
transport_new-one = record {
  stated = λ M 𝓤 𝓛 mem run. refl;
  one = λ {𝓤 = 𝓤} 𝓛 mem run κs a g x y v w. from-facts 𝓤 (λ p q. (p ∙ sym q, refl));
}

pub device_new-one : OneOutcome device-new.ended (λ M 𝓤 𝓛. device-new.clauses 𝓛) (λ M 𝓤 𝓛. device-new.spec 𝓛)
device_new-one = record {
  stated = λ M 𝓤 𝓛 mem run. refl;
  one = λ {𝓤 = 𝓤} 𝓛 mem run κs a g x y v w. from-facts 𝓤 (λ p q. (p ∙ sym q, refl));
}

pub read_packet-one : OneOutcome read-packet.ended (λ M 𝓤 𝓛. read-packet.clauses 𝓛) (λ M 𝓤 𝓛. read-packet.spec 𝓛)
read_packet-one = record {
  stated = λ M 𝓤 𝓛 mem run. refl;
  one = λ {𝓤 = 𝓤} 𝓛 mem run κs a g x y v w. from-facts 𝓤 (λ p q. (p ∙ sym q, refl));
}

pub packet_count-one : OneOutcome packet-count.ended (λ M 𝓤 𝓛. packet-count.clauses 𝓛) (λ M 𝓤 𝓛. packet-count.spec 𝓛)
packet_count-one = record {
  stated = λ M 𝓤 𝓛 mem run. refl;
  one = λ {𝓤 = 𝓤} 𝓛 mem run κs a g x y v w. from-facts 𝓤 (λ p q. (p ∙ sym q, refl));
}

pub write_packet-one : OneOutcome write-packet.ended (λ M 𝓤 𝓛. write-packet.clauses 𝓛) (λ M 𝓤 𝓛. write-packet.spec 𝓛)
write_packet-one = record {
  stated = λ M 𝓤 𝓛 mem run. refl;
  one = λ {𝓤 = 𝓤} 𝓛 mem run κs a g x y v w. from-facts 𝓤 (λ p q. (ap (λ (o : Putting). o.number) (p ∙ sym q), λ i. (tt, (tt, (tt, (tt, (((p ∙ sym q) i).packet, tt)))))));
}

pub split_message-one : OneOutcome split-message.ended (λ M 𝓤 𝓛. split-message.clauses 𝓛) (λ M 𝓤 𝓛. split-message.spec 𝓛)
split_message-one = record {
  stated = λ M 𝓤 𝓛 mem run. refl;
  one = λ {𝓤 = 𝓤} 𝓛 mem run κs a g x y v w. from-facts 𝓤 (λ p q. (ap (λ (o : Putting). o.number) (p ∙ sym q), λ i. (tt, (tt, (tt, (tt, (tt, (((p ∙ sym q) i).packet, tt))))))));
}

pub host_read-one : OneOutcome host-read.ended (λ M 𝓤 𝓛. host-read.clauses 𝓛) (λ M 𝓤 𝓛. host-read.spec 𝓛)
host_read-one = record {
  stated = λ M 𝓤 𝓛 mem run. refl;
  one = λ {𝓤 = 𝓤} 𝓛 mem run κs a g x y v w. from-facts 𝓤 (λ p q. (ap (λ (o : HostFlattened). o.left) (p ∙ sym q), λ i. (tt, (tt, (tt, (((p ∙ sym q) i).buffer, tt))))));
}

pub init_reply-one : OneOutcome init-reply.ended (λ M 𝓤 𝓛. init-reply.clauses 𝓛) (λ M 𝓤 𝓛. init-reply.spec 𝓛)
init_reply-one = record {
  stated = λ M 𝓤 𝓛 mem run. refl;
  one = λ {𝓤 = 𝓤} 𝓛 mem run κs a g x y v w. from-facts 𝓤 (λ p q. (p ∙ sym q, refl));
}

pub wait_begin-one : OneOutcome wait-begin.ended (λ M 𝓤 𝓛. wait-begin.clauses 𝓛) (λ M 𝓤 𝓛. wait-begin.spec 𝓛)
wait_begin-one = record {
  stated = λ M 𝓤 𝓛 mem run. refl;
  one = λ {𝓤 = 𝓤} 𝓛 mem run κs a g x y v w. from-facts 𝓤 (λ p q. (p ∙ sym q, refl));
}

pub wait_elapsed-one : OneOutcome wait-elapsed.ended (λ M 𝓤 𝓛. wait-elapsed.clauses 𝓛) (λ M 𝓤 𝓛. wait-elapsed.spec 𝓛)
wait_elapsed-one = record {
  stated = λ M 𝓤 𝓛 mem run. refl;
  one = λ {𝓤 = 𝓤} 𝓛 mem run κs a g x y v w. from-facts 𝓤 (λ p q. (p ∙ sym q, refl));
}

pub wait_step-one : OneOutcome wait-step.ended (λ M 𝓤 𝓛. wait-step.clauses 𝓛) (λ M 𝓤 𝓛. wait-step.spec 𝓛)
wait_step-one = record {
  stated = λ M 𝓤 𝓛 mem run. refl;
  one = λ {𝓤 = 𝓤} 𝓛 mem run κs a g x y v w. from-facts 𝓤 (λ p q. (p ∙ sym q, refl));
}

pub ble_fragment_count-one : OneOutcome ble-fragment-count.ended (λ M 𝓤 𝓛. ble-fragment-count.clauses 𝓛) (λ M 𝓤 𝓛. ble-fragment-count.spec 𝓛)
ble_fragment_count-one = record {
  stated = λ M 𝓤 𝓛 mem run. refl;
  one = λ {𝓤 = 𝓤} 𝓛 mem run κs a g x y v w. from-facts 𝓤 (λ p q. (p ∙ sym q, refl));
}

pub ble_write_fragment-one : OneOutcome ble-write-fragment.ended (λ M 𝓤 𝓛. ble-write-fragment.clauses 𝓛) (λ M 𝓤 𝓛. ble-write-fragment.spec 𝓛)
ble_write_fragment-one = record {
  stated = λ M 𝓤 𝓛 mem run. refl;
  one = λ {𝓤 = 𝓤} 𝓛 mem run κs a g x y v w. from-facts 𝓤 (λ p q. (ap (λ (o : Laying). o.outcome) (p ∙ sym q), λ i. (tt, (tt, (tt, (tt, (((p ∙ sym q) i).buffer, tt)))))));
}

pub ble_read_fragment-one : OneOutcome ble-read-fragment.ended (λ M 𝓤 𝓛. ble-read-fragment.clauses 𝓛) (λ M 𝓤 𝓛. ble-read-fragment.spec 𝓛)
ble_read_fragment-one = record {
  stated = λ M 𝓤 𝓛 mem run. refl;
  one = λ {𝓤 = 𝓤} 𝓛 mem run κs a g x y v w. from-facts 𝓤 (λ p q. (ap (λ (o : HostFlattened). o.left) (p ∙ sym q), λ i. (tt, (tt, (tt, (((p ∙ sym q) i).buffer, tt))))));
}
