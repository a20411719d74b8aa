-- Each entry's contract leaves one outcome: what it returns, and the state and the lent bytes at exit. Assumes nothing.
use mathlib.Core.Path.{refl, sym, ap, ◌∙◌}
use Rattle.outcome.specs.One.{OneOutcome, from-facts}
use Rattle.flat.specs.declared.waiting.MadeWait.{MadeWait}
use Rattle.flat.specs.declared.waiting.FlatWait.{FlatWait}
use Rattle.flat.specs.Telling.{Flattened, MainFlattened, HostFlattened, Putting}
use Rattle.flat.specs.TellingFragments.{Laying}
use Rattle.flat.specs.declared.MadeHid.{MadeHid}
use Rattle.flat.specs.declared.MadeMain.{MadeMain}
use Rattle.snjofrask_c.specs.contracts.snjofrask_transport_new as transport-new
use Rattle.snjofrask_c.specs.contracts.snjofrask_transport_step as transport-step
use Rattle.snjofrask_c.specs.contracts.snjofrask_is_locked as is-locked
use Rattle.snjofrask_c.specs.contracts.snjofrask_device_new as device-new
use Rattle.snjofrask_c.specs.contracts.snjofrask_device_step as device-step
use Rattle.snjofrask_c.specs.contracts.snjofrask_is_winking as is-winking
use Rattle.snjofrask_c.specs.contracts.snjofrask_wait_begin as wait-begin
use Rattle.snjofrask_c.specs.contracts.snjofrask_wait_elapsed as wait-elapsed
use Rattle.snjofrask_c.specs.contracts.snjofrask_wait_step as wait-step
use Rattle.snjofrask_c.specs.contracts.snjofrask_read_packet as read-packet
use Rattle.snjofrask_c.specs.contracts.snjofrask_packet_count as packet-count
use Rattle.snjofrask_c.specs.contracts.snjofrask_write_packet as write-packet
use Rattle.snjofrask_c.specs.contracts.snjofrask_split_message as split-message
use Rattle.snjofrask_c.specs.contracts.snjofrask_host_read as host-read
use Rattle.snjofrask_c.specs.contracts.snjofrask_init_reply as init-reply
use Rattle.snjofrask_c.specs.contracts.snjofrask_ble_fragment_count as ble-fragment-count
use Rattle.snjofrask_c.specs.contracts.snjofrask_ble_write_fragment as ble-write-fragment
use Rattle.snjofrask_c.specs.contracts.snjofrask_ble_read_fragment as ble-read-fragment

pub snjofrask_transport_new-one : OneOutcome transport-new.ended (λ M 𝓤 𝓛. transport-new.clauses 𝓛) (λ M 𝓤 𝓛. transport-new.spec 𝓛)
snjofrask_transport_new-one = record {
  stated = λ M 𝓤 𝓛 mem run. refl;
  one = λ {𝓤 = 𝓤} 𝓛 mem run κs a g x y v w. from-facts 𝓤 (λ p q. (ap (λ (o : MadeHid). o.refusal) (p ∙ sym q), λ i. (((p ∙ sym q) i).hid, (tt, (tt, (tt, tt))))));
}

pub snjofrask_transport_step-one : OneOutcome transport-step.ended (λ M 𝓤 𝓛. transport-step.clauses 𝓛) (λ M 𝓤 𝓛. transport-step.spec 𝓛)
snjofrask_transport_step-one = record {
  stated = λ M 𝓤 𝓛 mem run. refl;
  one = λ {𝓤 = 𝓤} 𝓛 mem run κs a g x y v w. from-facts 𝓤 (λ p q. (ap (λ (o : Flattened). o.left.outcome) (p ∙ sym q), λ i. (((p ∙ sym q) i).left.hid, (tt, (tt, (tt, (((p ∙ sym q) i).message, (((p ∙ sym q) i).reply, tt))))))));
}

pub snjofrask_is_locked-one : OneOutcome is-locked.ended (λ M 𝓤 𝓛. is-locked.clauses 𝓛) (λ M 𝓤 𝓛. is-locked.spec 𝓛)
snjofrask_is_locked-one = record {
  stated = λ M 𝓤 𝓛 mem run. refl;
  one = λ {𝓤 = 𝓤} 𝓛 mem run κs a g x y v w. from-facts 𝓤 (λ p q. (p ∙ sym q, refl));
}

pub snjofrask_device_new-one : OneOutcome device-new.ended (λ M 𝓤 𝓛. device-new.clauses 𝓛) (λ M 𝓤 𝓛. device-new.spec 𝓛)
snjofrask_device_new-one = record {
  stated = λ M 𝓤 𝓛 mem run. refl;
  one = λ {𝓤 = 𝓤} 𝓛 mem run κs a g x y v w. from-facts 𝓤 (λ p q. (ap (λ (o : MadeMain). o.refusal) (p ∙ sym q), λ i. (((p ∙ sym q) i).hid, (tt, (tt, (tt, tt))))));
}

pub snjofrask_device_step-one : OneOutcome device-step.ended (λ M 𝓤 𝓛. device-step.clauses 𝓛) (λ M 𝓤 𝓛. device-step.spec 𝓛)
snjofrask_device_step-one = record {
  stated = λ M 𝓤 𝓛 mem run. refl;
  one = λ {𝓤 = 𝓤} 𝓛 mem run κs a g x y v w. from-facts 𝓤 (λ p q. (ap (λ (o : MainFlattened). o.left.outcome) (p ∙ sym q), λ i. (((p ∙ sym q) i).left.hid, (tt, (tt, (tt, (((p ∙ sym q) i).message, (((p ∙ sym q) i).reply, tt))))))));
}

pub snjofrask_is_winking-one : OneOutcome is-winking.ended (λ M 𝓤 𝓛. is-winking.clauses 𝓛) (λ M 𝓤 𝓛. is-winking.spec 𝓛)
snjofrask_is_winking-one = record {
  stated = λ M 𝓤 𝓛 mem run. refl;
  one = λ {𝓤 = 𝓤} 𝓛 mem run κs a g x y v w. from-facts 𝓤 (λ p q. (p ∙ sym q, refl));
}

pub snjofrask_wait_begin-one : OneOutcome wait-begin.ended (λ M 𝓤 𝓛. wait-begin.clauses 𝓛) (λ M 𝓤 𝓛. wait-begin.spec 𝓛)
snjofrask_wait_begin-one = record {
  stated = λ M 𝓤 𝓛 mem run. refl;
  one = λ {𝓤 = 𝓤} 𝓛 mem run κs a g x y v w. from-facts 𝓤 (λ p q. (ap (λ (o : MadeWait). o.refusal) (p ∙ sym q), λ i. (((p ∙ sym q) i).wait, (tt, (tt, (tt, (tt, tt)))))));
}

pub snjofrask_wait_elapsed-one : OneOutcome wait-elapsed.ended (λ M 𝓤 𝓛. wait-elapsed.clauses 𝓛) (λ M 𝓤 𝓛. wait-elapsed.spec 𝓛)
snjofrask_wait_elapsed-one = record {
  stated = λ M 𝓤 𝓛 mem run. refl;
  one = λ {𝓤 = 𝓤} 𝓛 mem run κs a g x y v w. from-facts 𝓤 (λ p q. (p ∙ sym q, refl));
}

pub snjofrask_wait_step-one : OneOutcome wait-step.ended (λ M 𝓤 𝓛. wait-step.clauses 𝓛) (λ M 𝓤 𝓛. wait-step.spec 𝓛)
snjofrask_wait_step-one = record {
  stated = λ M 𝓤 𝓛 mem run. refl;
  one = λ {𝓤 = 𝓤} 𝓛 mem run κs a g x y v w. from-facts 𝓤 (λ p q. (ap (λ (o : FlatWait). o.outcome) (p ∙ sym q), λ i. (((p ∙ sym q) i).wait, (tt, (tt, (tt, (tt, (tt, (tt, tt)))))))));
}

pub snjofrask_read_packet-one : OneOutcome read-packet.ended (λ M 𝓤 𝓛. read-packet.clauses 𝓛) (λ M 𝓤 𝓛. read-packet.spec 𝓛)
snjofrask_read_packet-one = record {
  stated = λ M 𝓤 𝓛 mem run. refl;
  one = λ {𝓤 = 𝓤} 𝓛 mem run κs a g x y v w. from-facts 𝓤 (λ p q. (p ∙ sym q, refl));
}

pub snjofrask_packet_count-one : OneOutcome packet-count.ended (λ M 𝓤 𝓛. packet-count.clauses 𝓛) (λ M 𝓤 𝓛. packet-count.spec 𝓛)
snjofrask_packet_count-one = record {
  stated = λ M 𝓤 𝓛 mem run. refl;
  one = λ {𝓤 = 𝓤} 𝓛 mem run κs a g x y v w. from-facts 𝓤 (λ p q. (p ∙ sym q, refl));
}

pub snjofrask_write_packet-one : OneOutcome write-packet.ended (λ M 𝓤 𝓛. write-packet.clauses 𝓛) (λ M 𝓤 𝓛. write-packet.spec 𝓛)
snjofrask_write_packet-one = record {
  stated = λ M 𝓤 𝓛 mem run. refl;
  one = λ {𝓤 = 𝓤} 𝓛 mem run κs a g x y v w. from-facts 𝓤 (λ p q. (ap (λ (o : Putting). o.number) (p ∙ sym q), λ i. (tt, (tt, (tt, (tt, (((p ∙ sym q) i).packet, tt)))))));
}

pub snjofrask_split_message-one : OneOutcome split-message.ended (λ M 𝓤 𝓛. split-message.clauses 𝓛) (λ M 𝓤 𝓛. split-message.spec 𝓛)
snjofrask_split_message-one = record {
  stated = λ M 𝓤 𝓛 mem run. refl;
  one = λ {𝓤 = 𝓤} 𝓛 mem run κs a g x y v w. from-facts 𝓤 (λ p q. (ap (λ (o : Putting). o.number) (p ∙ sym q), λ i. (tt, (tt, (tt, (tt, (tt, (((p ∙ sym q) i).packet, tt))))))));
}

pub snjofrask_host_read-one : OneOutcome host-read.ended (λ M 𝓤 𝓛. host-read.clauses 𝓛) (λ M 𝓤 𝓛. host-read.spec 𝓛)
snjofrask_host_read-one = record {
  stated = λ M 𝓤 𝓛 mem run. refl;
  one = λ {𝓤 = 𝓤} 𝓛 mem run κs a g x y v w. from-facts 𝓤 (λ p q. (ap (λ (o : HostFlattened). o.left.outcome) (p ∙ sym q), λ i. (((p ∙ sym q) i).left.collection, (tt, (tt, (((p ∙ sym q) i).buffer, tt))))));
}

pub snjofrask_init_reply-one : OneOutcome init-reply.ended (λ M 𝓤 𝓛. init-reply.clauses 𝓛) (λ M 𝓤 𝓛. init-reply.spec 𝓛)
snjofrask_init_reply-one = record {
  stated = λ M 𝓤 𝓛 mem run. refl;
  one = λ {𝓤 = 𝓤} 𝓛 mem run κs a g x y v w. from-facts 𝓤 (λ p q. (p ∙ sym q, refl));
}

pub snjofrask_ble_fragment_count-one : OneOutcome ble-fragment-count.ended (λ M 𝓤 𝓛. ble-fragment-count.clauses 𝓛) (λ M 𝓤 𝓛. ble-fragment-count.spec 𝓛)
snjofrask_ble_fragment_count-one = record {
  stated = λ M 𝓤 𝓛 mem run. refl;
  one = λ {𝓤 = 𝓤} 𝓛 mem run κs a g x y v w. from-facts 𝓤 (λ p q. (p ∙ sym q, refl));
}

pub snjofrask_ble_write_fragment-one : OneOutcome ble-write-fragment.ended (λ M 𝓤 𝓛. ble-write-fragment.clauses 𝓛) (λ M 𝓤 𝓛. ble-write-fragment.spec 𝓛)
snjofrask_ble_write_fragment-one = record {
  stated = λ M 𝓤 𝓛 mem run. refl;
  one = λ {𝓤 = 𝓤} 𝓛 mem run κs a g x y v w. from-facts 𝓤 (λ p q. (ap (λ (o : Laying). o.outcome) (p ∙ sym q), λ i. (tt, (tt, (tt, (tt, (((p ∙ sym q) i).buffer, tt)))))));
}

pub snjofrask_ble_read_fragment-one : OneOutcome ble-read-fragment.ended (λ M 𝓤 𝓛. ble-read-fragment.clauses 𝓛) (λ M 𝓤 𝓛. ble-read-fragment.spec 𝓛)
snjofrask_ble_read_fragment-one = record {
  stated = λ M 𝓤 𝓛 mem run. refl;
  one = λ {𝓤 = 𝓤} 𝓛 mem run κs a g x y v w. from-facts 𝓤 (λ p q. (ap (λ (o : HostFlattened). o.left.outcome) (p ∙ sym q), λ i. (((p ∙ sym q) i).left.collection, (tt, (tt, (((p ∙ sym q) i).buffer, tt))))));
}
