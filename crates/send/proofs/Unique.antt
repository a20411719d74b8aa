-- Each public contract leaves one outcome: the answer, and the sender and the packet at exit where they are lent. Assumes nothing.
use mathlib.Core.Path.{refl, sym, ap, ◌∙◌}
use Rattle.outcome.specs.One.{OneOutcome, from-facts}
use Rattle.send.specs.Sending.{Left}
use Rattle.send.specs.contracts.packet_count as packet-count
use Rattle.send.specs.contracts.write_packet as write
use Rattle.send.specs.contracts.split_message as split
use Rattle.send.specs.contracts.sender.Sender.new as new
use Rattle.send.specs.contracts.sender.Sender.next as next
use Rattle.send.specs.contracts.sender.Sender.has_data as has-data

pub packet_count-one : OneOutcome packet-count.ended (λ M 𝓤 𝓛. packet-count.clauses 𝓛) (λ M 𝓤 𝓛. packet-count.spec 𝓛)
packet_count-one = record {
  stated = λ M 𝓤 𝓛 mem run. refl;
  one = λ {𝓤 = 𝓤} 𝓛 mem run κs a g x y v w. from-facts 𝓤 (λ p q. (p ∙ sym q, refl));
}

pub write_packet-one : OneOutcome write.ended (λ M 𝓤 𝓛. write.clauses 𝓛) (λ M 𝓤 𝓛. write.spec 𝓛)
write_packet-one = record {
  stated = λ M 𝓤 𝓛 mem run. refl;
  one = λ {𝓤 = 𝓤} 𝓛 mem run κs a g x y v w. from-facts 𝓤 (λ p q. (ap (λ (o : Left). o.answer) (p ∙ sym q), λ i. (tt, (tt, (tt, (tt, (((p ∙ sym q) i).packet, tt)))))));
}

pub split_message-one : OneOutcome split.ended (λ M 𝓤 𝓛. split.clauses 𝓛) (λ M 𝓤 𝓛. split.spec 𝓛)
split_message-one = record {
  stated = λ M 𝓤 𝓛 mem run. refl;
  one = λ {𝓤 = 𝓤} 𝓛 mem run κs a g x y v w. from-facts 𝓤 (λ p q. (ap (λ (o : Left). o.answer) (p ∙ sym q), λ i. (tt, (tt, (tt, (tt, (tt, (((p ∙ sym q) i).packet, tt))))))));
}

pub new-one : OneOutcome new.ended (λ M 𝓤 𝓛. new.clauses 𝓛) (λ M 𝓤 𝓛. new.spec 𝓛)
new-one = record {
  stated = λ M 𝓤 𝓛 mem run. refl;
  one = λ {𝓤 = 𝓤} 𝓛 mem run κs a g x y v w. from-facts 𝓤 (λ p q. (p ∙ sym q, refl));
}

pub next-one : OneOutcome next.ended (λ M 𝓤 𝓛. next.clauses 𝓛) (λ M 𝓤 𝓛. next.spec 𝓛)
next-one = record {
  stated = λ M 𝓤 𝓛 mem run. refl;
  one = λ {𝓤 = 𝓤} 𝓛 mem run κs a g x y v w. from-facts 𝓤 (λ p q. (p.answers ∙ sym q.answers, λ i. ((p.moves ∙ sym q.moves) i, ((p.writes ∙ sym q.writes) i, tt))));
}

pub has_data-one : OneOutcome has-data.ended (λ M 𝓤 𝓛. has-data.clauses 𝓛) (λ M 𝓤 𝓛. has-data.spec 𝓛)
has_data-one = record {
  stated = λ M 𝓤 𝓛 mem run. refl;
  one = λ {𝓤 = 𝓤} 𝓛 mem run κs a g x y v w. from-facts 𝓤 (λ p q. (p ∙ sym q, refl));
}
