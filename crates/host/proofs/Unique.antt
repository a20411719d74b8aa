-- Each public contract of the host leaves one outcome: the answer, or a part's bytes and place, and the collection and the buffer at exit where they are lent. Assumes nothing.
use Prim.Native.Nat.{ℕ}
use mathlib.Core.Path.{refl, sym, ap, ◌∙◌}
use mathlib.Core.List.{List}
use contract.Lifetimes.{Lfts}
use denote.Ref.{Bor}
use denote.Triple.Entry.{Args}
use denote.Triple.Clauses.{Lasts}
use Rattle.outcome.specs.One.{OneOutcome, OneOutcomeFrom, from-facts}
use Rattle.host.specs.Reading.{Reading}
use Rattle.host.specs.contracts.Collection.new as new
use Rattle.host.specs.contracts.Collection.read as read
use Rattle.host.specs.contracts.Collection.take_packet as take-packet
use Rattle.host.specs.contracts.init.init_reply as init-reply
use Rattle.host.specs.contracts.init.init_rest as init-rest

pub new-one : OneOutcome new.ended (λ M 𝓤 𝓛. new.clauses 𝓛) (λ M 𝓤 𝓛. new.spec 𝓛)
new-one = record {
  stated = λ M 𝓤 𝓛 mem run. refl;
  one = λ {𝓤 = 𝓤} 𝓛 mem run κs a g x y v w. from-facts 𝓤 (λ p q. (p ∙ sym q, refl));
}

pub read-one : OneOutcome read.ended (λ M 𝓤 𝓛. read.clauses 𝓛) (λ M 𝓤 𝓛. read.spec 𝓛)
read-one = record {
  stated = λ M 𝓤 𝓛 mem run. refl;
  one = λ {𝓤 = 𝓤} 𝓛 mem run κs a g x y v w. from-facts 𝓤 (λ p q. (ap (λ (o : Reading). o.progress) (p ∙ sym q), λ i. (tt, (tt, (tt, (((p ∙ sym q) i).buffer, tt))))));
}

pub take_packet-one : OneOutcome take-packet.ended (λ M 𝓤 𝓛. take-packet.clauses 𝓛) (λ M 𝓤 𝓛. take-packet.spec 𝓛)
take_packet-one = record {
  stated = λ M 𝓤 𝓛 mem run. refl;
  one = λ {𝓤 = 𝓤} 𝓛 mem run κs a g x y v w. from-facts 𝓤 (λ p q. (ap (λ (o : Reading). o.progress.answer) (p ∙ sym q), λ i. (((p ∙ sym q) i).progress.collection, (tt, (tt, (((p ∙ sym q) i).buffer, tt))))));
}

pub init_reply-one : OneOutcome init-reply.ended (λ M 𝓤 𝓛. init-reply.clauses 𝓛) (λ M 𝓤 𝓛. init-reply.spec 𝓛)
init_reply-one = record {
  stated = λ M 𝓤 𝓛 mem run. refl;
  one = λ {𝓤 = 𝓤} 𝓛 mem run κs a g x y v w. from-facts 𝓤 (λ p q. (p ∙ sym q, refl));
}

-- where the rest lies, and what it is
abbrev pub leaves : (κs : Lfts 1) (a : Args init-rest.signature κs) → Bor (List ℕ) → Lasts init-rest.ended κs a → List ℕ × (ℕ × ℕ)
leaves κs a r v = (r.now, r.ref_ptr)

pub init_rest-one : OneOutcomeFrom init-rest.ended (λ M 𝓤 𝓛. init-rest.clauses 𝓛) (λ M 𝓤 𝓛. init-rest.spec 𝓛) leaves
init_rest-one = record {
  stated = λ M 𝓤 𝓛 mem run. refl;
  one = λ {𝓤 = 𝓤} 𝓛 mem run κs a g x y v w. from-facts 𝓤 (λ p q. λ i. ((p.bytes ∙ sym q.bytes) i, (p.place ∙ sym q.place) i));
}
