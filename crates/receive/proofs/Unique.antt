-- Each public contract leaves one outcome. Assumes nothing.
use mathlib.Core.Path.{refl, sym, ap, ◌∙◌}
use Rattle.outcome.specs.One.{OneOutcome, from-facts}
use Rattle.receive.specs.Assembler.{Assembling}
use Rattle.receive.specs.contracts.MessageAssembler.new as new
use Rattle.receive.specs.contracts.MessageAssembler.is_sound as is-sound
use Rattle.receive.specs.contracts.MessageAssembler.parse_packet as parse-packet

pub new-one : OneOutcome new.ended (λ M 𝓤 𝓛. new.clauses 𝓛) (λ M 𝓤 𝓛. new.spec 𝓛)
new-one = record {
  stated = λ M 𝓤 𝓛 mem run. refl;
  one = λ {𝓤 = 𝓤} 𝓛 mem run κs a g x y v w. from-facts 𝓤 (λ p q. (p ∙ sym q, refl));
}

pub is_sound-one : OneOutcome is-sound.ended (λ M 𝓤 𝓛. is-sound.clauses 𝓛) (λ M 𝓤 𝓛. is-sound.spec 𝓛)
is_sound-one = record {
  stated = λ M 𝓤 𝓛 mem run. refl;
  one = λ {𝓤 = 𝓤} 𝓛 mem run κs a g x y v w. from-facts 𝓤 (λ p q. (p ∙ sym q, refl));
}

pub parse_packet-one : OneOutcome parse-packet.ended (λ M 𝓤 𝓛. parse-packet.clauses 𝓛) (λ M 𝓤 𝓛. parse-packet.spec 𝓛)
parse_packet-one = record {
  stated = λ M 𝓤 𝓛 mem run. refl;
  one = λ {𝓤 = 𝓤} 𝓛 mem run κs a g x y v w. from-facts 𝓤 (λ p q. (ap (λ (o : Assembling). o.assembled) (p ∙ sym q), λ i. (tt, (tt, (tt, (tt, (tt, (tt, (((p ∙ sym q) i).message, tt)))))))));
}
