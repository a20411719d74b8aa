-- Each public contract leaves one outcome. Assumes nothing.
use mathlib.Core.Path.{refl, sym, ◌∙◌}
use mathlib.Core.List.{List}
use Prim.Native.Nat.{ℕ}
use contract.Lifetimes.{Lfts}
use denote.Ref.{Bor}
use denote.Triple.Entry.{Args}
use denote.Triple.Clauses.{Lasts}
use Rattle.outcome.specs.One.{OneOutcome, OneOutcomeFrom, from-facts}
use Rattle.packet.proofs.Numbers.{meant-one}
use Rattle.packet.proofs.Packets.{said-one}
use Rattle.packet.specs.contracts.process_single_packet as process
use Rattle.packet.specs.contracts.packet_data as part
use Rattle.packet.specs.contracts.be32 as be32
use Rattle.packet.specs.contracts.be16 as be16
use Rattle.packet.specs.contracts.ProcessedPacket.channel as channel
use Rattle.packet.specs.contracts.command.CtapHidCommand.from_u8 as from-u8
use Rattle.packet.specs.contracts.command.CtapHidCommand.is_vendor as is-vendor
use Rattle.packet.specs.contracts.command.CtapHidCommand.number as number
use Rattle.packet.specs.contracts.error.CtapHidError.code as code
use Rattle.packet.specs.contracts.capability.Capability.bit as bit
use Rattle.packet.specs.contracts.capability.Capability.reported as reported
use Rattle.packet.specs.contracts.refusal.Refusal.number as refusal-number
use Rattle.packet.specs.contracts.limits.Limits.packet_size as packet-size
use Rattle.packet.specs.contracts.limits.Limits.largest_payload as largest-payload
use Rattle.packet.specs.contracts.limits.Limits.short_reply_size as short-reply-size
use Rattle.packet.specs.contracts.limits.Limits.timeout_ms as timeout-ms
use Rattle.packet.specs.contracts.limits.Limits.wink_timeout_ms as wink-timeout-ms
use Rattle.packet.specs.contracts.limits.Limits.last_time_ms as last-time-ms

pub process_single_packet-one : OneOutcome process.ended (λ M 𝓤 𝓛. process.clauses 𝓛) (λ M 𝓤 𝓛. process.spec 𝓛)
process_single_packet-one = record {
  stated = λ M 𝓤 𝓛 mem run. refl;
  one = λ {𝓤 = 𝓤} 𝓛 mem run κs a g x y v w. from-facts 𝓤 (λ p q. (said-one _ x y (p ∙ sym q), refl));
}

pub channel-one : OneOutcome channel.ended (λ M 𝓤 𝓛. channel.clauses 𝓛) (λ M 𝓤 𝓛. channel.spec 𝓛)
channel-one = record {
  stated = λ M 𝓤 𝓛 mem run. refl;
  one = λ {𝓤 = 𝓤} 𝓛 mem run κs a g x y v w. from-facts 𝓤 (λ p q. (p ∙ sym q, refl));
}

pub be32-one : OneOutcome be32.ended (λ M 𝓤 𝓛. be32.clauses 𝓛) (λ M 𝓤 𝓛. be32.spec 𝓛)
be32-one = record {
  stated = λ M 𝓤 𝓛 mem run. refl;
  one = λ {𝓤 = 𝓤} 𝓛 mem run κs a g x y v w. from-facts 𝓤 (λ p q. (p ∙ sym q, refl));
}

pub be16-one : OneOutcome be16.ended (λ M 𝓤 𝓛. be16.clauses 𝓛) (λ M 𝓤 𝓛. be16.spec 𝓛)
be16-one = record {
  stated = λ M 𝓤 𝓛 mem run. refl;
  one = λ {𝓤 = 𝓤} 𝓛 mem run κs a g x y v w. from-facts 𝓤 (λ p q. (p ∙ sym q, refl));
}

pub is_vendor-one : OneOutcome is-vendor.ended (λ M 𝓤 𝓛. is-vendor.clauses 𝓛) (λ M 𝓤 𝓛. is-vendor.spec 𝓛)
is_vendor-one = record {
  stated = λ M 𝓤 𝓛 mem run. refl;
  one = λ {𝓤 = 𝓤} 𝓛 mem run κs a g x y v w. from-facts 𝓤 (λ p q. (p ∙ sym q, refl));
}

pub from_u8-one : OneOutcome from-u8.ended (λ M 𝓤 𝓛. from-u8.clauses 𝓛) (λ M 𝓤 𝓛. from-u8.spec 𝓛)
from_u8-one = record {
  stated = λ M 𝓤 𝓛 mem run. refl;
  one = λ {𝓤 = 𝓤} 𝓛 mem run κs a g x y v w. from-facts 𝓤 (λ p q. (meant-one x y (p ∙ sym q), refl));
}

-- where the data lies, and what it is
abbrev pub leaves : (κs : Lfts 1) (a : Args part.signature κs) → Bor (List ℕ) → Lasts part.ended κs a → List ℕ × (ℕ × ℕ)
leaves κs a r v = (r.now, r.ref_ptr)

pub packet_data-one : OneOutcomeFrom part.ended (λ M 𝓤 𝓛. part.clauses 𝓛) (λ M 𝓤 𝓛. part.spec 𝓛) leaves
packet_data-one = record {
  stated = λ M 𝓤 𝓛 mem run. refl;
  one = λ {𝓤 = 𝓤} 𝓛 mem run κs a g x y v w. from-facts 𝓤 (λ p q. λ i. ((p.bytes ∙ sym q.bytes) i, (p.place ∙ sym q.place) i));
}

-- ---- numbers
pub number-one : OneOutcome number.ended (λ M 𝓤 𝓛. number.clauses 𝓛) (λ M 𝓤 𝓛. number.spec 𝓛)
number-one = record {
  stated = λ M 𝓤 𝓛 mem run. refl;
  one = λ {𝓤 = 𝓤} 𝓛 mem run κs a g x y v w. from-facts 𝓤 (λ p q. (p ∙ sym q, refl));
}

pub code-one : OneOutcome code.ended (λ M 𝓤 𝓛. code.clauses 𝓛) (λ M 𝓤 𝓛. code.spec 𝓛)
code-one = record {
  stated = λ M 𝓤 𝓛 mem run. refl;
  one = λ {𝓤 = 𝓤} 𝓛 mem run κs a g x y v w. from-facts 𝓤 (λ p q. (p ∙ sym q, refl));
}

pub bit-one : OneOutcome bit.ended (λ M 𝓤 𝓛. bit.clauses 𝓛) (λ M 𝓤 𝓛. bit.spec 𝓛)
bit-one = record {
  stated = λ M 𝓤 𝓛 mem run. refl;
  one = λ {𝓤 = 𝓤} 𝓛 mem run κs a g x y v w. from-facts 𝓤 (λ p q. (p ∙ sym q, refl));
}

pub reported-one : OneOutcome reported.ended (λ M 𝓤 𝓛. reported.clauses 𝓛) (λ M 𝓤 𝓛. reported.spec 𝓛)
reported-one = record {
  stated = λ M 𝓤 𝓛 mem run. refl;
  one = λ {𝓤 = 𝓤} 𝓛 mem run κs a g x y v w. from-facts 𝓤 (λ p q. (p ∙ sym q, refl));
}

pub refusal_number-one : OneOutcome refusal-number.ended (λ M 𝓤 𝓛. refusal-number.clauses 𝓛) (λ M 𝓤 𝓛. refusal-number.spec 𝓛)
refusal_number-one = record {
  stated = λ M 𝓤 𝓛 mem run. refl;
  one = λ {𝓤 = 𝓤} 𝓛 mem run κs a g x y v w. from-facts 𝓤 (λ p q. (p ∙ sym q, refl));
}

pub packet_size-one : OneOutcome packet-size.ended (λ M 𝓤 𝓛. packet-size.clauses 𝓛) (λ M 𝓤 𝓛. packet-size.spec 𝓛)
packet_size-one = record {
  stated = λ M 𝓤 𝓛 mem run. refl;
  one = λ {𝓤 = 𝓤} 𝓛 mem run κs a g x y v w. from-facts 𝓤 (λ p q. (p ∙ sym q, refl));
}

pub largest_payload-one : OneOutcome largest-payload.ended (λ M 𝓤 𝓛. largest-payload.clauses 𝓛) (λ M 𝓤 𝓛. largest-payload.spec 𝓛)
largest_payload-one = record {
  stated = λ M 𝓤 𝓛 mem run. refl;
  one = λ {𝓤 = 𝓤} 𝓛 mem run κs a g x y v w. from-facts 𝓤 (λ p q. (p ∙ sym q, refl));
}

pub short_reply_size-one : OneOutcome short-reply-size.ended (λ M 𝓤 𝓛. short-reply-size.clauses 𝓛) (λ M 𝓤 𝓛. short-reply-size.spec 𝓛)
short_reply_size-one = record {
  stated = λ M 𝓤 𝓛 mem run. refl;
  one = λ {𝓤 = 𝓤} 𝓛 mem run κs a g x y v w. from-facts 𝓤 (λ p q. (p ∙ sym q, refl));
}

pub timeout_ms-one : OneOutcome timeout-ms.ended (λ M 𝓤 𝓛. timeout-ms.clauses 𝓛) (λ M 𝓤 𝓛. timeout-ms.spec 𝓛)
timeout_ms-one = record {
  stated = λ M 𝓤 𝓛 mem run. refl;
  one = λ {𝓤 = 𝓤} 𝓛 mem run κs a g x y v w. from-facts 𝓤 (λ p q. (p ∙ sym q, refl));
}

pub wink_timeout_ms-one : OneOutcome wink-timeout-ms.ended (λ M 𝓤 𝓛. wink-timeout-ms.clauses 𝓛) (λ M 𝓤 𝓛. wink-timeout-ms.spec 𝓛)
wink_timeout_ms-one = record {
  stated = λ M 𝓤 𝓛 mem run. refl;
  one = λ {𝓤 = 𝓤} 𝓛 mem run κs a g x y v w. from-facts 𝓤 (λ p q. (p ∙ sym q, refl));
}

pub last_time_ms-one : OneOutcome last-time-ms.ended (λ M 𝓤 𝓛. last-time-ms.clauses 𝓛) (λ M 𝓤 𝓛. last-time-ms.spec 𝓛)
last_time_ms-one = record {
  stated = λ M 𝓤 𝓛 mem run. refl;
  one = λ {𝓤 = 𝓤} 𝓛 mem run κs a g x y v w. from-facts 𝓤 (λ p q. (p ∙ sym q, refl));
}
