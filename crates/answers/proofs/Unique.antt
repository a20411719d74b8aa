-- Each public contract leaves one outcome. Assumes nothing.
use mathlib.Core.Path.{refl, sym, ap, ◌∙◌}
use mathlib.Core.List.{List}
use Prim.Native.Nat.{ℕ}
use contract.Lifetimes.{Lfts}
use denote.Ref.{Bor}
use denote.Triple.Entry.{Args}
use denote.Triple.Clauses.{Lasts}
use Rattle.outcome.specs.One.{OneOutcome, OneOutcomeFrom, from-facts}
use Rattle.answers.specs.Replies.{Answering}
use Rattle.answers.specs.contracts.replies.error_message as error-message
use Rattle.answers.specs.contracts.payloads.payload as payload

pub error_message-one : OneOutcome error-message.ended (λ M 𝓤 𝓛. error-message.clauses 𝓛) (λ M 𝓤 𝓛. error-message.spec 𝓛)
error_message-one = record {
  stated = λ M 𝓤 𝓛 mem run. refl;
  one = λ {𝓤 = 𝓤} 𝓛 mem run κs a g x y v w. from-facts 𝓤 (λ p q. (ap (λ (o : Answering). o.answer) (p ∙ sym q), λ i. (tt, (tt, (((p ∙ sym q) i).reply, tt)))));
}

-- where the payload lies, and what it is
abbrev pub leaves : (κs : Lfts 1) (a : Args payload.signature κs) → Bor (List ℕ) → Lasts payload.ended κs a → List ℕ × (ℕ × ℕ)
leaves κs a r v = (r.now, r.ref_ptr)

pub payload-one : OneOutcomeFrom payload.ended (λ M 𝓤 𝓛. payload.clauses 𝓛) (λ M 𝓤 𝓛. payload.spec 𝓛) leaves
payload-one = record {
  stated = λ M 𝓤 𝓛 mem run. refl;
  one = λ {𝓤 = 𝓤} 𝓛 mem run κs a g x y v w. from-facts 𝓤 (λ p q. λ i. ((p.bytes ∙ sym q.bytes) i, (p.place ∙ sym q.place) i));
}
