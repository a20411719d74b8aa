-- A contract leaves one outcome: where its `ensures` holds of two results, each beside last values of what was lent by `&mut`, the results are equal
-- and so are the last values. It is said of the terms that `rattle check` makes of the function in src/ (`clauses` and `spec` of the function's
-- module), at every model of the logic. It lists no outputs, so none can be forgotten. Assumes nothing.
use Rattle.std.specs.Prelude.{◌≡◌}
use Rattle.std.proofs.Common.{subst}
use seplogic.Ra.Ura.{Ura}
use base.Logic.{SProp, ent, sep, via, snd∗}
use prog.Memory.{Memory}
use prog.Routine.{Routine}
use types.Logic.{Logic, sem}
use contract.Lifetimes.{Lfts}
use contract.Monad.{Fun, fact, conj, conj_l, conj_r, conj_mono, ex-conj, conj-ex, fact_use, fact_mono, fact_i}
use denote.Triple.Entry.{Args, Res}
use denote.Triple.Spec.{Spec}
use denote.Triple.Clauses.{Ended, Clauses, Lasts, at_exit, lasts, closing}

-- the clauses of a function, and its contract, as its module has them: at every model
abbrev pub AllClauses : Ended → Type 2
AllClauses T = (M : Type 1) (𝓤 : Ura M) (𝓛 : Logic 𝓤) → (Memory → SProp 𝓤) → (Routine → Fun 𝓤) → Clauses 𝓤 T

abbrev pub AllSpec : Ended → Type 2
AllSpec T = (M : Type 1) (𝓤 : Ura M) (𝓛 : Logic 𝓤) → (Memory → SProp 𝓤) → (Routine → Fun 𝓤) → Spec 𝓤 T.signature

-- the clauses c are those of the contract s that the function's theorem is about
abbrev pub Stated : (T : Ended) → AllClauses T → AllSpec T → Type 2
Stated T c s =
    (M : Type 1) (𝓤 : Ura M) (𝓛 : Logic 𝓤) (mem : Memory → SProp 𝓤) (run : Routine → Fun 𝓤) → closing 𝓛 T (c M 𝓤 𝓛 mem run) ≡ s M 𝓤 𝓛 mem run

-- a : the arguments.   g : the contract's ghost value.   x, y : two results.   v, w : for each a last value of every `&mut` that is kept, and nothing
-- for the other parameters
pub record OneOutcome (T : Ended) (c : AllClauses T) (s : AllSpec T) : Type 2 where
  pub stated : Stated T c s
  pub one : {M : Type 1} {𝓤 : Ura M} (𝓛 : Logic 𝓤) (mem : Memory → SProp 𝓤) (run : Routine → Fun 𝓤) (κs : Lfts T.signature.lifetimes) (a : Args T.signature κs)
      (g : (c M 𝓤 𝓛 mem run κs a).ghost) (x y : Res T.signature κs) (v w : Lasts T κs a)
      → ent 𝓤 (conj 𝓤 ((c M 𝓤 𝓛 mem run κs a).ensures g x (at_exit T κs a v)) ((c M 𝓤 𝓛 mem run κs a).ensures g y (at_exit T κs a w))) (fact 𝓤 ((x ≡ y) × (v ≡ w)))

-- the same for a result that is a part of a lent slice, whose ghost name is no part of what runs and which no contract fixes: `output` is what of it counts
pub record OneOutcomeFrom (T : Ended) (c : AllClauses T) (s : AllSpec T) {Y : Type 0}
    (output : (κs : Lfts T.signature.lifetimes) (a : Args T.signature κs) → Res T.signature κs → Lasts T κs a → Y) : Type 2 where
  pub stated : Stated T c s
  pub one : {M : Type 1} {𝓤 : Ura M} (𝓛 : Logic 𝓤) (mem : Memory → SProp 𝓤) (run : Routine → Fun 𝓤) (κs : Lfts T.signature.lifetimes) (a : Args T.signature κs)
      (g : (c M 𝓤 𝓛 mem run κs a).ghost) (x y : Res T.signature κs) (v w : Lasts T κs a)
      → ent 𝓤 (conj 𝓤 ((c M 𝓤 𝓛 mem run κs a).ensures g x (at_exit T κs a v)) ((c M 𝓤 𝓛 mem run κs a).ensures g y (at_exit T κs a w))) (fact 𝓤 (output κs a x v ≡ output κs a y w))

-- ---- what it gives of the contract that a function's theorem states: of two results that `spec` ensures
pub spec-one : {T : Ended} {c : AllClauses T} {s : AllSpec T} → OneOutcome T c s
    → {M : Type 1} {𝓤 : Ura M} (𝓛 : Logic 𝓤) (mem : Memory → SProp 𝓤) (run : Routine → Fun 𝓤) (κs : Lfts T.signature.lifetimes) (a : Args T.signature κs) (g : (s M 𝓤 𝓛 mem run κs a).ghost) (x y : Res T.signature κs)
    → ent 𝓤 (conj 𝓤 ((s M 𝓤 𝓛 mem run κs a).ensures g x) ((s M 𝓤 𝓛 mem run κs a).ensures g y)) (fact 𝓤 (x ≡ y))
spec-one {T} {c} {s} o {M} {𝓤 = 𝓤} 𝓛 mem run =
    subst (λ (S : Spec 𝓤 T.signature). (κs : Lfts T.signature.lifetimes) (a : Args T.signature κs) (g : (S κs a).ghost) (x y : Res T.signature κs) → ent 𝓤 (conj 𝓤 ((S κs a).ensures g x) ((S κs a).ensures g y)) (fact 𝓤 (x ≡ y)))
    (o.stated M 𝓤 𝓛 mem run)
    (λ κs a g x y.
    let L : Lasts T κs a → SProp 𝓤 = λ v. sem 𝓛 (lasts T κs a v) in
    let E : Res T.signature κs → Lasts T κs a → SProp 𝓤 = λ r v. (c M 𝓤 𝓛 mem run κs a).ensures g r (at_exit T κs a v) in
    ex-conj 𝓤 (λ v. sep 𝓤 (L v) (E x v)) _ (λ v. conj-ex 𝓤 (sep 𝓤 (L v) (E x v)) (λ w. sep 𝓤 (L w) (E y w)) (λ w.
    via 𝓤 (conj 𝓤 (E x v) (E y w)) (conj_mono 𝓤 (snd∗ 𝓤 (L v) (E x v)) (snd∗ 𝓤 (L w) (E y w)))
    (via 𝓤 (fact 𝓤 ((x ≡ y) × (v ≡ w))) (o.one 𝓛 mem run κs a g x y v w) (fact_mono 𝓤 ((x ≡ y) × (v ≡ w)) (x ≡ y) (λ t. t.0))))))

-- ---- how it is shown: a contract is one clause ⌜φ⌝, so two outcomes give two facts
module _ {M : Type 1} (𝓤 : Ura M) where
  pub from-facts : {φ ψ χ : Type 0} → (φ → ψ → χ) → ent 𝓤 (conj 𝓤 (fact 𝓤 φ) (fact 𝓤 ψ)) (fact 𝓤 χ)
  from-facts {φ} {ψ} {χ} f =
      fact_use 𝓤 φ (conj_l 𝓤 (fact 𝓤 φ) (fact 𝓤 ψ)) (λ p.
      fact_use 𝓤 ψ (conj_r 𝓤 (fact 𝓤 φ) (fact 𝓤 ψ)) (λ q. fact_i 𝓤 χ (conj 𝓤 (fact 𝓤 φ) (fact 𝓤 ψ)) (f p q)))
