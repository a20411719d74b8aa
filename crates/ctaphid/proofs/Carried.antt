-- Delivery is carried to any device that answers as the standard's transport does. Assumes nothing.
use Prim.Native.Nat.{ℕ, ◌+◌}
use mathlib.Core.Path.{sym, subst, ◌∙◌}
use mathlib.Core.List.{List, [], ◌∷◌}
use mathlib.Core.Logic.{⊎_elim}
use Rattle.ctaphid.specs.Settings.{Settings}
use Rattle.ctaphid.specs.Transport.{Event, Answer}
use Rattle.ctaphid.specs.Demands.{AnyDevice, standard, Permitted, Taken, after, Sent, Hushed, Ends, Delivery, Agrees}
use Rattle.ctaphid.proofs.Deliver.{delivery}

-- no call is refused in what follows a history
abbrev Follows : List Event → List Event → Type 0
Follows past [] = Unit {0}
Follows past (e ∷ rest) = Taken (e ∷ past) × Follows (e ∷ past) rest

sent-follows : (c deadline : ℕ) (ps : List (List ℕ)) (rest : List Event) (e : Event) (past : List Event) → Taken (e ∷ past) → Sent c deadline e.time ps rest → Follows (e ∷ past) rest
sent-follows c deadline ps [] e past taken w = tt
sent-follows c deadline [] (f ∷ rest) e past taken w = absurd w
sent-follows c deadline (p ∷ ps) (f ∷ rest) e past taken w =
    let next : Taken (f ∷ (e ∷ past)) = (w.0, w.1, taken) in (
      next,
      ⊎_elim (λ o. sent-follows c (f.time + 100) ps rest f (e ∷ past) next o.3) (λ o. sent-follows c deadline (p ∷ ps) rest f (e ∷ past) next o.1) w.2,
    )

module _ (D : AnyDevice) (agrees : Agrees D) (set : Settings) (large : Permitted set) where
  ends-carried : (c : ℕ) (a : Answer) (events past : List Event) → Follows past events → Ends standard (after standard set past) c a events → Ends D (after D set past) c a events
  ends-carried c a [] past f k = k
  ends-carried c a (e ∷ []) past f k = agrees set large past e f.0 ∙ k
  ends-carried c a (e ∷ (g ∷ rest)) past f k = (
    subst (λ (x : Answer). Hushed c e x) (sym (agrees set large past e f.0)) k.0,
    ends-carried c a (g ∷ rest) (e ∷ past) f.1 k.1,
  )

pub delivery-carried : (D : AnyDevice) → Agrees D → Delivery D
delivery-carried D agrees set large past taken c m allowed payload fits e rest is_open sending =
    let first : Taken (e ∷ past) = (sending.proper, sending.onward, taken) in
    ends-carried D agrees set large c _ (e ∷ rest) past
    (first, sent-follows c _ sending.following rest e past first sending.followed)
    (delivery set large past taken c m allowed payload fits e rest is_open sending)
