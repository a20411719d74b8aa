-- That transactions and locks end and that no one is shut out, carried to any device that answers as the standard's transport does. Assumes nothing.
use Prim.Native.Nat.{ℕ}
use mathlib.Core.Path.{sym, ◌∙◌}
use mathlib.Core.List.{List, [], ◌∷◌}
use mathlib.Core.Logic.{inl, inr, ⊎_elim}
use Rattle.ctaphid.specs.Settings.{Settings}
use Rattle.ctaphid.specs.Transport.{Event}
use Rattle.ctaphid.specs.Demands.{AnyDevice, standard, Permitted, Taken, on, Begun, Since, TransactionsEndWithin, TransactionsEnd, Locked, Holding, LocksEnd, Against, Honest, HeldBy, NoneShutOut, UnknownToldAtOnce, NoneShutOutByUnknown, Agrees, AnswersAlike}
use Rattle.ctaphid.proofs.Bounds.{transactions-end-sharp, transactions-end, locks-end}
use Rattle.ctaphid.proofs.Shut.{honest, none-shut-out}
use Rattle.ctaphid.proofs.Unknown.{unknown-told-at-once, both-shut-out}

-- ---- what a history says is the same of both
module _ (D : AnyDevice) (agrees : Agrees D) (set : Settings) (large : Permitted set) where
  begun-carried : (first : Event) (past : List Event) → Taken past → Begun standard set past first → Begun D set past first
  begun-carried first [] taken b = b
  begun-carried first (e ∷ past) taken (inl b) = inl (b.0, agrees set large past e taken ∙ b.1, b.2)
  begun-carried first (e ∷ past) taken (inr b) =
      inr ((λ f q. b.0 f (sym (agrees set large past e taken) ∙ q)), begun-carried first past taken.2 b.1)

  locked-carried : (c k t : ℕ) (past : List Event) → Taken past → Locked standard set c past k t → Locked D set c past k t
  locked-carried c k t [] taken b = b
  locked-carried c k t (e ∷ past) taken (inl b) = inl (b.0, agrees set large past e taken ∙ b.1, b.2)
  locked-carried c k t (e ∷ past) taken (inr b) =
      inr ((λ q. b.0 (sym (agrees set large past e taken) ∙ q)), locked-carried c k t past taken.2 b.1)

  since-carried : (bound c : ℕ) (past : List Event) (time : ℕ) → Taken past → Since bound standard set c past time → Since bound D set c past time
  since-carried bound c past time taken s =
      record { first = s.first; begun = begun-carried s.first past taken s.begun; channel = s.channel; within = s.within }

  holding-carried : (c : ℕ) (past : List Event) (time : ℕ) → Taken past → Holding standard set c past time → Holding D set c past time
  holding-carried c past time taken h =
      record {
        seconds = h.seconds;
        start = h.start;
        locked = locked-carried c h.seconds h.start past taken h.locked;
        some = h.some;
        most = h.most;
        within = h.within;
      }

-- ---- with no question asked
pub none-shut-out-carried : (D : AnyDevice) → Agrees D → NoneShutOut D
none-shut-out-carried D agrees set large past e taken enabled told =
    let h : HeldBy standard set past (on e) e.time = none-shut-out set large past e taken enabled (sym (agrees set large past e taken) ∙ told) in
    record {
      holder = h.holder;
      another = h.another;
      holds =
          ⊎_elim
          (λ s. inl (since-carried D agrees set large 12800 h.holder past e.time taken.2 s))
          (λ k. inr (holding-carried D agrees set large h.holder past e.time taken.2 k))
          h.holds;
    }

pub unknown-told-carried : (D : AnyDevice) → Agrees D → UnknownToldAtOnce D
unknown-told-carried D agrees set large past e taken first hushed =
    unknown-told-at-once set large past e taken first (sym (agrees set large past e taken) ∙ hushed)

pub none-shut-out-by-unknown-carried : (D : AnyDevice) → Agrees D → NoneShutOutByUnknown D
none-shut-out-by-unknown-carried D agrees = both-shut-out D (none-shut-out-carried D agrees) (unknown-told-carried D agrees)

-- ---- with questions that are answered alike
pub transactions-end-within-carried : (bound : ℕ) → TransactionsEndWithin bound standard → (D : AnyDevice) → Agrees D → AnswersAlike D → TransactionsEndWithin bound D
transactions-end-within-carried bound ends D agrees alike set large past taken time onward c live =
    since-carried D agrees set large bound c past time taken
    (ends set large past taken time onward c (sym (alike set large past taken c time onward).0 ∙ live))

pub transactions-end-sharp-carried : (D : AnyDevice) → Agrees D → AnswersAlike D → TransactionsEndWithin 12673 D
transactions-end-sharp-carried = transactions-end-within-carried 12673 transactions-end-sharp

pub transactions-end-carried : (D : AnyDevice) → Agrees D → AnswersAlike D → TransactionsEnd D
transactions-end-carried = transactions-end-within-carried 12800 transactions-end

pub locks-end-carried : (D : AnyDevice) → Agrees D → AnswersAlike D → LocksEnd D
locks-end-carried D agrees alike set large past taken time onward c runs =
    holding-carried D agrees set large c past time taken
    (locks-end set large past taken time onward c (sym (alike set large past taken c time onward).1 ∙ runs))

pub honest-carried : (D : AnyDevice) → Agrees D → AnswersAlike D → Honest D
honest-carried D agrees alike set large past e taken enabled told =
    let a : Against standard _ (on e) e.time = honest set large past e taken enabled (sym (agrees set large past e taken) ∙ told) in
    record {
      holder = a.holder;
      another = a.another;
      holds =
          ⊎_elim
          (λ l. inl ((alike set large past taken.2 a.holder e.time taken.1).0 ∙ l))
          (λ l. inr ((alike set large past taken.2 a.holder e.time taken.1).1 ∙ l))
          a.holds;
    }
