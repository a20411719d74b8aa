-- Demand 3 holds of the code, whoever calls it and lends as it must. Assumes nothing.
use Prim.Native.Nat.{ℕ}
use native.Mathlib.Omega.{arith}
use mathlib.Core.Path.{◌≡◌, refl, sym, ap, ◌∙◌}
use mathlib.Core.List.{List, [], ◌∷◌}
use Rattle.ctaphid.specs.Settings.{Settings}
use Rattle.ctaphid.specs.Transport.{Transport, Event, is_locked_by}
use Rattle.ctaphid.specs.Receiver.{is_on}
use Rattle.ctaphid.specs.Demands.{standard, Permitted, Taken, latest, after, Agrees, AnswersAlike}
use Rattle.ctaphid.proofs.Forgetting.{forgotten, is-on-forgets}
use Rattle.ctaphid.proofs.Listing.{relisted, after-alike, answer-alike}
use Rattle.ctaphid.proofs.Carried.{delivery-carried}
use Rattle.ctaphid.proofs.CarriedBounds.{none-shut-out-carried, unknown-told-carried, none-shut-out-by-unknown-carried, transactions-end-carried, locks-end-carried}
use Rattle.hid.specs.Meaning.{transport_of}
use Rattle.runs.specs.Steps.{Comes}
use Rattle.runs.specs.Lending.{Lends}
use Rattle.runs.specs.Share.{Held, Caller, answer_in, code, LendsWell, CodeGivesShare, CodeTellsUnknownAtOnce, CodeShutsNoneOutByUnknown}
use Rattle.runs.proofs.Refines.{meant, fresh-means, same-members, set-up-taken, leaves}
use Rattle.runs.proofs.Following.{Follows, answers-alike, follows_on}

-- what holds of the code after a history: it follows the standard's, with the list's members in their order
pub record Stands (set : Settings) (past : List Event) (h : Held) : Type 0 where
  pub follows : Follows h.hid h.left.message (after standard (meant set) past)
  pub last : h.hid.last ≡ latest past
  pub max : h.hid.max ≡ set.maximum

pub comes : (past : List Event) (e : Event) → Taken (e ∷ past) → (last : ℕ) → last ≡ latest past → Comes last e
comes past e taken last is = record { size = taken.0.size; bytes = taken.0.bytes; later = omega (arith, taken.1); early = taken.0.early }

module _ (lent : Caller) (set : Settings) (most : Permitted set) where
  abbrev at : List Event → Held
  at past = after (code lent) set past

  -- it was lent as it must be for every event of a history
  abbrev pub LentSoFar : List Event → Type 0
  LentSoFar [] = Unit {0}
  LentSoFar (e ∷ past) = Lends (at past).hid e.time (at past).left.message (lent (at past) e) × LentSoFar past

  pub stands : (past : List Event) → Taken past → LentSoFar past → Stands set past (at past)
  stands [] taken so_far =
      record {
        follows = record { sound = (set-up-taken set most).sound; means = ap (forgotten 0) (fresh-means set []) };
        last = refl;
        max = refl;
      }
  stands (e ∷ past) taken so_far =
      let h : Held = at past in
      let s : Stands set past h = stands past taken.2 so_far.1 in
      let c : Comes h.hid.last e = comes past e taken h.hid.last s.last in
      let l = leaves h.hid e (lent h e) s.follows.sound c so_far.0.roomy in
      record {
        follows = follows_on h.hid h.left.message (after standard (meant set) past) e (lent h e) s.follows c so_far.0;
        last = l.last;
        max = l.max ∙ s.max;
      }

module _ (lent : Caller) (well : LendsWell lent) where
  so_far : (set : Settings) (most : Permitted set) (past : List Event) → Taken past → LentSoFar lent set most past
  so_far set most [] taken = tt
  so_far set most (e ∷ past) taken = (well set most past e taken, so_far set most past taken.2)

  agrees : Agrees (code lent)
  agrees set most past e taken =
      let h : Held = after (code lent) set past in
      let s : Stands set past h = stands lent set most past taken.2 (so_far set most past taken.2) in
      ap answer_in (answers-alike h.hid h.left.message (after standard (meant set) past) e (lent h e) s.follows (comes past e taken h.hid.last s.last) (well set most past e taken))
      ∙ answer-alike set (meant set).vendor (same-members set most) past e

  answers : AnswersAlike (code lent)
  answers set most past taken c time later =
      let h : Held = after (code lent) set past in
      let d : Transport = transport_of h.hid h.left.message in
      let o : Transport = after standard (meant set) past in
      let listed : o ≡ relisted (meant set).vendor (after standard set past) = after-alike set (meant set).vendor (same-members set most) past in
      let means : forgotten h.hid.last d ≡ forgotten h.hid.last o = (stands lent set most past taken (so_far set most past taken)).follows.means in (
        sym (is-on-forgets h.hid.last time c d.receiver) ∙ (ap (λ (t : Transport). is_on t.receiver c time) means ∙ (is-on-forgets h.hid.last time c o.receiver ∙ ap (λ (t : Transport). is_on t.receiver c time) listed)),
        ap (λ (t : Transport). is_locked_by t.lock c time) means ∙ ap (λ (t : Transport). is_locked_by t.lock c time) listed,
      )

pub code-gives-share : CodeGivesShare
code-gives-share lent well = record {
  delivery = delivery-carried (code lent) (agrees lent well);
  transactions = transactions-end-carried (code lent) (agrees lent well) (answers lent well);
  locks = locks-end-carried (code lent) (agrees lent well) (answers lent well);
  shut_out = none-shut-out-carried (code lent) (agrees lent well);
}

pub code-tells-unknown-at-once : CodeTellsUnknownAtOnce
code-tells-unknown-at-once lent well = unknown-told-carried (code lent) (agrees lent well)

pub code-shuts-none-out-by-unknown : CodeShutsNoneOutByUnknown
code-shuts-none-out-by-unknown lent well = none-shut-out-by-unknown-carried (code lent) (agrees lent well)
