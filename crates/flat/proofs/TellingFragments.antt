-- What each `return` of the C boundary meets, of Bluetooth's fragments. Assumes nothing.
use Prim.Native.Nat.{ℕ}
use mathlib.Core.Path.{◌≡◌, sym, ap, ◌∙◌}
use mathlib.Core.List.{List}
use Rattle.ble.specs.Writing.{Left, left}
use Rattle.ble.specs.Reading.{Reading, reading}
use Rattle.ble.specs.declared.Count.{Count}
use Rattle.ble.specs.declared.Count.TheVariants as count
use Rattle.ble.specs.declared.Written.{Written}
use Rattle.ble.specs.declared.Written.TheVariants as writing
use Rattle.ble.specs.declared.Answer.{Answer}
use Rattle.ble.specs.declared.Answer.TheVariants.{Refused, Waiting, Message}
use Rattle.ble.specs.declared.Progress.{Progress}
use Rattle.flat.specs.declared.Outcome.{Outcome}
use Rattle.flat.specs.Telling.{told, refused_by, host_flat}
use Rattle.flat.specs.TellingFragments.{fragments_outcome, written_outcome, laid, laid_of, ble_outcome_of, ble_flat_of}

module _ (x : Outcome) {a : Count} (y : Count) (is : a ≡ y) where
  pub counts-fragments : {n : ℕ} → a ≡ count.Fragments n → x ≡ told 7 0 0 n → x ≡ fragments_outcome y
  counts-fragments e k = k ∙ ap fragments_outcome (sym e ∙ is)

  pub counts-none : {n : ℕ} → a ≡ count.Refused n → x ≡ refused_by n → x ≡ fragments_outcome y
  counts-none e k = k ∙ ap fragments_outcome (sym e ∙ is)

module _ (x : Outcome) (a : Written) where
  pub tells-fragment : {n : ℕ} → a ≡ writing.Fragment n → x ≡ told 7 0 0 n → x ≡ written_outcome a
  tells-fragment e k = k ∙ sym (ap written_outcome e)

  pub tells-unwritten : {n : ℕ} → a ≡ writing.Refused n → x ≡ refused_by n → x ≡ written_outcome a
  tells-unwritten e k = k ∙ sym (ap written_outcome e)

pub lays : (x : Outcome) (a : Written) (m : List ℕ) (y : Left) → x ≡ written_outcome a → left a m ≡ y → laid x m ≡ laid_of y
lays x a m y k e = ap (λ (o : Outcome). laid o m) k ∙ ap laid_of e

module _ (x : Outcome) (a : Answer) where
  pub tells-no-fragment : {n : ℕ} → a ≡ Refused n → x ≡ refused_by n → x ≡ ble_outcome_of a
  tells-no-fragment e k = k ∙ sym (ap ble_outcome_of e)

  pub tells-more-due : a ≡ Waiting → x ≡ told 10 0 0 0 → x ≡ ble_outcome_of a
  tells-more-due e k = k ∙ sym (ap ble_outcome_of e)

  pub tells-collected : {cmd len : ℕ} → a ≡ Message cmd len → x ≡ told 11 0 cmd len → x ≡ ble_outcome_of a
  tells-collected e k = k ∙ sym (ap ble_outcome_of e)

pub reads-flat : (p : Progress) (m : List ℕ) (o : Outcome) (y : Reading) → reading p.collection p.answer m ≡ y → o ≡ ble_outcome_of p.answer
    → host_flat (record { collection = p.collection; outcome = o }) m ≡ ble_flat_of y
reads-flat p m o y e k = ap (λ (t : Outcome). host_flat (record { collection = p.collection; outcome = t }) m) k ∙ ap ble_flat_of e

pub ruleset fragments-told = (counts-fragments, counts-none, tells-fragment, tells-unwritten, lays, tells-no-fragment, tells-more-due, tells-collected, reads-flat)
