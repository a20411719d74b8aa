-- Answers laid out: what a `return` of `error_message` meets, and what is known where the short buffer has room. Assumes nothing.
use Prim.Native.Nat.{ℕ, ◌≤◌, ◌<◌}
use native.Mathlib.Omega.{arith}
use mathlib.Core.Path.{◌≡◌, refl, ap}
use mathlib.Core.List.{List, [], ◌∷◌}
use mathlib.Core.Bool.{false}
use borrow.Author.Tests.{lt-ltb, le-ltb}
use lib.ListN.{length, set}
use Rattle.ctaphid.specs.Choice.{pick}
use Rattle.ctaphid.specs.Commands.{ERROR}
use Rattle.ctaphid.specs.Transport as standard
use Rattle.ctaphid.proofs.Tests.{pick_same}
use Rattle.packet.specs.declared.command.CtapHidCommand.TheVariants as command
use Rattle.collect.specs.Adding.{front}
use Rattle.answers.specs.declared.Answer.TheVariants.{Refused, Reply}
use Rattle.answers.specs.Answers.{answer_of, replied}
use Rattle.answers.specs.Replies.{answering, is_short, laid_of}

-- a byte stored at the front
pub stored-front : (x : ℕ) (l : List ℕ) → 1 ≤ length l → set l 0 x ≡ front (x ∷ []) l
stored-front x [] h = absurd (omega arith)
stored-front x (y ∷ l) h = refl

-- with room for it, every answer is laid out
pub laid-roomy : (a : standard.Answer) (r : List ℕ) → 17 ≤ length r → laid_of a r ≡ answering (answer_of a) (replied a r)
unfolding laid_of pick
laid-roomy a r h = simp (le-ltb (length r) 17 h, pick_same (is_short a) false)

module _ (c e : ℕ) (r : List ℕ) where
  pub error-refused : length r < 17 → answering (Refused 2) r ≡ laid_of (standard.reply c ERROR (e ∷ [])) r
  unfolding laid_of pick
  error-refused h = simp (lt-ltb (length r) 17 h)

  pub error-laid : 17 ≤ length r → answering (Reply c command.Error 1) (set r 0 e) ≡ laid_of (standard.reply c ERROR (e ∷ [])) r
  unfolding laid_of pick
  error-laid h = simp (le-ltb (length r) 17 h) (ap (answering (Reply c command.Error 1)) (stored-front e r (omega arith)))
