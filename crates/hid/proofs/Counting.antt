-- How many continuations are still due: the standard's number, and how the code comes by it. Assumes nothing.
use Prim.Native.Nat.{ℕ, ◌+◌, ◌-◌, ◌/◌, ◌≤◌}
use native.Mathlib.Omega.{arith}
use native.Mathlib.Decide.{ℕ_discrete}
use mathlib.Core.Path.{◌≡◌, refl, sym, ◌∙◌}
use mathlib.Core.List.{List, []}
use borrow.Author.Tests.{eq-eqb, ne_eqb}
use Rattle.ctaphid.specs.Choice.{pick}
use Rattle.ctaphid.specs.Messages.{count}
use Rattle.ctaphid.specs.Receiver.{Receiver, idle, busy, still_due}
use Rattle.ctaphid.proofs.Invariant.{Receives}
use Rattle.receive.specs.declared.MessageAssembler.{MessageAssembler}
use Rattle.receive.specs.Meaning.{receiver_of, assembler_of}
use Rattle.hid.specs.Due.{due_by, Counts}

module _ (a : MessageAssembler) (m : List ℕ) where
  due-none : a.len ≡ 0 → still_due (receiver_of a m) ≡ 0
  unfolding receiver_of pick
  due-none z = simp (eq-eqb _ _ z)

  pub due-some : (a.len ≡ 0 → ⊥) → still_due (receiver_of a m) ≡ count 57 59 a.len - (1 + a.seq)
  unfolding receiver_of pick
  due-some z = simp (ne_eqb _ _ z)

-- whatever stands in the message buffer
pub due-any : (a : MessageAssembler) (m : List ℕ) → still_due (receiver_of a m) ≡ due_by a
due-any a m = by-len (ℕ_discrete a.len 0)
  where
    by-len : Dec (a.len ≡ 0) → still_due (receiver_of a m) ≡ due_by a
    by-len (yes z) = due-none a m z ∙ sym (due-none a [] z)
    by-len (no z) = due-some a m z ∙ sym (due-some a [] z)

-- ---- of what the standard's receiver leaves
module _ (max n time : ℕ) where
  pub due-back : (rcv : Receiver) → Receives max n time rcv → due_by (assembler_of rcv) ≡ still_due rcv
  due-back idle h = due-none (assembler_of idle) [] refl
  due-back (busy t) h = due-some (assembler_of (busy t)) [] (λ z. absurd (omega (arith, z, h.below)))

  pub counts-back : max ≤ 7609 → (rcv : Receiver) → Receives max n time rcv → Counts (assembler_of rcv)
  counts-back most idle h = λ z. absurd (z refl)
  counts-back most (busy t) h =
      λ z. record { long = omega (arith, h.below, h.bytes); within = omega (arith, h.most); below = omega (arith, h.below, h.bytes); bytes = sym h.bytes }

-- ---- the code
module _ (a : MessageAssembler) where
  pub due-0 : a.len ≡ 0 → 0 ≡ due_by a
  due-0 z = sym (due-none a [] z)

  module _ (counts : Counts a) (z : a.len ≡ 0 → ⊥) where
    pub due-taken : a.taken ≤ a.len
    due-taken = omega (arith, (counts z).below, (counts z).bytes)

    pub due-within : a.len ≤ 7609
    due-within = (counts z).within

    -- as many as hold what is missing
    pub due-missing : (a.len - a.taken + 58) / 59 ≡ due_by a
    due-missing = omega (arith, (counts z).below, (counts z).bytes, due-some a [] z)
