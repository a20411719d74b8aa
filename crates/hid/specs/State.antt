-- A state with another time or transaction, and what answering leaves of the state and the short reply buffer. Assumes nothing.
use Rattle.std.specs.Prelude.{ℕ, List, eqb}
use Rattle.ctaphid.specs.Choice.{pick}
use Rattle.ctaphid.specs.Transport as standard
use Rattle.ctaphid.specs.Transport.{Transport, Next}
use Rattle.receive.specs.declared.MessageAssembler.{MessageAssembler}
use Rattle.receive.specs.Meaning.{none}
use Rattle.answers.specs.Answers.{answer_of, replied}
use Rattle.hid.specs.declared.CtapHid.{CtapHid}
use Rattle.hid.specs.declared.Stepped.{Stepped}
use Rattle.hid.specs.Meaning.{state_of}

-- s with another last time and transaction, and with so many continuations still due
abbrev pub having : CtapHid → (time : ℕ) → MessageAssembler → (due : ℕ) → CtapHid
having s time a due =
    record { assembler = a; lock = s.lock; last = time; vendor = s.vendor; allocated = s.allocated; locked = s.locked; max = s.max; u2f = s.u2f; spare = s.spare; still_due = due }

-- s as a packet at this time meets it. What stands in an assembler without a transaction is cleared
unfoldable pub arriving : CtapHid → (time : ℕ) → CtapHid
arriving s time = having s time (pick (eqb s.assembler.len 0) none s.assembler) s.still_due

-- ---- over the short reply buffer alone

pub record Serving : Type 0 where
  pub stepped : Stepped
  pub reply : List ℕ

abbrev pub serving : Stepped → List ℕ → Serving
serving s r = record { stepped = s; reply = r }

unfoldable pub served_of : CtapHid → (time : ℕ) → Next Transport → (short : List ℕ) → Serving
served_of s time n r =
    serving (record { hid = state_of s time n.state; answer = answer_of n.answer }) (replied n.answer r)

-- an answer that leaves the state as it is
abbrev pub keeping : CtapHid → standard.Answer → (short : List ℕ) → Serving
keeping s a r = serving (record { hid = s; answer = answer_of a }) (replied a r)
