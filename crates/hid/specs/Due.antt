-- How many continuations are still due, by the assembler's numbers. Assumes nothing.
use Rattle.std.specs.Prelude.{ℕ, ◌≡◌, []}
use Rattle.ctaphid.specs.Receiver.{still_due}
use Rattle.collect.specs.Standing.{Stands}
use Rattle.receive.specs.declared.MessageAssembler.{MessageAssembler}
use Rattle.receive.specs.Meaning.{receiver_of}

-- the standard's number, which doesn't go by the bytes collected
abbrev pub due_by : MessageAssembler → ℕ
due_by a = still_due (receiver_of a [])

-- numbers that it can be told by
abbrev pub Counts : MessageAssembler → Type 0
Counts a = (a.len ≡ 0 → ⊥) → Stands 7609 a.len a.taken a.seq
