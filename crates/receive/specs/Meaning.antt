-- What the assembler's numbers mean at the standard's level, and the numbers for what stands there. The bytes that a transaction has collected are the front
-- of the message buffer. Assumes nothing.
use Rattle.std.specs.Prelude.{ℕ, List, length, take, eqb}
use Rattle.ctaphid.specs.Choice.{pick}
use Rattle.ctaphid.specs.Receiver.{Transaction, Receiver, idle, busy}
use Rattle.receive.specs.declared.MessageAssembler.{MessageAssembler}

abbrev pub transaction_of : MessageAssembler → (message : List ℕ) → Transaction
transaction_of a m =
    record { channel = a.cid; command = a.cmd; declared = a.len; collected = take a.taken m; due = a.seq; deadline = a.deadline }

-- a declared length of 0 is no transaction
unfoldable pub receiver_of : MessageAssembler → (message : List ℕ) → Receiver
receiver_of a m = pick (eqb a.len 0) idle (busy (transaction_of a m))

-- ---- and back

abbrev pub none : MessageAssembler
none = record { deadline = 0; cid = 0; len = 0; taken = 0; cmd = 0; seq = 0 }

abbrev pub assembler_of : Receiver → MessageAssembler
assembler_of idle = none
assembler_of (busy t) =
    record { deadline = t.deadline; cid = t.channel; len = t.declared; taken = length t.collected; cmd = t.command; seq = t.due }
