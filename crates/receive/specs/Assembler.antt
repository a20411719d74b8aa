-- What the assembler leaves, from what the standard's receiver does. Assumes nothing.
use Rattle.std.specs.Prelude.{ℕ, ◌≤◌, List, [], ◌∷◌, ◌≡◌, Bool, true, not, length, ltb, leb, eqb}
use Rattle.ctaphid.specs.Choice.{pick, refusing, every}
use Rattle.ctaphid.specs.Limits.{last_time}
use Rattle.ctaphid.specs.Errors.{code}
use Rattle.ctaphid.specs.Packets.{Packet}
use Rattle.ctaphid.specs.Receiver.{Receiver, idle, busy, Reception, silent, fault, whole, Turn, receive}
use Rattle.known.specs.Meaning.{settings_of}
use Rattle.collect.specs.Adding.{front}
use Rattle.collect.specs.Standing.{Stands, is_standing}
use Rattle.receive.specs.declared.MessageAssembler.{MessageAssembler}
use Rattle.receive.specs.declared.Received.{Received}
use Rattle.receive.specs.declared.Received.TheVariants.{Refused, Nothing, Error, Message}
use Rattle.receive.specs.declared.Assembled.{Assembled}
use Rattle.receive.specs.Meaning.{receiver_of, assembler_of}

-- ---- a sound transaction, as docs/RULES.md lists it, but for its channel and its deadline, which are the transport's: as facts, and as a test. `Stands`:
-- 57 < declared length ≤ maximum, 57 + 59s below it and equal to the bytes taken

pub record Sound (a : MessageAssembler) (max : ℕ) : Type 0 where
  pub command : a.cmd ≤ 127
  pub lengths : Stands max a.len a.taken a.seq

-- none is sound
unfoldable pub is_sound : MessageAssembler → (maximum : ℕ) → Bool
is_sound a max = pick (eqb a.len 0) true (every (leb a.cmd 127 ∷ is_standing max a.len a.taken a.seq ∷ []))

-- ---- the standard's turn, laid out

-- all that a call leaves: what it returns, and the message buffer
pub record Assembling : Type 0 where
  pub assembled : Assembled
  pub message : List ℕ

abbrev pub assembling : Assembled → List ℕ → Assembling
assembling r m = record { assembled = r; message = m }

abbrev pub received_of : Reception → Received
received_of silent = Nothing
received_of (fault e) = Error (code e)
received_of (whole c cmd payload) = Message c cmd (length payload)

-- the bytes collected so far, or the whole message's payload, stand at the front of the buffer
abbrev pub buffer_of : Receiver → Reception → List ℕ → List ℕ
buffer_of (busy t) b m = front t.collected m
buffer_of idle silent m = m
buffer_of idle (fault e) m = m
buffer_of idle (whole c cmd payload) m = front payload m

abbrev pub buffered : Turn → List ℕ → List ℕ
buffered t m = buffer_of t.receiver t.reception m

unfoldable pub assembled_of : Turn → List ℕ → Assembling
assembled_of t m =
    assembling (record { assembler = assembler_of t.receiver; received = received_of t.reception }) (buffered t m)

-- ---- a packet

-- 2, the message buffer is shorter than the maximum; 3, the transaction is not sound; 4, the time is too late
abbrev pub refusals : MessageAssembler → (maximum time room : ℕ) → List (Bool × ℕ)
refusals a max time room = (ltb room max, 2) ∷ (not (is_sound a max), 3) ∷ (ltb last_time time, 4) ∷ []

-- the first that refuses, or 0
unfoldable pub refusal_of : MessageAssembler → (maximum time room : ℕ) → ℕ
refusal_of a max time room = refusing (λ number. number) (refusals a max time room) 0

-- the standard's receiver behind the refusals. A refused call leaves all as it came
unfoldable pub parsed_of : MessageAssembler → (maximum vendor time : ℕ) → Packet → List ℕ → Assembling
parsed_of a max vendor time p m =
    refusing (λ number. assembling (record { assembler = a; received = Refused number }) m)
    (refusals a max time (length m))
    (assembled_of (receive (settings_of max vendor) time (receiver_of a m) p) m)

-- ---- what the parts ask

-- a transaction that data can be added to, over a message buffer
pub record Adds (a : MessageAssembler) (m : List ℕ) : Type 0 where
  pub taken : a.taken ≤ a.len
  pub room : a.len ≤ length m
  pub command : a.cmd ≤ 0xff

pub record Receives (a : MessageAssembler) (max time : ℕ) (m : List ℕ) : Type 0 where
  pub room : max ≤ length m
  pub early : time ≤ 0xffff_ffff_ffff
  pub adds : (a.len ≡ 0 → ⊥) → Adds a m
