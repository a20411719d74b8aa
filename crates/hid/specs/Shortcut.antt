-- The short way for the continuation packet that is due, with more to come after it. Assumes nothing.
use Rattle.std.specs.Prelude.{ℕ, ◌≤◌, ◌<◌, ◌≡◌, List, [], Bool, true, false, length}
use Rattle.ctaphid.specs.Packets.{continuation, read}
use Rattle.ctaphid.specs.Transport.{is_valid, is_shut}
use Rattle.packet.specs.Reading.{reading_of, heard, field_of}
use Rattle.packet.specs.declared.ProcessedPacket.{ProcessedPacket}
use Rattle.packet.specs.declared.ProcessedPacket.TheVariants.{ContinuationPacket}
use Rattle.hid.specs.declared.CtapHid.{CtapHid}
use Rattle.answers.specs.declared.Answer.TheVariants.{Nothing}
use Rattle.hid.specs.Hearing.{stepping, heard_of}

-- the transaction's channel is not shut
abbrev pub Open : CtapHid → (time : ℕ) → (disabled : Bool) → Type 0
Open s time disabled = is_shut (record { holder = s.locked; until = s.lock }) time disabled s.assembler.cid ≡ false

-- the transaction is live, and the packet has its channel and the number that is due
pub record Next (s : CtapHid) (time : ℕ) (p : ProcessedPacket) : Type 0 where
  pub live : time < s.assembler.deadline
  pub own : p ≡ ContinuationPacket s.assembler.cid s.assembler.seq
  pub valid : is_valid s.allocated (heard p []) ≡ true

-- the same of a packet's bytes, and more is due after it
pub record Due (s : CtapHid) (time : ℕ) (p : List ℕ) : Type 0 where
  pub more : 1 < s.still_due
  pub live : time < s.assembler.deadline
  pub own : continuation s.assembler.cid s.assembler.seq (field_of (reading_of p)) ≡ read p
  pub valid : is_valid s.allocated (read p) ≡ true

abbrev pub TellsNext : Bool → CtapHid → (time : ℕ) → (disabled : Bool) → ProcessedPacket → Type 0
TellsNext true s time disabled p = Next s time p × Open s time disabled
TellsNext false s time disabled p = Unit {0}

abbrev pub TellsDue : Bool → CtapHid → (time : ℕ) → (disabled : Bool) → (packet : List ℕ) → Type 0
TellsDue true s time disabled p = Due s time p × Open s time disabled
TellsDue false s time disabled p = Unit {0}

-- it leaves what hearing the packet leaves, whatever short buffer is lent
abbrev pub GoesOn : CtapHid → CtapHid → (time : ℕ) → (packet message after : List ℕ) → Type 0
GoesOn s1 s time p m m1 =
    (disabled : Bool) (r : List ℕ) → Open s time disabled → 17 ≤ length r → stepping (record { hid = s1; answer = Nothing }) m1 r ≡ heard_of s time disabled (read p) m r
