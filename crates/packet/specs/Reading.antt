-- What reading a packet answers, and where its data lies. Assumes nothing.
use Rattle.std.specs.Prelude.{ℕ, ◌+◌, ◌≡◌, List, [], ◌∷◌, not, length, eqb}
use Rattle.std.specs.Borrow.{Bor}
use Rattle.ctaphid.specs.Choice.{refusing}
use Rattle.ctaphid.specs.Limits.{packet_size}
use Rattle.ctaphid.specs.Packets.{Packet, initialization, continuation, read}
use Rattle.packet.specs.declared.ProcessedPacket.{ProcessedPacket}
use Rattle.packet.specs.declared.ProcessedPacket.TheVariants.{InitPacket, ContinuationPacket}
use Rattle.packet.specs.declared.Reading.{Reading}
use Rattle.packet.specs.declared.Reading.TheVariants as reading

-- one of the refusals, or the standard's packet
pub data Read : Type 0 where
  refused : (number : ℕ) → Read
  packet : Packet → Read

-- refusal 1: it isn't 64 bytes
unfoldable pub reading_of : List ℕ → Read
reading_of p = refusing refused ((not (eqb (length p) packet_size), 1) ∷ []) (packet (read p))

-- the packet that kind and numbers say, with the data field beside them
abbrev pub heard : ProcessedPacket → List ℕ → Packet
heard (InitPacket cid cmd len) field = initialization cid cmd len field
heard (ContinuationPacket cid seq) field = continuation cid seq field

-- what each answer says
abbrev pub said : Reading → List ℕ → Read
said (reading.Packet p) field = packet (heard p field)
said (reading.Refused number) field = refused number

abbrev pub field_of : Read → List ℕ
field_of (refused number) = []
field_of (packet (initialization cid cmd len field)) = field
field_of (packet (continuation cid seq field)) = field

-- how many bytes of the packet stand before its data
abbrev pub head_of : Read → ℕ
head_of (refused number) = 0
head_of (packet (initialization cid cmd len field)) = 7
head_of (packet (continuation cid seq field)) = 5

-- so many bytes past a place in memory, which is a block and an offset
abbrev pub ahead : ℕ → (ℕ × ℕ) → (ℕ × ℕ)
ahead k place = (place.0, k + place.1)

-- r is the packet's data field, and is that part of the packet itself
pub record IsField (p r : Bor (List ℕ)) : Type 0 where
  pub bytes : r.now ≡ field_of (reading_of p.now)
  pub place : r.ref_ptr ≡ ahead (head_of (reading_of p.now)) p.ref_ptr
