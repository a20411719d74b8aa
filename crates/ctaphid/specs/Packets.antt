-- §11.2.4: the two kinds of packet, how 64 bytes are read as one, and how one is written. Assumes nothing.
use Rattle.std.specs.Prelude.{ℕ, ◌+◌, ◌*◌, ◌-◌, ◌/◌, ◌%◌, ◌^◌, ◌<◌, ◌≡◌, List, [], ◌∷◌, ◌++◌, length, get_or, drop, leb}
use Rattle.ctaphid.specs.Choice.{pick}

-- §11.2.4: an initialization packet has a channel, a command, the declared length of the whole payload and a data field;
-- a continuation packet has a channel, a sequence number and a data field
pub data Packet : Type 0 where
  initialization : (channel command declared : ℕ) (field : List ℕ) → Packet
  continuation : (channel number : ℕ) (field : List ℕ) → Packet

-- ---- reading

-- byte i of a packet, counted from 0
abbrev pub byte : List ℕ → ℕ → ℕ
byte p i = get_or p i 0

-- §11.2.4: bytes 0 to 3, most significant first
unfoldable pub channel_in : List ℕ → ℕ
channel_in p = byte p 0 * 0x100_0000 + byte p 1 * 0x1_0000 + byte p 2 * 0x100 + byte p 3

-- §11.2.4: bytes 5 and 6, high and low
unfoldable pub declared_in : List ℕ → ℕ
declared_in p = byte p 5 * 0x100 + byte p 6

-- §11.2.4: bit 7 of byte 4 is set in an initialization packet, beside the command, and clear in a continuation packet.
-- The data field is the rest: 57 bytes from byte 7 on, or 59 from byte 5 on
unfoldable pub read : List ℕ → Packet
read p =
    pick (leb 0x80 (byte p 4))
    (initialization (channel_in p) (byte p 4 - 0x80) (declared_in p) (drop 7 p))
    (continuation (channel_in p) (byte p 4) (drop 5 p))

-- ---- writing

-- §11.2.4: a channel in four bytes, most significant first
abbrev pub four : ℕ → List ℕ
four c = (c / 0x100_0000) ∷ (c / 0x1_0000 % 0x100) ∷ (c / 0x100 % 0x100) ∷ (c % 0x100) ∷ []

-- §11.2.4: the command with bit 7 set and the length in two bytes, high and low; or the sequence number; and the data field
unfoldable pub written : Packet → List ℕ
written (initialization c cmd n field) = four c ++ ((cmd + 0x80) ∷ (n / 0x100) ∷ (n % 0x100) ∷ field)
written (continuation c k field) = four c ++ (k ∷ field)

-- ---- ranges

-- a list of bytes
abbrev pub Bytes : List ℕ → Type 0
Bytes p = (i : ℕ) → byte p i < 0x100

-- §11.2.4: the ranges of a packet's parts, over HID
abbrev pub Formed : Packet → Type 0
Formed (initialization c cmd n field) = (c < 2 ^ 32) × (cmd < 0x80) × (n < 2 ^ 16) × (length field ≡ 57)
Formed (continuation c k field) = (c < 2 ^ 32) × (k < 0x80) × (length field ≡ 59)
