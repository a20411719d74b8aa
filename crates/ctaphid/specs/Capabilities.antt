-- §11.2.9.1.3: the capabilities that a reply to INIT reports, in its last byte. Assumes nothing.
use Rattle.std.specs.Prelude.{ℕ, ◌+◌, Bool, true, false}

-- it has WINK; it has CBOR; it has no MSG
pub data Capability : Type 0 where
  wink cbor nmsg : Capability

abbrev pub bit : Capability → ℕ
bit wink = 0x01
bit cbor = 0x04
bit nmsg = 0x08

-- what a device reports that has WINK and CBOR, and has MSG with U2F alone: 5 with it, 13 without
abbrev pub capabilities : (u2f : Bool) → ℕ
capabilities true = bit wink + bit cbor
capabilities false = bit wink + bit cbor + bit nmsg
