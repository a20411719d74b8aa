-- What reading gives, by the kind of packet; that each part is within its range; and that a written packet reads as itself. Assumes nothing.
use Prim.Native.Nat.{ℕ, ◌+◌, ◌-◌, ◌*◌, ◌/◌, ◌%◌, ◌^◌, ◌≤◌, ◌<◌}
use native.Mathlib.Omega.{arith}
use mathlib.Core.Path.{◌≡◌, refl, ◌∙◌}
use mathlib.Core.List.{List}
use native.Mathlib.Decide.{dec_le}
use borrow.Author.Tests.{le-leb, lt-leb}
use lib.ListN.{length, drop, length-drop}
use Rattle.ctaphid.specs.Choice.{pick}
use Rattle.ctaphid.specs.Limits.{packet_size}
use Rattle.ctaphid.specs.Packets.{Packet, initialization, continuation, byte, channel_in, declared_in, read, written, Bytes, Formed}
use Rattle.ctaphid.specs.Receiver.{channel_of}
use Rattle.ctaphid.proofs.Tests.{pick-both}

module _ (p : List ℕ) where
  pub read_first : 0x80 ≤ byte p 4 → read p ≡ initialization (channel_in p) (byte p 4 - 0x80) (declared_in p) (drop 7 p)
  unfolding read pick
  read_first h = simp (le-leb 0x80 (byte p 4) h)

  pub read-later : byte p 4 < 0x80 → read p ≡ continuation (channel_in p) (byte p 4) (drop 5 p)
  unfolding read pick
  read-later h = simp (lt-leb 0x80 (byte p 4) h)

  pub channel-read : channel_of (read p) ≡ channel_in p
  unfolding read
  channel-read = pick-both (λ (q : Packet). channel_of q ≡ channel_in p) _ _ _ refl refl

  -- 64 bytes read as a packet whose parts are within their ranges
  pub read-formed : length p ≡ packet_size → Bytes p → Formed (read p)
  unfolding channel_in declared_in
  read-formed size bytes = by_kind (dec_le 0x80 (byte p 4))
    where
      by_kind : Dec (0x80 ≤ byte p 4) → Formed (read p)
      by_kind (yes h) =
          rw (read_first h) (
            omega (arith, bytes 0, bytes 1, bytes 2, bytes 3),
            omega (arith, bytes 4),
            omega (arith, bytes 5, bytes 6),
            simp length-drop (omega arith),
          )
      by_kind (no h) =
          rw (read-later (omega arith)) (
            omega (arith, bytes 0, bytes 1, bytes 2, bytes 3),
            omega arith,
            simp length-drop (omega arith),
          )

-- ---- a packet that was written

-- a number put together from its bytes
pub four_is : (c : ℕ) → c < 2 ^ 32 → c / 0x100_0000 * 0x100_0000 + c / 0x1_0000 % 0x100 * 0x1_0000 + c / 0x100 % 0x100 * 0x100 + c % 0x100 ≡ c
four_is c h = omega arith

pub read-written : (p : Packet) → Formed p → read (written p) ≡ p
unfolding written channel_in declared_in
read-written (initialization c cmd n field) h =
    let command : cmd + 0x80 - 0x80 ≡ cmd = omega arith in
    let declared : n / 0x100 * 0x100 + n % 0x100 ≡ n = omega arith in
    read_first _ (omega arith) ∙ (λ i. initialization (four_is c h.0 i) (command i) (declared i) field)
read-written (continuation c k field) h = read-later _ h.1 ∙ (λ i. continuation (four_is c h.0 i) k field)

pub written-length : (p : Packet) → Formed p → length (written p) ≡ packet_size
unfolding written
written-length (initialization c cmd n field) h = omega (arith, h.3)
written-length (continuation c k field) h = omega (arith, h.2)
