-- What reading a packet answers, and that it says which answer it was. Assumes nothing.
use Prim.Native.Nat.{ℕ, ◌-◌, ◌≤◌, ◌<◌}
use native.Mathlib.Decide.{ℕ_discrete}
use mathlib.Core.Path.{◌≡◌, refl, sym, ap, subst, ◌∙◌}
use mathlib.Core.List.{List}
use borrow.Author.Tests.{eq-eqb, ne_eqb}
use lib.ListN.{length, drop}
use Rattle.ctaphid.specs.Choice.{pick}
use Rattle.ctaphid.specs.Limits.{packet_size}
use Rattle.ctaphid.specs.Packets.{Packet, initialization, continuation, byte, channel_in, declared_in, read}
use Rattle.ctaphid.proofs.Packets.{read_first, read-later}
use Rattle.packet.specs.Reading.{Read, refused, packet, reading_of, heard, said, field_of}
use Rattle.packet.specs.declared.ProcessedPacket.{ProcessedPacket}
use Rattle.packet.specs.declared.ProcessedPacket.TheVariants.{InitPacket, ContinuationPacket}
use Rattle.packet.specs.declared.Reading.{Reading}
use Rattle.packet.specs.declared.Reading.TheVariants as reading

module _ (p : List ℕ) where
  pub refuses : (length p ≡ packet_size → ⊥) → reading_of p ≡ refused 1
  unfolding reading_of pick
  refuses e = simp (ne_eqb (length p) packet_size e)

  pub reading-is : length p ≡ packet_size → reading_of p ≡ packet (read p)
  unfolding reading_of pick
  reading-is e = simp (eq-eqb (length p) packet_size e)

  pub reads_first : length p ≡ packet_size → 0x80 ≤ byte p 4 → reading_of p ≡ packet (initialization (channel_in p) (byte p 4 - 0x80) (declared_in p) (drop 7 p))
  reads_first e h = reading-is e ∙ ap packet (read_first p h)

  pub reads-later : length p ≡ packet_size → byte p 4 < 0x80 → reading_of p ≡ packet (continuation (channel_in p) (byte p 4) (drop 5 p))
  reads-later e h = reading-is e ∙ ap packet (read-later p h)

-- the answer that says this
abbrev answer : Read → Reading
answer (refused number) = reading.Refused number
answer (packet (initialization cid cmd len field)) = reading.Packet (InitPacket cid cmd len)
answer (packet (continuation cid seq field)) = reading.Packet (ContinuationPacket cid seq)

answer-said : (x : Reading) (field : List ℕ) → answer (said x field) ≡ x
answer-said (reading.Packet (InitPacket cid cmd len)) field = refl
answer-said (reading.Packet (ContinuationPacket cid seq)) field = refl
answer-said (reading.Refused number) field = refl

-- two answers that say the same are the same
pub said-one : (field : List ℕ) (x y : Reading) → said x field ≡ said y field → x ≡ y
said-one field x y e = sym (answer-said x field) ∙ (ap answer e ∙ answer-said y field)

-- ---- what is read as a packet has 64 bytes
pub packet-size : (p : List ℕ) (x : Reading) → said x (field_of (reading_of p)) ≡ reading_of p → {processed : ProcessedPacket} → x ≡ reading.Packet processed → length p ≡ 64
packet-size p x e {processed} k = by_size (ℕ_discrete (length p) 64)
  where
    kind : Read → Type 0
    kind (refused number) = ⊥
    kind (packet q) = Unit {0}

    by_size : Dec (length p ≡ 64) → length p ≡ 64
    by_size (yes size) = size
    by_size (no n) =
        let z : packet (heard processed (field_of (reading_of p))) ≡ refused 1 = sym (ap (λ (y : Reading). said y (field_of (reading_of p))) k) ∙ (e ∙ refuses p n) in
        absurd (subst (λ (y : Read). kind y) z tt)

-- ---- and one of 64 bytes is read
module _ (p : List ℕ) (size : length p ≡ 64) (x : Reading) (e : said x (field_of (reading_of p)) ≡ reading_of p) where
  pub never-refused : {n : ℕ} {A : Type 0} → x ≡ reading.Refused n → A
  never-refused {n} k =
      let z : refused n ≡ packet (read p) = sym (ap (λ (y : Reading). said y (field_of (reading_of p))) k) ∙ (e ∙ reading-is p size) in
      absurd (subst (λ (y : Read). kind y) z tt)
    where
      kind : Read → Type 0
      kind (refused number) = Unit {0}
      kind (packet q) = ⊥

  pub packet-read : {processed : ProcessedPacket} (field : List ℕ) → x ≡ reading.Packet processed → field ≡ field_of (reading_of p) → heard processed field ≡ read p
  packet-read {processed} field k f =
      ap (heard processed) f
      ∙ ap taken (sym (ap (λ (y : Reading). said y (field_of (reading_of p))) k) ∙ (e ∙ reading-is p size))
    where
      taken : Read → Packet
      taken (refused number) = read p
      taken (packet q) = q
