-- Histories of the standard's transport: what holds after each one, and what the bytes of an event say of its packet. Assumes nothing.
use Prim.Native.Nat.{ℕ, ◌-◌, ◌≤◌}
use native.Mathlib.Omega.{arith}
use native.Mathlib.Decide.{dec_le}
use mathlib.Core.Path.{◌≡◌, refl, sym, ap, subst, ◌∙◌}
use mathlib.Core.Bool.{true≢false}
use mathlib.Core.List.{List, [], ◌∷◌}
use lib.ListN.{get_or, drop}
use lib.Seq.{get_or-drop}
use Rattle.ctaphid.specs.Choice.{is_in}
use Rattle.ctaphid.specs.Packets.{Packet, initialization, continuation, byte, channel_in, declared_in, read}
use Rattle.ctaphid.specs.Settings.{Settings}
use Rattle.ctaphid.specs.Receiver.{channel_of}
use Rattle.ctaphid.specs.Transport.{Event}
use Rattle.ctaphid.specs.Demands.{standard, Permitted, Taken, latest, after, on, First, AsksLock}
use Rattle.ctaphid.proofs.Tests.{pick-both}
use Rattle.ctaphid.proofs.Packets.{read_first, read-later, read-formed}
use Rattle.ctaphid.proofs.Invariant.{Holds, holds-fresh, holds_later, holds-hear, same-settings}

-- ---- states

pub settings-after : (set : Settings) (past : List Event) → (after standard set past).settings ≡ set
settings-after set [] = refl
settings-after set (e ∷ past) = same-settings (after standard set past) e.time e.disabled (read e.packet) ∙ settings-after set past

-- the invariant, at the time of the latest event
pub holds_after : (set : Settings) (past : List Event) → Taken past → Holds (after standard set past) (latest past)
holds_after set [] taken = holds-fresh set 0
holds_after set (e ∷ past) taken =
    holds-hear (after standard set past) e.time e.disabled (read e.packet)
    (holds_later (after standard set past) (latest past) e.time taken.1 (holds_after set past taken.2))
    (read-formed e.packet taken.0.size taken.0.bytes)

-- ---- settings with an empty list

pub none-permitted : (set : Settings) → set.maximum ≤ 7609 → set.vendor ≡ [] → Permitted set
unfolding is_in
none-permitted set most none = record { most = most; vendor = λ n e. absurd (true≢false (sym e ∙ ap (is_in n) none)) }

-- ---- bytes

abbrev pub IsFirst : Packet → Type 0
IsFirst (initialization c cmd n field) = Unit {0}
IsFirst (continuation c k field) = ⊥

pub first_read : (e : Event) → First e → IsFirst (read e.packet)
first_read e h = subst (λ (p : Packet). IsFirst p) (sym (read_first e.packet h)) tt

pub read-is-first : (e : Event) → IsFirst (read e.packet) → First e
read-is-first e h = by_kind (dec_le 0x80 (byte e.packet 4))
  where
    by_kind : Dec (0x80 ≤ byte e.packet 4) → First e
    by_kind (yes k) = k
    by_kind (no k) = absurd (subst (λ (p : Packet). IsFirst p) (read-later e.packet (omega arith)) h)

pub on_read : (e : Event) → channel_of (read e.packet) ≡ on e
unfolding read channel_in
on_read e = pick-both (λ (p : Packet). channel_of p ≡ on e) _ _ _ refl refl

-- a packet that asks for a lock
abbrev pub AsksFor : (channel seconds : ℕ) → Packet → Type 0
AsksFor c k (initialization o cmd n field) = (o ≡ c) × (cmd ≡ 4) × (n ≡ 1) × (get_or field 0 0 ≡ k)
AsksFor c k (continuation o i field) = ⊥

pub asks-lock : (c k : ℕ) (e : Event) → AsksFor c k (read e.packet) → AsksLock c k e
unfolding channel_in declared_in
asks-lock c k e a = by_kind (dec_le 0x80 (byte e.packet 4))
  where
    by_kind : Dec (0x80 ≤ byte e.packet 4) → AsksLock c k e
    by_kind (yes h) =
        let b : AsksFor c k (initialization (channel_in e.packet) (byte e.packet 4 - 0x80) (declared_in e.packet) (drop 7 e.packet)) =
        subst (λ (p : Packet). AsksFor c k p) (read_first e.packet h) a in
        record {
          channel = b.0;
          command = omega (arith, h, b.1);
          high = omega (arith, b.2);
          low = omega (arith, b.2);
          seconds = sym (get_or-drop 7 e.packet 0 0) ∙ b.3;
        }
    by_kind (no h) = absurd (subst (λ (p : Packet). AsksFor c k p) (read-later e.packet (omega arith)) a)
