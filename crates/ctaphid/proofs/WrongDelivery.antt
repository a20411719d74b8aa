-- The wrong devices don't deliver. Assumes nothing.
use Prim.Native.Nat.{ℕ, ◌<◌}
use native.Mathlib.Omega.{arith}
use mathlib.Core.Path.{◌≡◌, refl, ap, sym, subst, ◌∙◌}
use mathlib.Core.List.{List, [], ◌∷◌}
use mathlib.Core.Bool.{true, true≢false}
use lib.ListN.{get_or, drop, replicate}
use Rattle.ctaphid.specs.Choice.{pick, is_in}
use Rattle.ctaphid.specs.Packets.{Packet, continuation, byte, channel_in, declared_in, read}
use Rattle.ctaphid.specs.Commands.{CBOR, VENDOR, number, is_vendor, among}
use Rattle.ctaphid.specs.Settings.{knows}
use Rattle.ctaphid.specs.Receiver.{collect, start_known, start, when_idle, when_over, on_own, when_busy, receive}
use Rattle.ctaphid.specs.Transport.{Event, Answer, nothing, reply, request, is_allocated, is_valid, is_locked_against, is_shut, next_channel, on_init, dispatch, settle, hear, obey}
use Rattle.ctaphid.specs.Demands.{AnyDevice, First, after, answer, Ends, Delivery}
use Rattle.ctaphid.specs.Wrong.{Refusing, busy_always, Frozen, forgetful, Nodding, eagerly, eager, NoddingAtVendor, hushed, eagerly_at_vendor, eager_at_vendor}
use Rattle.ctaphid.proofs.Tests.{pick_known}
use Rattle.ctaphid.proofs.Packets.{read-later}
use Rattle.ctaphid.proofs.Instances.{all_below, at, ping, message, begins, ends, allowing, settings, two, between, one-packet, two-packets, vendor-packets}

-- ---- what is asked of answers

abbrev command_in : Answer → ℕ
command_in nothing = 0
command_in (reply c cmd payload) = number cmd
command_in (request c cmd payload) = number cmd

abbrev first_in : Answer → ℕ
first_in nothing = 0
first_in (reply c cmd payload) = 0
first_in (request c cmd payload) = get_or payload 0 0

abbrev kind : Answer → ℕ
kind nothing = 0
kind (reply c cmd payload) = 1
kind (request c cmd payload) = 2

-- ---- answers ChannelBusy always

pub refusing-caught : (D : AnyDevice) → Refusing D → Delivery D → ⊥
refusing-caught D r delivers =
    let z : ◌≡◌ {A = ℕ} 63 1 = ap command_in (sym (r.refuses (after D settings two) (at 5 (ping 1))) ∙ one-packet D delivers) in
    omega arith

pub busy-always-caught : Delivery busy_always → ⊥
busy-always-caught = refusing-caught busy_always (record { refuses = λ s e. refl })

-- ---- alters nothing: of two messages that differ in their first packet alone, the second packet would be answered alike

pub frozen-caught : (D : AnyDevice) → Frozen D → Delivery D → ⊥
unfolding all_below pick
frozen-caught D f delivers =
    let z : ◌≡◌ {A = ℕ} 7 8 = ap first_in (sym (same 7 (two-packets D delivers 7 refl).1.1) ∙ same 8 (two-packets D delivers 8 refl).1.1) in
    omega arith
  where
    same : (b : ℕ) → (D.step (D.step (D.step (after D settings two) (at 5 (begins 16 b))).state (at 50 (ping 2))).state (at 104 ends)).answer ≡ request 1 CBOR (message b) → (D.step (after D settings two) (at 104 ends)).answer ≡ request 1 CBOR (message b)
    same b k =
        subst (λ (x : D.State). (D.step x (at 104 ends)).answer ≡ request 1 CBOR (message b))
        (f.same (D.step (after D settings two) (at 5 (begins 16 b))).state (at 50 (ping 2)) ∙ f.same (after D settings two) (at 5 (begins 16 b)))
        k

pub forgetful-caught : Delivery forgetful → ⊥
forgetful-caught = frozen-caught forgetful (record { same = λ s e. refl })

-- ---- only nods at packets that are not first ones

pub nodding-caught : (D : AnyDevice) → Nodding D → Delivery D → ⊥
unfolding all_below pick
nodding-caught D n delivers =
    let k : Ends D (after D settings two) 1 (request 1 CBOR (message 7)) (at 5 (begins 16 7) ∷ between) = two-packets D delivers 7 refl in
    let z : ◌≡◌ {A = ℕ} 16 0 = ap command_in (sym k.1.1 ∙ n.nods _ (at 104 ends) (λ h. omega arith)) in
    omega arith

later : (e : Event) → (First e → ⊥) → byte e.packet 4 < 0x80
later e h = omega arith

pub eager-nods : Nodding eager
eager-nods = record { nods = λ s e h. ap (λ (p : Packet). (eagerly s e p).answer) (read-later e.packet (later e h)) }

pub eager-caught : Delivery eager → ⊥
eager-caught = nodding-caught eager eager-nods

-- it hands out at the first packet
pub eager-early : answer eager settings two (at 5 (begins 16 7)) ≡ request 1 CBOR (replicate 57 7)
unfolding read channel_in declared_in hear is_shut settle dispatch knows obey is_vendor on_init next_channel is_allocated is_valid is_locked_against receive when_idle start start_known collect among pick
eager-early = refl

-- ---- hands a vendor message out at no packet but a first one

pub nodding-at-vendor-caught : (D : AnyDevice) → NoddingAtVendor D → Delivery D → ⊥
unfolding is_vendor pick
nodding-at-vendor-caught D n delivers = n.nods _ (at 104 ends) (λ h. omega arith) 1 127 (message 7) refl (vendor-packets D delivers).1.1

hushed-never : (a : Answer) (c n : ℕ) (payload : List ℕ) → is_vendor n ≡ true → hushed a ≡ request c (VENDOR n) payload → ⊥
hushed-never nothing c n payload v = λ e. absurd (omega (arith, ap kind e))
hushed-never (reply o cmd bytes) c n payload v = λ e. absurd (omega (arith, ap kind e))
hushed-never (request o cmd bytes) c n payload v =
    pick_known (λ (a : Answer). a ≡ request c (VENDOR n) payload → ⊥) (is_vendor (number cmd)) _ _
    (λ t e. absurd (omega (arith, ap kind e)))
    (λ t e. true≢false (sym v ∙ (ap (λ (x : ℕ). is_vendor x) (sym (ap command_in e)) ∙ t)))

pub eager-at-vendor-nods : NoddingAtVendor eager_at_vendor
eager-at-vendor-nods = record {
  nods = λ s e h c n payload v told. hushed-never (hear s e.time e.disabled (continuation (channel_in e.packet) (byte e.packet 4) (drop 5 e.packet))).answer c n payload v (sym (ap (λ (p : Packet). (eagerly_at_vendor s e p).answer) (read-later e.packet (later e h))) ∙ told);
}

pub eager-at-vendor-caught : Delivery eager_at_vendor → ⊥
eager-at-vendor-caught = nodding-at-vendor-caught eager_at_vendor eager-at-vendor-nods

-- it hands the vendor's out at the first packet, and all others as it must
pub eager-at-vendor-early : answer eager_at_vendor (allowing (127 ∷ [])) two (at 5 (begins 127 7)) ≡ request 1 (VENDOR 127) (replicate 57 7)
unfolding read channel_in declared_in hear is_shut settle dispatch knows obey is_vendor is_in on_init next_channel is_allocated is_valid is_locked_against receive when_idle start start_known collect among pick
eager-at-vendor-early = refl

pub eager-at-vendor-else : answer eager_at_vendor settings (at 5 (begins 16 7) ∷ two) (at 104 ends) ≡ request 1 CBOR (message 7)
unfolding read channel_in declared_in hear is_shut settle dispatch knows obey is_vendor is_in on_init next_channel is_allocated is_valid is_locked_against receive when_idle when_over when_busy on_own start start_known collect among pick
eager-at-vendor-else = refl
