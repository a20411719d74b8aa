-- The wrong keys with two interfaces are caught. Assumes nothing.
use Prim.Native.Nat.{ℕ}
use native.Mathlib.Omega.{arith}
use mathlib.Core.Path.{◌≡◌, refl, sym}
use mathlib.Core.List.{List, [], ◌∷◌}
use mathlib.Core.Bool.{true, true≢false}
use Rattle.ctaphid.specs.Choice.{pick}
use Rattle.ctaphid.specs.Packets.{channel_in, declared_in, read}
use Rattle.ctaphid.specs.Commands.{LOCK, PING, CBOR, is_vendor, among}
use Rattle.ctaphid.specs.Settings.{knows}
use Rattle.ctaphid.specs.Receiver.{collect, start_known, start, when_idle, when_over, on_own, when_busy, receive}
use Rattle.ctaphid.specs.Transport.{nothing, reply, request, is_allocated, is_valid, is_locked_by, is_locked_against, is_shut, next_channel, on_init, lock_for, on_lock, dispatch, settle, hear, obey}
use Rattle.ctaphid.specs.Device.{on_wink, on_request, answered}
use Rattle.ctaphid.specs.Demands.{busy_on}
use Rattle.ctaphid.specs.Interfaces.{main, vendor, Arrival, on_vendor}
use Rattle.ctaphid.specs.KeyDemands.{AnyKey, TakenBy, after_by, unchecked, SidesAgree, MainIsDevice, NeverTwoLocks, DeliveryOnEach}
use Rattle.ctaphid.specs.Rows.{lock_of, wink_on1}
use Rattle.ctaphid.specs.KeyRows.{at}
use Rattle.ctaphid.specs.WrongKeys.{unheeding, by_number, own_lock, one_transaction, ends_from_vendor}
use Rattle.ctaphid.proofs.Instances.{all_below, proper, ping, message}
use Rattle.ctaphid.proofs.KeyInstances.{settings, permitted, ready, ready-taken, on-main}

-- ---- locks

-- channel 1 of main locks for ten seconds, and then channel 1 of vendor would
abbrev locked : List Arrival
locked = at main 2 (lock_of 10) ∷ ready

abbrev twice : List Arrival
twice = at vendor 3 (lock_of 10) ∷ locked

twice-taken : TakenBy twice
unfolding all_below pick
twice-taken = (proper 3 (lock_of 10) (omega arith) refl refl, omega arith, (proper 2 (lock_of 10) (omega arith) refl refl, omega arith, ready-taken))

two-locks-caught : (D : AnyKey) → D.is_locked_by (after_by D settings twice) main 1 3 ≡ true → D.is_locked_by (after_by D settings twice) vendor 1 3 ≡ true → NeverTwoLocks D → ⊥
two-locks-caught D m v never = never settings permitted twice twice-taken 3 (omega arith) 1 1 m v

pub unheeding-caught : NeverTwoLocks unheeding → ⊥
unfolding read channel_in declared_in hear is_shut settle dispatch knows obey is_vendor on_init on_lock lock_for next_channel is_allocated is_valid is_locked_by is_locked_against receive when_idle start start_known collect among pick
unheeding-caught = two-locks-caught unheeding refl refl

pub by-number-caught : NeverTwoLocks by_number → ⊥
unfolding read channel_in declared_in hear is_shut settle dispatch knows obey is_vendor on_init on_lock lock_for next_channel is_allocated is_valid is_locked_by is_locked_against receive when_idle start start_known collect among pick
by-number-caught = two-locks-caught by_number refl refl

pub own-lock-caught : NeverTwoLocks own_lock → ⊥
unfolding read channel_in declared_in hear is_shut settle dispatch knows obey is_vendor on_init on_lock lock_for next_channel is_allocated is_valid is_locked_by is_locked_against receive when_idle start start_known collect among pick
own-lock-caught = two-locks-caught own_lock refl refl

-- nor do they agree with the single transport: the first accepts vendor's LOCK, and the last turns the holder away
pub unheeding-disagrees : SidesAgree unchecked unheeding → ⊥
unfolding read channel_in declared_in hear is_shut settle dispatch knows obey is_vendor on_init on_lock lock_for next_channel is_allocated is_valid is_locked_against receive when_idle start start_known collect among pick
unheeding-disagrees agrees =
    let e : reply 1 LOCK [] ≡ busy_on 1 = agrees settings permitted locked (at vendor 3 (lock_of 10)) twice-taken in
    let z : ◌≡◌ {A = ℕ} 0 1 = cc in
    omega arith

pub own-lock-disagrees : SidesAgree unchecked own_lock → ⊥
unfolding read channel_in declared_in hear is_shut settle dispatch knows obey is_vendor on_init on_lock lock_for next_channel is_allocated is_valid is_locked_against receive when_idle start start_known collect among all_below pick
own-lock-disagrees agrees =
    let e : busy_on 1 ≡ reply 1 PING (0xab ∷ 0xcd ∷ []) = agrees settings permitted locked (at main 3 (ping 1)) (proper 3 (ping 1) (omega arith) refl refl, omega arith, twice-taken.2) in
    let z : ◌≡◌ {A = ℕ} 0 1 = cc in
    omega arith

-- ---- transactions

-- vendor's PING in between ends main's message
pub one-transaction-caught : DeliveryOnEach unchecked one_transaction → ⊥
unfolding read channel_in declared_in hear is_shut settle dispatch knows obey is_vendor on_init next_channel is_allocated is_valid is_locked_against receive when_idle when_over when_busy on_own start start_known collect among pick
one-transaction-caught delivers =
    let e : nothing ≡ request 1 CBOR (message 7) = (on-main unchecked one_transaction delivers).1.1 in
    let z : ◌≡◌ {A = ℕ} 0 1 = cc in
    omega arith

-- ---- the wink

-- main winks from 10 on, and vendor's PING is echoed at 20
abbrev winked : List Arrival
winked = at vendor 20 (ping 1) ∷ at main 10 wink_on1 ∷ ready

winked-taken : TakenBy winked
unfolding all_below pick
winked-taken = (proper 20 (ping 1) (omega arith) refl refl, omega arith, (proper 10 wink_on1 (omega arith) refl refl, omega arith, ready-taken))

pub ends-from-vendor-caught : MainIsDevice ends_from_vendor → ⊥
unfolding read channel_in declared_in hear is_shut settle dispatch knows obey is_vendor on_init next_channel is_allocated is_valid is_locked_against receive when_idle start start_known collect among answered on_request on_wink on_vendor pick
ends-from-vendor-caught right = true≢false (sym (right.winks settings permitted winked winked-taken 20 (omega arith)))
