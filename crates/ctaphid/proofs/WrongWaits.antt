-- The wrong waits are caught, each at one step. Assumes nothing.
use Prim.Native.Nat.{ℕ, ◌≤◌}
use native.Mathlib.Omega.{arith}
use mathlib.Core.Path.{◌≡◌, refl, ap}
use mathlib.Core.List.{List, [], ◌∷◌}
use lib.ListN.{length, get_or}
use Rattle.ctaphid.specs.Choice.{pick}
use Rattle.ctaphid.specs.Packets.{channel_in, declared_in, read}
use Rattle.ctaphid.specs.Touch.{place, is_same, Arrival, none, packet, Sensor, touch, timeout, Moment, Message, Response, is_cancel, on_sensor, on_packet, on_arrival, touch_step}
use Rattle.ctaphid.specs.Waits.{AnyWait, Whole, Reason, sent_to, Sends, Waits}
use Rattle.ctaphid.specs.WaitRows.{cancel-1, init-1, later-11}
use Rattle.ctaphid.specs.WrongWaits.{busy_to_all, touch_first, alive_after_cancel, limit_last, any_interface, alive_with1, number_cancels}

-- channel 1 of interface 1 waits from time 0 on, for 100 ms
abbrev moment : (time : ℕ) → Arrival → Sensor → Moment
moment time a s = record { time = time; arrival = a; sensor = s }

abbrev response : (W : AnyWait) → Moment → Response
response W m = (W.step (W.begin (place 1 1) 0 100) m).response

module _ (W : AnyWait) (right : Waits W) where
  -- what is asked of its first step
  asked : (m : Moment) → m.time ≤ 0xffff_ffff_ffff → Whole m.arrival → Reason (place 1 1) 100 m (response W m).ending × Sends (place 1 1) 100 m (response W m)
  asked m h w = let r = right (place 1 1) 0 100 (m ∷ []) (omega arith) (omega arith, h, w, tt) in (r.0, r.1)

-- ---- INIT on the channel that waits: two messages to it in place of one
pub busy-to-all-caught : Waits busy_to_all → ⊥
unfolding read channel_in is_cancel on_sensor sent_to pick
busy-to-all-caught right =
    let z : ◌≡◌ {A = ℕ} 2 1 = ap length ((asked busy_to_all right (moment 0 (packet 1 init-1) timeout) (omega arith) refl).1.alive refl) in
    omega arith

-- ---- CANCEL and a touch at one step
pub touch-first-caught : Waits touch_first → ⊥
unfolding read channel_in declared_in is_same is_cancel on_packet on_arrival touch_step pick
touch-first-caught right =
    (asked touch_first right (moment 0 (packet 1 cancel-1) touch) (omega arith) refl).0.1 (refl, refl, refl)

-- ---- CANCEL: a message in place of none
pub alive-after-cancel-caught : Waits alive_after_cancel → ⊥
unfolding read channel_in declared_in is_same is_cancel on_sensor on_packet on_arrival touch_step pick
alive-after-cancel-caught right =
    let z : ◌≡◌ {A = ℕ} 1 0 = ap length ((asked alive_after_cancel right (moment 0 (packet 1 cancel-1) timeout) (omega arith) refl).1.cancel (refl, refl, refl)) in
    omega arith

-- ---- at 100 ms: a message in place of none
pub limit-last-caught : Waits limit_last → ⊥
unfolding on_sensor on_arrival pick
limit-last-caught right =
    let z : ◌≡◌ {A = ℕ} 1 0 = ap length ((asked limit_last right (moment 100 none timeout) (omega arith) tt).1.over (omega arith)) in
    omega arith

-- ---- CANCEL on channel 1 of interface 2 ends the wait
pub any-interface-caught : Waits any_interface → ⊥
unfolding read channel_in declared_in is_same is_cancel on_sensor on_packet on_arrival touch_step pick
any-interface-caught right =
    let z : ◌≡◌ {A = ℕ} 2 1 = (asked any_interface right (moment 0 (packet 2 cancel-1) timeout) (omega arith) refl).0.1.0 in
    omega arith

-- ---- the byte of its KEEPALIVE
pub alive-with-1-caught : Waits alive_with1 → ⊥
unfolding on_sensor on_arrival touch_step sent_to pick
alive-with-1-caught right =
    let z : ◌≡◌ {A = ℕ} 1 2 = ap byte_of ((asked alive_with1 right (moment 0 none timeout) (omega arith) tt).1.alive refl) in
    omega arith
  where
    byte_of : List Message → ℕ
    byte_of [] = 0
    byte_of (m ∷ rest) = get_or m.payload 0 0

-- ---- a continuation with number 11, in hex, ends the wait
pub number-cancels-caught : Waits number_cancels → ⊥
unfolding read channel_in declared_in is_same on_sensor pick
number-cancels-caught right =
    let z : ◌≡◌ {A = ℕ} 0x11 0x91 = (asked number_cancels right (moment 0 (packet 1 later-11) timeout) (omega arith) refl).0.1.2 in
    omega arith
