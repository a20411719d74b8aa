-- The definition's wait does what is asked of any. Assumes nothing.
use Prim.Native.Nat.{ℕ, ◌-◌, ◌≤◌, ◌<◌}
use native.Mathlib.Omega.{arith}
use native.Mathlib.Decide.{dec_le, ℕ_discrete}
use mathlib.Core.Path.{◌≡◌, refl, sym, ap, subst, ◌∙◌}
use mathlib.Core.List.{List, [], ◌∷◌}
use mathlib.Core.Bool.{true, false}
use borrow.Author.Tests.{le-leb, lt-leb, eq-eqb, ne_eqb}
use Rattle.ctaphid.specs.Choice.{pick}
use Rattle.ctaphid.specs.Packets.{byte, channel_in, read}
use Rattle.ctaphid.specs.Receiver.{channel_of}
use Rattle.ctaphid.specs.Touch.{Place, place, is_same, Wait, begun, Arrival, none, packet, Sensor, touch, timeout, error, Moment, Message, Ending, not_yet, touched, cancelled, timed_out, failed, Response, respond, busy, keepalive, is_cancel, on_sensor, before, on_packet, on_arrival, touch_step}
use Rattle.ctaphid.specs.Waits.{standard_wait, going_on, waited, on, From, Cancels, Reason, Other, sent_to, Sends, Then, Right, Waits}
use Rattle.ctaphid.proofs.Packets.{read_first, read-later, channel-read}

-- ---- what goes to a channel
module _ (p : Place) (m : Message) (rest : List Message) where
  pub goes-there : m.to.interface ≡ p.interface → m.to.channel ≡ p.channel → sent_to p (m ∷ rest) ≡ m ∷ sent_to p rest
  unfolding sent_to pick
  goes-there i c = simp (eq-eqb m.to.interface p.interface i, eq-eqb m.to.channel p.channel c)

  pub goes-elsewhere : Other m.to p → sent_to p (m ∷ rest) ≡ sent_to p rest
  unfolding sent_to pick
  goes-elsewhere n = by-interface (ℕ_discrete m.to.interface p.interface)
    where
      by-interface : Dec (m.to.interface ≡ p.interface) → sent_to p (m ∷ rest) ≡ sent_to p rest
      by-interface (yes i) = simp (eq-eqb m.to.interface p.interface i, ne_eqb m.to.channel p.channel (n i))
      by-interface (no i) = simp (ne_eqb m.to.interface p.interface i)

none-there : (p : Place) → sent_to p [] ≡ []
unfolding sent_to
none-there p = refl

other-sym : {p q : Place} → Other p q → Other q p
other-sym n i c = n (sym i) (sym c)

-- an ending that isn't `not_yet`
abbrev not_going : Ending → Type 0
not_going not_yet = ⊥
not_going touched = Unit {0}
not_going cancelled = Unit {0}
not_going timed_out = Unit {0}
not_going (failed number) = Unit {0}

goes-not : (e : Ending) → not_going e → e ≡ not_yet → ⊥
goes-not e n is = subst not_going is n

module _ (active : Place) (until : ℕ) (m : Moment) where
  -- nobody else is to be told anything
  abbrev Untold : Type 0
  Untold = (p : Place) → m.time < until → From p m.arrival → Other p active → ⊥

  silent-sends : (e : Ending) → not_going e → Untold → Sends active until m (respond [] e)
  silent-sends e n untold = record {
    over = λ h. refl;
    cancel = λ h. refl;
    told = λ p h f o. absurd (untold p h f o);
    others = λ p f o. none-there p;
    alive = λ is. absurd (goes-not e n is);
    quiet = λ g. none-there active;
    first = λ p f o is. absurd (goes-not e n is);
  }

  module _ (on-time : m.time < until) (kept : Cancels active m.arrival → ⊥) where
    alive-sends : Untold → Sends active until m (respond (keepalive active ∷ []) not_yet)
    alive-sends untold = record {
      over = λ h. absurd (omega arith);
      cancel = λ h. absurd (kept h);
      told = λ p h f o. absurd (untold p h f o);
      others = λ p f o. goes-elsewhere p (keepalive active) [] (other-sym o) ∙ none-there p;
      alive = λ is. goes-there active (keepalive active) [] refl refl ∙ ap (λ (l : List Message). keepalive active ∷ l) (none-there active);
      quiet = λ g. absurd (g refl);
      first = λ p f o is. absurd (untold p on-time f o);
    }

  -- a packet came from another channel, which is told that the device is busy
  module _ (on-time : m.time < until) (kept : Cancels active m.arrival → ⊥) (from : Place) (only : (p : Place) → From p m.arrival → from ≡ p) (came : From from m.arrival) (other : Other from active) where
    there : (p : Place) (rest : List Message) → From p m.arrival → sent_to p rest ≡ [] → sent_to p (busy from ∷ rest) ≡ busy p ∷ []
    there p rest f nil =
        goes-there p (busy from) rest (ap (λ (q : Place). q.interface) (only p f)) (ap (λ (q : Place). q.channel) (only p f))
        ∙ (λ i. busy (only p f i) ∷ nil i)

    elsewhere : (p : Place) (rest : List Message) → (From p m.arrival → ⊥) → sent_to p (busy from ∷ rest) ≡ sent_to p rest
    elsewhere p rest n = goes-elsewhere p (busy from) rest (λ i c. n (subst (λ (q : Place). From q m.arrival) (λ k. place (i k) (c k)) came))

    on-active : (rest : List Message) → sent_to active (busy from ∷ rest) ≡ sent_to active rest
    on-active rest = goes-elsewhere active (busy from) rest other

    busy-sends : (e : Ending) → not_going e → Sends active until m (respond (busy from ∷ []) e)
    busy-sends e n = record {
      over = λ h. absurd (omega arith);
      cancel = λ h. absurd (kept h);
      told = λ p h f o. there p [] f (none-there p);
      others = λ p f o. elsewhere p [] f ∙ none-there p;
      alive = λ is. absurd (goes-not e n is);
      quiet = λ g. on-active [] ∙ none-there active;
      first = λ p f o is. absurd (goes-not e n is);
    }

    both_send : Sends active until m (respond (busy from ∷ keepalive active ∷ []) not_yet)
    both_send = record {
      over = λ h. absurd (omega arith);
      cancel = λ h. absurd (kept h);
      told = λ p h f o. there p (keepalive active ∷ []) f (goes-elsewhere p (keepalive active) [] (other-sym o) ∙ none-there p);
      others = λ p f o. elsewhere p (keepalive active ∷ []) f ∙ (goes-elsewhere p (keepalive active) [] (other-sym o) ∙ none-there p);
      alive = λ is. on-active (keepalive active ∷ []) ∙ (goes-there active (keepalive active) [] refl refl ∙ ap (λ (l : List Message). keepalive active ∷ l) (none-there active));
      quiet = λ g. absurd (g refl);
      first = λ p f o is. λ i. busy (only p f i) ∷ keepalive active ∷ [];
    }

-- ---- a step
abbrev pub RightStep : Place → ℕ → Moment → Response → Type 0
RightStep active until m r = Reason active until m r.ending × Sends active until m r

-- the channel, and CANCEL, which is 91 in byte 4
on_read : (p : List ℕ) → channel_of (read p) ≡ on p
unfolding channel_in
on_read p = channel-read p

cancel-is : (p : List ℕ) → byte p 4 ≡ 0x91 → is_cancel (read p) ≡ true
unfolding is_cancel
cancel-is p b = ap is_cancel (read_first p (omega arith)) ∙ eq-eqb (byte p 4 - 0x80) 0x11 (omega arith)

cancel-not : (p : List ℕ) → (byte p 4 ≡ 0x91 → ⊥) → is_cancel (read p) ≡ false
unfolding is_cancel
cancel-not p n = by_kind (dec_le 0x80 (byte p 4))
  where
    by_kind : Dec (0x80 ≤ byte p 4) → is_cancel (read p) ≡ false
    by_kind (yes h) = ap is_cancel (read_first p h) ∙ ne_eqb (byte p 4 - 0x80) 0x11 (λ e. n (omega arith))
    by_kind (no h) = ap is_cancel (read-later p (omega arith))

module _ (active : Place) (until time : ℕ) (a : Arrival) (on-time : time < until) where
  abbrev at : Sensor → Moment
  at s = record { time = time; arrival = a; sensor = s }

  module _ (kept : Cancels active a → ⊥) where
    -- nothing came from another channel
    sensor-right : ((p : Place) → From p a → Other p active → ⊥) → (s : Sensor) → RightStep active until (at s) (on_sensor active s)
    unfolding on_sensor
    sensor-right untold touch = ((on-time, kept, refl), silent-sends active until (at touch) touched tt (λ p h. untold p))
    sensor-right untold timeout = ((on-time, kept, refl), alive-sends active until (at timeout) on-time kept (λ p h. untold p))
    sensor-right untold (error n) = ((on-time, kept, refl), silent-sends active until (at (error n)) (failed n) tt (λ p h. untold p))

    -- something did
    busy-right : (from : Place) → ((p : Place) → From p a → from ≡ p) → From from a → Other from active → (s : Sensor) → RightStep active until (at s) (before (busy from) (on_sensor active s))
    unfolding on_sensor
    busy-right from only came other touch = ((on-time, kept, refl), busy-sends active until (at touch) on-time kept from only came other touched tt)
    busy-right from only came other timeout = ((on-time, kept, refl), both_send active until (at timeout) on-time kept from only came other)
    busy-right from only came other (error n) = ((on-time, kept, refl), busy-sends active until (at (error n)) on-time kept from only came other (failed n) tt)

-- a packet
module _ (active : Place) (until time i : ℕ) (p : List ℕ) (s : Sensor) (on-time : time < until) where
  abbrev arrived : Arrival
  arrived = packet i p

  abbrev moment : Moment
  moment = record { time = time; arrival = arrived; sensor = s }

  abbrev S : Type 0
  S = RightStep active until moment (on_packet active i (read p) s)

  own : i ≡ active.interface → on p ≡ active.channel → Dec (byte p 4 ≡ 0x91) → S
  unfolding on_packet is_same pick
  own j c (yes b) =
      simp (on_read p, eq-eqb i active.interface j, eq-eqb (on p) active.channel c, cancel-is p b)
      ((on-time, (j, c, b)), silent-sends active until moment cancelled tt (λ q h f o. o (sym f.0 ∙ j) (sym f.1 ∙ c)))
  own j c (no b) =
      simp (on_read p, eq-eqb i active.interface j, eq-eqb (on p) active.channel c, cancel-not p b)
      (sensor-right active until time arrived on-time (λ k. b k.2) (λ q f o. o (sym f.0 ∙ j) (sym f.1 ∙ c)) s)

  foreign : Other (place i (on p)) active → S
  unfolding on_packet is_same pick
  foreign n = by-interface (ℕ_discrete i active.interface)
    where
      told : RightStep active until moment (before (busy (place i (on p))) (on_sensor active s))
      told = busy-right active until time arrived on-time (λ k. n k.0 k.1) (place i (on p)) (λ q f. λ k. place (f.0 k) (f.1 k)) (refl, refl) n s

      by-interface : Dec (i ≡ active.interface) → S
      by-interface (yes j) = simp (on_read p, eq-eqb i active.interface j, ne_eqb (on p) active.channel (n j)) told
      by-interface (no j) = simp (on_read p, ne_eqb i active.interface j) told

  packet-right : Dec (i ≡ active.interface) → Dec (on p ≡ active.channel) → S
  packet-right (yes j) (yes c) = own j c (ℕ_discrete (byte p 4) 0x91)
  packet-right (yes j) (no c) = foreign (λ k. c)
  packet-right (no j) c = foreign (λ k. absurd (j k))

arrival-right : (active : Place) (until time : ℕ) (a : Arrival) (s : Sensor) → time < until → RightStep active until (record { time = time; arrival = a; sensor = s }) (on_arrival active a s)
unfolding on_arrival
arrival-right active until time none s h = sensor-right active until time none h (λ k. k) (λ p f o. f) s
arrival-right active until time (packet i p) s h =
    packet-right active until time i p s h (ℕ_discrete i active.interface) (ℕ_discrete (on p) active.channel)

pub step_right : (w : Wait) (m : Moment) → RightStep w.active w.until m (touch_step w m)
unfolding touch_step pick
step_right w m = by-time (dec_le w.until m.time)
  where
    by-time : Dec (w.until ≤ m.time) → RightStep w.active w.until m (touch_step w m)
    by-time (yes h) = simp (le-leb w.until m.time h) (h, silent-sends w.active w.until m timed_out tt (λ p k. absurd (omega arith)))
    by-time (no h) = simp (lt-leb w.until m.time (omega arith)) (arrival-right w.active w.until m.time m.arrival m.sensor (omega arith))

-- ---- a whole wait
pub followed : (e : Ending) (A : List Response → Type 0) (rs : List Response) → A rs → Then e (A (going_on e rs)) (going_on e rs)
followed not_yet A rs a = a
followed touched A rs a = refl
followed cancelled A rs a = refl
followed timed_out A rs a = refl
followed (failed n) A rs a = refl

wait-right : (w : Wait) (ms : List Moment) → Right w.active w.until ms (waited standard_wait w ms)
wait-right w [] = refl
wait-right w (m ∷ ms) =
    let s = step_right w m in
    (s.0, s.1, followed (touch_step w m).ending (Right w.active w.until ms) (waited standard_wait w ms) (wait-right w ms))

pub waits : Waits standard_wait
waits active start limit ms h taken = wait-right (begun active start limit) ms
