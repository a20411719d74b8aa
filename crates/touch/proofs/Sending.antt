-- What is sent, case by case. Assumes nothing.
use Prim.Native.Nat.{ℕ}
use mathlib.Core.Path.{◌≡◌, refl, sym, ap, ◌∙◌}
use mathlib.Core.List.{List, []}
use mathlib.Core.Bool.{Bool, true, false}
use borrow.Author.Tests.{eq-eqb, ne_eqb}
use lib.ListN.{length}
use Rattle.ctaphid.specs.Choice.{pick}
use Rattle.ctaphid.specs.Packets.{Packet, initialization, read}
use Rattle.ctaphid.specs.Receiver.{channel_of}
use Rattle.ctaphid.specs.Touch as standard
use Rattle.ctaphid.specs.Touch.{Place, place, is_same, Message, busy, keepalive, is_cancel, on_sensor, before, on_packet, on_arrival, Sensor}
use Rattle.packet.specs.Reading.{reading_of, heard, said, field_of}
use Rattle.packet.specs.declared.ProcessedPacket.{ProcessedPacket}
use Rattle.packet.specs.declared.ProcessedPacket.TheVariants.{InitPacket, ContinuationPacket}
use Rattle.packet.specs.declared.Reading.{Reading}
use Rattle.packet.specs.declared.Reading.TheVariants as reading
use Rattle.packet.proofs.Packets.{never-refused, packet-read}
use Rattle.touch.specs.declared.UserPresence.{UserPresence}
use Rattle.touch.specs.declared.UserPresence.TheVariants as presence
use Rattle.touch.specs.declared.RecvStatus.{RecvStatus}
use Rattle.touch.specs.declared.RecvStatus.TheVariants as received
use Rattle.touch.specs.declared.Sent.{Sent}
use Rattle.touch.specs.declared.Sent.TheVariants.{Nothing}
use Rattle.touch.specs.declared.Ending.TheVariants as ending
use Rattle.touch.specs.declared.Response.{Response}
use Rattle.touch.specs.Meaning.{arrival_meant, sensor_meant, sent_of, silent, response_of}
use Rattle.touch.specs.Waiting.{is_cut}
use Rattle.touch.proofs.Stepping.{whole-packet}

-- ---- the sensor's word
module _ (p : UserPresence) (active : Place) (o : Response) where
  pub sensor-touched : p ≡ presence.Touched → o ≡ silent ending.Touched → o ≡ response_of (on_sensor active (sensor_meant p))
  unfolding response_of on_sensor
  sensor-touched e k = simp e k

  pub sensor-failed : {number : ℕ} → p ≡ presence.Failed number → o ≡ silent (ending.Failed number) → o ≡ response_of (on_sensor active (sensor_meant p))
  unfolding response_of on_sensor
  sensor-failed e k = simp e k

pub sensor-timeout : (p : UserPresence) (active : Place) (k : Sent) → p ≡ presence.Timeout → k ≡ sent_of (keepalive active)
    → ◌≡◌ {A = Response} (record { first = k; second = Nothing; ending = ending.NotYet }) (response_of (on_sensor active (sensor_meant p)))
unfolding response_of on_sensor
sensor-timeout p active k e is = simp e (ap (λ (x : Sent). record { first = x; second = Nothing; ending = ending.NotYet }) is)

-- what goes out before
pub goes_before : (b : Sent) (m : Message) (r : Response) (s : standard.Response) → b ≡ sent_of m → r ≡ response_of s
    → ◌≡◌ {A = Response} (record { first = b; second = r.first; ending = r.ending }) (response_of (before m s))
unfolding response_of
goes_before b m r s is e = λ i. record { first = is i; second = (e i).first; ending = (e i).ending }

-- ---- CANCEL
pub cancel-first : (p : ProcessedPacket) {cid cmd len : ℕ} (r : Bool) → p ≡ InitPacket cid cmd len → r ≡ is_cancel (initialization cid cmd len []) → r ≡ is_cancel (heard p [])
cancel-first p r e k = k ∙ ap (λ (q : ProcessedPacket). is_cancel (heard q [])) (sym e)

pub cancel-later : (p : ProcessedPacket) {cid seq : ℕ} (r : Bool) → p ≡ ContinuationPacket cid seq → r ≡ false → r ≡ is_cancel (heard p [])
unfolding is_cancel
cancel-later p r e k = simp e k

-- ---- a packet: of another interface, of another channel, CANCEL, and any other
module _ (interface cid from : ℕ) (p : Packet) (s : Sensor) (o : Response) (c : ℕ) (on : c ≡ channel_of p) where
  pub other-interface : (from ≡ interface → ⊥) → o ≡ response_of (before (busy (place from c)) (on_sensor (place interface cid) s))
      → o ≡ response_of (on_packet (place interface cid) from p s)
  unfolding on_packet is_same pick
  other-interface n k =
      simp (ne_eqb from interface n) (k ∙ ap (λ (x : ℕ). response_of (before (busy (place from x)) (on_sensor (place interface cid) s))) on)

  module _ (i : from ≡ interface) where
    pub other-channel : (c ≡ cid → ⊥) → o ≡ response_of (before (busy (place from c)) (on_sensor (place interface cid) s))
        → o ≡ response_of (on_packet (place interface cid) from p s)
    unfolding on_packet is_same pick
    other-channel n k =
        simp (eq-eqb from interface i, ne_eqb (channel_of p) cid (λ e. n (on ∙ e))) (k ∙ ap (λ (x : ℕ). response_of (before (busy (place from x)) (on_sensor (place interface cid) s))) on)

    module _ (own : c ≡ cid) (b : Bool) (is : b ≡ is_cancel p) where
      pub own-cancel : b ≡ true → o ≡ silent ending.Canceled → o ≡ response_of (on_packet (place interface cid) from p s)
      unfolding on_packet is_same pick response_of
      own-cancel t k = simp (eq-eqb from interface i, eq-eqb (channel_of p) cid (sym on ∙ own), sym is ∙ t) k

      pub own-dropped : b ≡ false → o ≡ response_of (on_sensor (place interface cid) s) → o ≡ response_of (on_packet (place interface cid) from p s)
      unfolding on_packet is_same pick
      own-dropped t k = simp (eq-eqb from interface i, eq-eqb (channel_of p) cid (sym on ∙ own), sym is ∙ t) k

-- ---- its data field is not looked at
pub without-field : (active : Place) (from : ℕ) (p : ProcessedPacket) (field : List ℕ) (s : Sensor) → on_packet active from (heard p []) s ≡ on_packet active from (heard p field) s
unfolding on_packet is_cancel
without-field active from (InitPacket cid cmd len) field s = refl
without-field active from (ContinuationPacket cid seq) field s = refl

-- ---- what arrived
module _ (active : Place) (rx : RecvStatus) (bytes : List ℕ) (s : Sensor) (o : Response) where
  pub arrived-nothing : rx ≡ received.Timeout → o ≡ response_of (on_sensor active s) → o ≡ response_of (on_arrival active (arrival_meant rx bytes) s)
  unfolding on_arrival
  arrived-nothing e k = simp e k

  module _ (whole : is_cut rx (length bytes) ≡ false) {from : ℕ} (e : rx ≡ received.Received from) (x : Reading) (reads : said x (field_of (reading_of bytes)) ≡ reading_of bytes) where
    size : length bytes ≡ 64
    size = whole-packet rx (length bytes) whole e

    pub arrived-packet : (p : ProcessedPacket) → x ≡ reading.Packet p → o ≡ response_of (on_packet active from (heard p []) s) → o ≡ response_of (on_arrival active (arrival_meant rx bytes) s)
    unfolding on_arrival
    arrived-packet p is k =
        let same : heard p (field_of (reading_of bytes)) ≡ read bytes = packet-read bytes size x reads (field_of (reading_of bytes)) is refl in
        simp e (k ∙ ap response_of (without-field active from p (field_of (reading_of bytes)) s ∙ ap (λ (q : Packet). on_packet active from q s) same))

    pub arrived-never : {n : ℕ} → x ≡ reading.Refused n → o ≡ response_of (on_arrival active (arrival_meant rx bytes) s)
    arrived-never is = never-refused bytes size x reads is
