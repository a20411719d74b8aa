-- What is asked of a wait for a touch, whatever it is made of. Numbers are bare here, so that they can't shift with the definition's. Assumes nothing.
use Rattle.std.specs.Prelude.{ℕ, ◌+◌, ◌*◌, ◌≤◌, ◌<◌, ◌≡◌, List, [], ◌∷◌, length, eqb}
use Rattle.ctaphid.specs.Choice.{pick}
use Rattle.ctaphid.specs.Packets.{byte}
use Rattle.ctaphid.specs.Commands.{ERROR, KEEPALIVE}
use Rattle.ctaphid.specs.Touch.{Place, Wait, begun, Arrival, none, packet, touch, timeout, error, Moment, Message, message, Ending, not_yet, touched, cancelled, timed_out, failed, Response, touch_step}

-- what a step leads to
pub record Reacted (S : Type 0) : Type 0 where
  pub state : S
  pub response : Response

-- a wait: its states, how it begins for a channel at a time with a limit, and a step
pub record AnyWait : Type 1 where
  pub State : Type 0
  pub begin : (active : Place) (start limit : ℕ) → State
  pub step : State → Moment → Reacted State

-- the definition's
abbrev pub standard_wait : AnyWait
standard_wait = record { State = Wait; begin = begun; step = λ w m. record { state = w; response = touch_step w m } }

-- the responses of a whole wait: up to the one that ends it
abbrev pub going_on : Ending → List Response → List Response
going_on not_yet rest = rest
going_on touched rest = []
going_on cancelled rest = []
going_on timed_out rest = []
going_on (failed number) rest = []

abbrev pub waited : (W : AnyWait) → W.State → List Moment → List Response
waited W s [] = []
waited W s (m ∷ rest) = (W.step s m).response ∷ going_on (W.step s m).response.ending (waited W (W.step s m).state rest)

-- ---- what comes

-- the channel that a packet names, in its first four bytes
abbrev pub on : List ℕ → ℕ
on p = byte p 0 * 0x100_0000 + byte p 1 * 0x1_0000 + byte p 2 * 0x100 + byte p 3

-- a packet came from this channel of this interface
abbrev pub From : Place → Arrival → Type 0
From p none = ⊥
From p (packet i bytes) = (i ≡ p.interface) × (on bytes ≡ p.channel)

-- and is CANCEL: 91 in its byte 4, whatever length it declares
abbrev pub Cancels : Place → Arrival → Type 0
Cancels p none = ⊥
Cancels p (packet i bytes) = (i ≡ p.interface) × (on bytes ≡ p.channel) × (byte bytes 4 ≡ 0x91)

-- a packet that came has 64 bytes
abbrev pub Whole : Arrival → Type 0
Whole none = Unit {0}
Whole (packet i bytes) = length bytes ≡ 64

-- no step is refused: packets are whole, and times are below 2^48 and don't go back
abbrev pub Taken : (last : ℕ) → List Moment → Type 0
Taken last [] = Unit {0}
Taken last (m ∷ rest) = (last ≤ m.time) × (m.time ≤ 0xffff_ffff_ffff) × Whole m.arrival × Taken m.time rest

-- ---- when it ends: each ending has one reason, and one of them is there at every step

abbrev pub Reason : (active : Place) → (until : ℕ) → Moment → Ending → Type 0
Reason active until m timed_out = until ≤ m.time
Reason active until m cancelled = (m.time < until) × Cancels active m.arrival
Reason active until m touched = (m.time < until) × (Cancels active m.arrival → ⊥) × (m.sensor ≡ touch)
Reason active until m (failed number) = (m.time < until) × (Cancels active m.arrival → ⊥) × (m.sensor ≡ error number)
Reason active until m not_yet = (m.time < until) × (Cancels active m.arrival → ⊥) × (m.sensor ≡ timeout)

-- ---- what is sent

abbrev pub Other : Place → Place → Type 0
Other p q = p.interface ≡ q.interface → p.channel ≡ q.channel → ⊥

-- those of these messages that go to this channel of this interface
unfoldable pub sent_to : Place → List Message → List Message
sent_to p [] = []
sent_to p (m ∷ rest) =
    pick (eqb m.to.interface p.interface)
    (pick (eqb m.to.channel p.channel) (m ∷ sent_to p rest) (sent_to p rest))
    (sent_to p rest)

pub record Sends (active : Place) (until : ℕ) (m : Moment) (r : Response) : Type 0 where
  -- where the limit has elapsed nothing is sent, nor is at a CANCEL
  pub over : until ≤ m.time → r.sent ≡ []
  pub cancel : Cancels active m.arrival → r.sent ≡ []
  -- a packet of another channel or interface gets exactly one ChannelBusy, there
  pub told : (p : Place) → m.time < until → From p m.arrival → Other p active → sent_to p r.sent ≡ message p ERROR (6 ∷ []) ∷ []
  -- and no further channel is sent anything
  pub others : (p : Place) → (From p m.arrival → ⊥) → Other p active → sent_to p r.sent ≡ []
  -- on the active channel a KEEPALIVE with 2 goes out where the sensor timed out and the wait goes on, and nothing else ever does
  pub alive : r.ending ≡ not_yet → sent_to active r.sent ≡ message active KEEPALIVE (2 ∷ []) ∷ []
  pub quiet : (r.ending ≡ not_yet → ⊥) → sent_to active r.sent ≡ []
  -- the busy error is sent before it
  pub first : (p : Place) → From p m.arrival → Other p active → r.ending ≡ not_yet
      → r.sent ≡ message p ERROR (6 ∷ []) ∷ message active KEEPALIVE (2 ∷ []) ∷ []

-- ---- a whole wait

-- where a step doesn't end it, the rest is asked this; where it does, there is no rest
abbrev pub Then : Ending → Type 0 → List Response → Type 0
Then not_yet asked rest = asked
Then touched asked rest = rest ≡ []
Then cancelled asked rest = rest ≡ []
Then timed_out asked rest = rest ≡ []
Then (failed number) asked rest = rest ≡ []

-- each step up to the first that ends it, and that one, has its reason and sends what it must
abbrev pub Right : (active : Place) → (until : ℕ) → List Moment → List Response → Type 0
Right active until [] rs = rs ≡ []
Right active until (m ∷ ms) [] = ⊥
Right active until (m ∷ ms) (r ∷ rs) =
    Reason active until m r.ending × Sends active until m r × Then r.ending (Right active until ms rs) rs

-- 'Waits': whatever channel waits, whenever and with whatever limit, and whatever comes
abbrev pub Waits : AnyWait → Type 0
Waits W =
    (active : Place) (start limit : ℕ) (ms : List Moment) → start ≤ 0xffff_ffff_ffff → Taken start ms
    → Right active (start + limit) ms (waited W (W.begin active start limit) ms)
