-- Demand 3: what is asked of a device, whatever it is made of. Numbers are bare here, so that they can't shift with the device's. Assumes nothing.
use Rattle.std.specs.Prelude.{ℕ, ◌+◌, ◌-◌, ◌*◌, ◌≤◌, ◌<◌, ◌≡◌, List, [], ◌∷◌, Bool, true, false, ◌⊎◌, length}
use Rattle.ctaphid.specs.Choice.{is_in}
use Rattle.ctaphid.specs.Packets.{byte, Bytes}
use Rattle.ctaphid.specs.Messages.{wire}
use Rattle.ctaphid.specs.Commands.{MSG, CBOR, PING, ERROR, WINK, LOCK, VENDOR}
use Rattle.ctaphid.specs.Settings.{Settings}
use Rattle.ctaphid.specs.Receiver.{is_on}
use Rattle.ctaphid.specs.Transport.{Transport, Event, Answer, nothing, reply, request, Next, fresh, is_allocated, is_locked_by, step}

-- a device: its states, set-up, what a packet does, and two questions: whether a transaction of a channel is on at a time, and whether its lock runs
pub record AnyDevice : Type 1 where
  pub State : Type 0
  pub set_up : Settings → State
  pub step : State → Event → Next State
  pub is_on : State → (channel time : ℕ) → Bool
  pub is_locked_by : State → (channel time : ℕ) → Bool

-- the standard's transport, checks 1 to 7
abbrev pub standard : AnyDevice
standard =
    record {
      State = Transport;
      set_up = fresh;
      step = step;
      is_on = λ d c time. is_on d.receiver c time;
      is_locked_by = λ d c time. is_locked_by d.lock c time;
    }

-- settings that set-up doesn't refuse: a maximum up to 7,609, and no number on the list but the vendor's
pub record Permitted (set : Settings) : Type 0 where
  pub most : set.maximum ≤ 7609
  pub vendor : (n : ℕ) → is_in n set.vendor ≡ true → (64 ≤ n) × (n ≤ 127)

-- ---- histories: the events since set-up, the latest first

-- a call that no refusal meets but by its time's going back: 64 bytes, and a time below 2^48
pub record Proper (e : Event) : Type 0 where
  pub size : length e.packet ≡ 64
  pub bytes : Bytes e.packet
  pub early : e.time ≤ 0xffff_ffff_ffff

-- the time of the latest event
abbrev pub latest : List Event → ℕ
latest [] = 0
latest (e ∷ past) = e.time

-- no call was refused: each is proper, and times don't go back
abbrev pub Taken : List Event → Type 0
Taken [] = Unit {0}
Taken (e ∷ past) = Proper e × (latest past ≤ e.time) × Taken past

-- the state after a history, and how the device answers an event then
abbrev pub after : (D : AnyDevice) → Settings → List Event → D.State
after D set [] = D.set_up set
after D set (e ∷ past) = (D.step (after D set past) e).state

abbrev pub answer : (D : AnyDevice) → Settings → List Event → Event → Answer
answer D set past e = (D.step (after D set past) e).answer

-- ---- packets as bytes: the channel, and whether it is a first packet
abbrev pub on : Event → ℕ
on e = byte e.packet 0 * 0x100_0000 + byte e.packet 1 * 0x1_0000 + byte e.packet 2 * 0x100 + byte e.packet 3

abbrev pub First : Event → Type 0
First e = 0x80 ≤ byte e.packet 4

-- ---- delivery

-- by the standard's rules, after this history and at this time: channel c is allocated, no transaction is live, and no other channel's lock runs
pub record Open (set : Settings) (past : List Event) (time c : ℕ) : Type 0 where
  pub allocated : is_allocated (after standard set past).allocated c ≡ true
  pub quiet : (o : ℕ) → standard.is_on (after standard set past) o time ≡ false
  pub unlocked : (o : ℕ) → (o ≡ c → ⊥) → standard.is_locked_by (after standard set past) o time ≡ false

-- the events are these packets of channel c, in their order, enabled, the last of them last, and any packets of other channels before each. The first
-- arrives before the deadline, and each other one less than 100 ms after the one before it. Times don't go back
abbrev pub Sent : (channel deadline now : ℕ) → List (List ℕ) → List Event → Type 0
Sent c deadline now ps [] = ps ≡ []
Sent c deadline now [] (e ∷ rest) = ⊥
Sent c deadline now (p ∷ ps) (e ∷ rest) =
    Proper e
    × (now ≤ e.time)
    × (((e.packet ≡ p) × (e.disabled ≡ false) × (e.time < deadline) × Sent c (e.time + 100) e.time ps rest)
    ⊎ ((on e ≡ c → ⊥) × Sent c deadline e.time (p ∷ ps) rest))

-- a host sends a message on channel c, beginning with the event e
pub record Sending (past : List Event) (c cmd : ℕ) (payload : List ℕ) (e : Event) (rest : List Event) : Type 0 where
  pub proper : Proper e
  pub onward : latest past ≤ e.time
  pub enabled : e.disabled ≡ false
  pub following : List (List ℕ)
  pub cut : wire c cmd payload ≡ e.packet ∷ following
  pub followed : Sent c (e.time + 100) e.time following rest

-- the messages that are handed out, and how. A PING is given back for its echo
pub data Message : Type 0 where
  aPing : Message
  aMsg : Message
  aWink : Message
  aCbor : Message
  aVendor : (number : ℕ) → Message

abbrev pub number_of : Message → ℕ
number_of aPing = 1
number_of aMsg = 3
number_of aWink = 8
number_of aCbor = 16
number_of (aVendor n) = n

abbrev pub handed_out : Message → (channel : ℕ) → List ℕ → Answer
handed_out aPing c payload = reply c PING payload
handed_out aMsg c payload = request c MSG payload
handed_out aWink c payload = request c WINK payload
handed_out aCbor c payload = request c CBOR payload
handed_out (aVendor n) c payload = request c (VENDOR n) payload

-- a vendor message is asked of a device only if its number is on the list
abbrev pub Allowed : Settings → Message → Type 0
Allowed set aPing = Unit {0}
Allowed set aMsg = Unit {0}
Allowed set aWink = Unit {0}
Allowed set aCbor = Unit {0}
Allowed set (aVendor n) = is_in n set.vendor ≡ true

-- an answer that hands a message out
abbrev pub HandsOut : Answer → Type 0
HandsOut nothing = ⊥
HandsOut (reply c cmd payload) = cmd ≡ PING
HandsOut (request c cmd payload) = Unit {0}

-- a packet of channel c is answered by nothing, and one of another channel hands nothing out
pub record Hushed (c : ℕ) (e : Event) (a : Answer) : Type 0 where
  pub own : on e ≡ c → a ≡ nothing
  pub other : (on e ≡ c → ⊥) → HandsOut a → ⊥

-- from a state on, the last event is answered so, and those before it are hushed
abbrev pub Ends : (D : AnyDevice) → D.State → (channel : ℕ) → Answer → List Event → Type 0
Ends D s c a [] = ⊥
Ends D s c a (e ∷ []) = (D.step s e).answer ≡ a
Ends D s c a (e ∷ (f ∷ rest)) = Hushed c e (D.step s e).answer × Ends D (D.step s e).state c a (f ∷ rest)

-- 'Delivery': exactly that message is handed out, at its last packet and not before, whatever packets come on other channels in between
abbrev pub Delivery : AnyDevice → Type 0
Delivery D =
    (set : Settings) → Permitted set → (past : List Event) → Taken past → (c : ℕ) (m : Message) → Allowed set m → (payload : List ℕ) → length payload ≤ set.maximum
    → (e : Event) (rest : List Event) → Open set past e.time c → Sending past c (number_of m) payload e rest
    → Ends D (after D set past) c (handed_out m c payload) (e ∷ rest)

-- ---- no one is shut out for long

-- the latest first packet that the device answered by nothing: by it the transaction began that is on
abbrev pub Begun : AnyDevice → Settings → List Event → (first : Event) → Type 0
Begun D set [] first = ⊥
Begun D set (e ∷ past) first =
    (First e × (answer D set past e ≡ nothing) × (e ≡ first))
    ⊎ ((First e → answer D set past e ≡ nothing → ⊥) × Begun D set past first)

-- it is channel c's, and began less than `bound` ms ago
pub record Since (bound : ℕ) (D : AnyDevice) (set : Settings) (c : ℕ) (past : List Event) (time : ℕ) : Type 0 where
  pub first : Event
  pub begun : Begun D set past first
  pub channel : on first ≡ c
  pub within : time < first.time + bound

abbrev pub TransactionsEndWithin : (bound : ℕ) → AnyDevice → Type 0
TransactionsEndWithin bound D =
    (set : Settings) → Permitted set → (past : List Event) → Taken past → (time : ℕ) → latest past ≤ time
    → (c : ℕ) → D.is_on (after D set past) c time ≡ true → Since bound D set c past time

-- 'No transaction shuts others out beyond 12,800 ms'
abbrev pub TransactionsEnd : AnyDevice → Type 0
TransactionsEnd D = TransactionsEndWithin 12800 D

-- the packet is a LOCK of channel c for k seconds: command 4, declared length 1
pub record AsksLock (c k : ℕ) (e : Event) : Type 0 where
  pub channel : on e ≡ c
  pub command : byte e.packet 4 ≡ 0x84
  pub high : byte e.packet 5 ≡ 0
  pub low : byte e.packet 6 ≡ 1
  pub seconds : byte e.packet 7 ≡ k

-- the last LOCK of channel c that the device accepted came at t1 and named k seconds
abbrev pub Locked : AnyDevice → Settings → (channel : ℕ) → List Event → (k t1 : ℕ) → Type 0
Locked D set c [] k t1 = ⊥
Locked D set c (e ∷ past) k t1 =
    (AsksLock c k e × (answer D set past e ≡ reply c LOCK []) × (e.time ≡ t1))
    ⊎ ((answer D set past e ≡ reply c LOCK [] → ⊥) × Locked D set c past k t1)

pub record Holding (D : AnyDevice) (set : Settings) (c : ℕ) (past : List Event) (time : ℕ) : Type 0 where
  pub seconds : ℕ
  pub start : ℕ
  pub locked : Locked D set c past seconds start
  pub some : 1 ≤ seconds
  pub most : seconds ≤ 10
  pub within : time < start + 1000 * seconds

-- 'No lock beyond its seconds'
abbrev pub LocksEnd : AnyDevice → Type 0
LocksEnd D =
    (set : Settings) → Permitted set → (past : List Event) → Taken past → (time : ℕ) → latest past ≤ time
    → (c : ℕ) → D.is_locked_by (after D set past) c time ≡ true → Holding D set c past time

-- ---- who is turned away

-- ChannelBusy, on the packet's channel
abbrev pub busy_on : ℕ → Answer
busy_on c = reply c ERROR (6 ∷ [])

-- the questions tell the truth: an enabled packet is told that the device is busy only while another channel's transaction is on or its lock runs
pub record Against (D : AnyDevice) (s : D.State) (c time : ℕ) : Type 0 where
  pub holder : ℕ
  pub another : holder ≡ c → ⊥
  pub holds : (D.is_on s holder time ≡ true) ⊎ (D.is_locked_by s holder time ≡ true)

abbrev pub Honest : AnyDevice → Type 0
Honest D =
    (set : Settings) → Permitted set → (past : List Event) (e : Event) → Taken (e ∷ past) → e.disabled ≡ false
    → answer D set past e ≡ busy_on (on e) → Against D (after D set past) (on e) e.time

-- what the three say together, with no question asked: who is turned away is turned away by another channel's transaction that began less than 12,800 ms
-- ago, or by its lock within the seconds that its last accepted LOCK named
pub record HeldBy (D : AnyDevice) (set : Settings) (past : List Event) (c time : ℕ) : Type 0 where
  pub holder : ℕ
  pub another : holder ≡ c → ⊥
  pub holds : Since 12800 D set holder past time ⊎ Holding D set holder past time

abbrev pub NoneShutOut : AnyDevice → Type 0
NoneShutOut D =
    (set : Settings) → Permitted set → (past : List Event) (e : Event) → Taken (e ∷ past) → e.disabled ≡ false
    → answer D set past e ≡ busy_on (on e) → HeldBy D set past (on e) e.time

-- ---- what an unknown command brings about

-- a first packet's command is PING, MSG, LOCK, INIT, WINK, CBOR or CANCEL, or a vendor command on the list
abbrev pub IsKnown : Settings → Event → Type 0
IsKnown set e = is_in (byte e.packet 4 - 0x80) (1 ∷ 3 ∷ 4 ∷ 6 ∷ 8 ∷ 16 ∷ 17 ∷ set.vendor) ≡ true

-- it is told so at its first packet, whatever else is: no other command gets nothing there (DIFFERENCES 21)
abbrev pub UnknownToldAtOnce : AnyDevice → Type 0
UnknownToldAtOnce D =
    (set : Settings) → Permitted set → (past : List Event) (e : Event) → Taken (e ∷ past) → First e → answer D set past e ≡ nothing → IsKnown set e

-- and so it never makes another channel busy: `NoneShutOut`, and the transaction that turns someone away began with a known command
pub record HeldByKnown (D : AnyDevice) (set : Settings) (past : List Event) (c time : ℕ) : Type 0 where
  pub held : HeldBy D set past c time
  pub known : (first : Event) → Begun D set past first → IsKnown set first

abbrev pub NoneShutOutByUnknown : AnyDevice → Type 0
NoneShutOutByUnknown D =
    (set : Settings) → Permitted set → (past : List Event) (e : Event) → Taken (e ∷ past) → e.disabled ≡ false
    → answer D set past e ≡ busy_on (on e) → HeldByKnown D set past (on e) e.time

-- ---- demand 3, all of it
pub record GivesShare (D : AnyDevice) : Type 0 where
  pub delivery : Delivery D
  pub transactions : TransactionsEnd D
  pub locks : LocksEnd D
  pub shut_out : NoneShutOut D

-- ---- how the demands are carried to another device

-- it answers as the standard's transport does, whenever no call is refused
abbrev pub Agrees : AnyDevice → Type 0
Agrees D =
    (set : Settings) → Permitted set → (past : List Event) (e : Event) → Taken (e ∷ past) → answer D set past e ≡ answer standard set past e

-- and answers its two questions as the standard's transport does, at any time that isn't past
abbrev pub AnswersAlike : AnyDevice → Type 0
AnswersAlike D =
    (set : Settings) → Permitted set → (past : List Event) → Taken past → (c time : ℕ) → latest past ≤ time
    → (D.is_on (after D set past) c time ≡ standard.is_on (after standard set past) c time)
    × (D.is_locked_by (after D set past) c time ≡ standard.is_locked_by (after standard set past) c time)
