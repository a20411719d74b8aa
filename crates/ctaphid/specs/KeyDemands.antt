-- What is asked of a key with two interfaces, whatever it is made of: C-17. Numbers are bare here, so that they can't shift with the key's. Assumes nothing.
use Rattle.std.specs.Prelude.{ℕ, ◌+◌, ◌*◌, ◌≤◌, ◌<◌, ◌≡◌, List, [], ◌∷◌, Bool, true, false, ◌⊎◌, length, eqb}
use Rattle.ctaphid.specs.Choice.{pick}
use Rattle.ctaphid.specs.Messages.{wire}
use Rattle.ctaphid.specs.Commands.{Command, MSG, ERROR, WINK, LOCK, number}
use Rattle.ctaphid.specs.Receiver.{is_on}
use Rattle.ctaphid.specs.Transport.{Event, Answer, nothing, reply, request, Next, is_allocated, is_locked_by}
use Rattle.ctaphid.specs.Device.{Device, set_up, device_step, is_winking}
use Rattle.ctaphid.specs.Interfaces.{Interface, main, vendor, other, the, KeySettings, settings_on, Arrival, Both, side, fresh_both, is_hindered, seen_as, both_step, Key, key_set_up, main_of, key_step}
use Rattle.ctaphid.specs.Demands.{AnyDevice, standard, Permitted, Proper, after, answer, on, First, Message, number_of, handed_out, Allowed, Hushed, AsksLock, busy_on, IsKnown}

-- a key: its states, set-up, what an arrival does, and three questions: whether a transaction of an interface's channel is on at a time, whether its lock runs, and
-- whether a wink does
pub record AnyKey : Type 1 where
  pub State : Type 0
  pub set_up : KeySettings → State
  pub step : State → Arrival → Next State
  pub is_on : State → Interface → (channel time : ℕ) → Bool
  pub is_locked_by : State → Interface → (channel time : ℕ) → Bool
  pub is_winking : State → (time : ℕ) → Bool

-- the standard's two transports, checks 1 to 7: nothing winks there
abbrev pub standard_both : AnyKey
standard_both =
    record {
      State = Both;
      set_up = fresh_both;
      step = both_step;
      is_on = λ b i c time. is_on (side b i).receiver c time;
      is_locked_by = λ b i c time. is_locked_by (side b i).lock c time;
      is_winking = λ b time. false;
    }

-- the standard's key, checks 1 to 8
abbrev pub standard_key : AnyKey
standard_key =
    record {
      State = Key;
      set_up = key_set_up;
      step = key_step;
      is_on = λ k i c time. is_on (side k.transports i).receiver c time;
      is_locked_by = λ k i c time. is_locked_by (side k.transports i).lock c time;
      is_winking = λ k time. is_winking (main_of k) time;
    }

-- settings that set-up doesn't refuse
abbrev pub KeyPermitted : KeySettings → Type 0
KeyPermitted set = (i : Interface) → Permitted (settings_on set i)

-- ---- histories: the arrivals since set-up, the latest first, on either interface

-- an arrival by itself: the event that it is with nothing against it
abbrev pub bare : Arrival → Event
bare a = record { time = a.time; disabled = false; packet = a.packet }

abbrev pub latest_of : List Arrival → ℕ
latest_of [] = 0
latest_of (a ∷ past) = a.time

-- no call was refused: each is proper, and times don't go back, whatever the interface
abbrev pub TakenBy : List Arrival → Type 0
TakenBy [] = Unit {0}
TakenBy (a ∷ past) = Proper (bare a) × (latest_of past ≤ a.time) × TakenBy past

-- the state after a history, and how the key answers an arrival then
abbrev pub after_by : (D : AnyKey) → KeySettings → List Arrival → D.State
after_by D set [] = D.set_up set
after_by D set (a ∷ past) = (D.step (after_by D set past) a).state

abbrev pub answer_by : (D : AnyKey) → KeySettings → List Arrival → Arrival → Answer
answer_by D set past a = (D.step (after_by D set past) a).answer

-- what an interface sees of a history: its own arrivals, each as it was then by the standard's rules
abbrev pub only : {A : Type 0} → (arrived seen : Interface) → A → List A → List A
only main main e l = e ∷ l
only main vendor e l = l
only vendor main e l = l
only vendor vendor e l = e ∷ l

abbrev pub seen : Interface → KeySettings → List Arrival → List Event
seen i set [] = []
seen i set (a ∷ past) = only a.interface i (seen_as (after_by standard_both set past) a) (seen i set past)

-- ---- check 8, as a table: what becomes of an answer behind checks 1 to 7

abbrev pub Behind : Type 0
Behind = Interface → (u2f : Bool) → Answer → Answer

-- nothing is behind them
abbrev pub unchecked : Behind
unchecked i u2f a = a

-- WINK, 8: on main echoed if it is empty, else InvalidLen; on vendor InvalidCmd. MSG, 3, without U2F: InvalidCmd. All else stays
unfoldable pub checked_request : Interface → (u2f : Bool) → (channel : ℕ) → Command → List ℕ → Answer
checked_request i u2f c cmd payload =
    pick (eqb (number cmd) 8)
    (the i (pick (eqb (length payload) 0) (reply c WINK []) (reply c ERROR (3 ∷ []))) (reply c ERROR (1 ∷ [])))
    (pick (eqb (number cmd) 3) (pick u2f (request c MSG payload) (reply c ERROR (1 ∷ []))) (request c cmd payload))

abbrev pub checked : Behind
checked i u2f nothing = nothing
checked i u2f (reply c cmd payload) = reply c cmd payload
checked i u2f (request c cmd payload) = checked_request i u2f c cmd payload

-- ---- equality, for each interface

-- it answers as the single transport does on what this interface saw, with what is behind that
abbrev pub SidesAgree : Behind → AnyKey → Type 0
SidesAgree f D =
    (set : KeySettings) → KeyPermitted set → (past : List Arrival) (a : Arrival) → TakenBy (a ∷ past)
    → answer_by D set past a
    ≡ f a.interface set.u2f (answer standard (settings_on set a.interface) (seen a.interface set past) (seen_as (after_by standard_both set past) a))

-- the standard's device with one interface, checks 1 to 8
abbrev pub single : AnyDevice
single =
    record {
      State = Device;
      set_up = set_up;
      step = device_step;
      is_on = λ o c time. is_on o.transport.receiver c time;
      is_locked_by = λ o c time. is_locked_by o.transport.lock c time;
    }

-- main answers and winks as that device does on what main saw: so nothing on vendor starts, ends or keeps a wink
pub record MainIsDevice (D : AnyKey) : Type 0 where
  pub answers : (set : KeySettings) → KeyPermitted set → (past : List Arrival) (a : Arrival) → TakenBy (a ∷ past) → a.interface ≡ main
      → answer_by D set past a ≡ answer single (settings_on set main) (seen main set past) (seen_as (after_by standard_both set past) a)
  pub winks : (set : KeySettings) → KeyPermitted set → (past : List Arrival) → TakenBy past → (time : ℕ) → latest_of past ≤ time
      → D.is_winking (after_by D set past) time ≡ is_winking (after single (settings_on set main) (seen main set past)) time

-- ---- never two locks

abbrev pub NeverTwoLocks : AnyKey → Type 0
NeverTwoLocks D =
    (set : KeySettings) → KeyPermitted set → (past : List Arrival) → TakenBy past → (time : ℕ) → latest_of past ≤ time → (c o : ℕ)
    → D.is_locked_by (after_by D set past) main c time ≡ true → D.is_locked_by (after_by D set past) vendor o time ≡ true → ⊥

-- ---- delivery

-- by the standard's rules, after this history and at this time: on this interface channel c is allocated, no transaction is live, and no other channel's lock runs
pub record OpenOn (i : Interface) (set : KeySettings) (past : List Arrival) (time c : ℕ) : Type 0 where
  pub allocated : is_allocated (side (after_by standard_both set past) i).allocated c ≡ true
  pub quiet : (o : ℕ) → standard_both.is_on (after_by standard_both set past) i o time ≡ false
  pub unlocked : (o : ℕ) → (o ≡ c → ⊥) → standard_both.is_locked_by (after_by standard_both set past) i o time ≡ false

-- as Demands.Sent: these packets on channel c of this interface, in their order and each in time, and any others before each: of other channels, and of the other
-- interface, of which channel c is another
abbrev pub SentOn : Interface → (channel deadline now : ℕ) → List (List ℕ) → List Arrival → Type 0
SentOn i c deadline now ps [] = ps ≡ []
SentOn i c deadline now [] (a ∷ rest) = ⊥
SentOn i c deadline now (p ∷ ps) (a ∷ rest) =
    Proper (bare a)
    × (now ≤ a.time)
    × (((a.interface ≡ i) × (a.packet ≡ p) × (a.time < deadline) × SentOn i c (a.time + 100) a.time ps rest)
    ⊎ ((a.interface ≡ i → on (bare a) ≡ c → ⊥) × SentOn i c deadline a.time (p ∷ ps) rest))

-- a host sends a message on channel c of this interface, beginning with the arrival a
pub record SendingOn (i : Interface) (past : List Arrival) (c cmd : ℕ) (payload : List ℕ) (a : Arrival) (rest : List Arrival) : Type 0 where
  pub interface : a.interface ≡ i
  pub proper : Proper (bare a)
  pub onward : latest_of past ≤ a.time
  pub following : List (List ℕ)
  pub cut : wire c cmd payload ≡ a.packet ∷ following
  pub followed : SentOn i c (a.time + 100) a.time following rest

-- the further premise: by the standard's rules no lock of the other interface runs whenever something arrives on this one
abbrev pub Unhindered : Interface → Both → List Arrival → Type 0
Unhindered i b [] = Unit {0}
Unhindered i b (a ∷ rest) = (a.interface ≡ i → is_hindered b i a.time ≡ false) × Unhindered i (both_step b a).state rest

-- from a state on, the last arrival is answered so, and those before it on this interface are hushed. What the other interface is answered is its own affair
abbrev pub EndsOn : (D : AnyKey) → D.State → Interface → (channel : ℕ) → Answer → List Arrival → Type 0
EndsOn D s i c x [] = ⊥
EndsOn D s i c x (a ∷ []) = (D.step s a).answer ≡ x
EndsOn D s i c x (a ∷ (f ∷ rest)) = (a.interface ≡ i → Hushed c (bare a) (D.step s a).answer) × EndsOn D (D.step s a).state i c x (f ∷ rest)

-- exactly that message, with what is behind checks 1 to 7, at its last packet and not before, whatever comes on other channels and on the other interface in between
abbrev pub DeliveryOnEach : Behind → AnyKey → Type 0
DeliveryOnEach f D =
    (set : KeySettings) → KeyPermitted set → (past : List Arrival) → TakenBy past → (i : Interface) (c : ℕ) (m : Message) → Allowed (settings_on set i) m → (payload : List ℕ)
    → length payload ≤ (settings_on set i).maximum → (a : Arrival) (rest : List Arrival) → OpenOn i set past a.time c
    → SendingOn i past c (number_of m) payload a rest → Unhindered i (after_by standard_both set past) (a ∷ rest)
    → EndsOn D (after_by D set past) i c (f i set.u2f (handed_out m c payload)) (a ∷ rest)

-- ---- no one is shut out for long

-- the latest first packet on this interface that the key answered by nothing
abbrev pub BegunOn : AnyKey → KeySettings → Interface → List Arrival → (first : Arrival) → Type 0
BegunOn D set i [] first = ⊥
BegunOn D set i (a ∷ past) first =
    ((a.interface ≡ i) × First (bare a) × (answer_by D set past a ≡ nothing) × (a ≡ first))
    ⊎ ((a.interface ≡ i → First (bare a) → answer_by D set past a ≡ nothing → ⊥) × BegunOn D set i past first)

-- it is channel c's, and began less than 12,800 ms ago
pub record SinceOn (D : AnyKey) (set : KeySettings) (i : Interface) (c : ℕ) (past : List Arrival) (time : ℕ) : Type 0 where
  pub first : Arrival
  pub begun : BegunOn D set i past first
  pub channel : on (bare first) ≡ c
  pub within : time < first.time + 12800

abbrev pub TransactionsEndOnEach : AnyKey → Type 0
TransactionsEndOnEach D =
    (set : KeySettings) → KeyPermitted set → (past : List Arrival) → TakenBy past → (time : ℕ) → latest_of past ≤ time → (i : Interface) (c : ℕ)
    → D.is_on (after_by D set past) i c time ≡ true → SinceOn D set i c past time

-- the last LOCK of channel c on this interface that the key accepted came at t1 and named k seconds
abbrev pub LockedOn : AnyKey → KeySettings → Interface → (channel : ℕ) → List Arrival → (k t1 : ℕ) → Type 0
LockedOn D set i c [] k t1 = ⊥
LockedOn D set i c (a ∷ past) k t1 =
    ((a.interface ≡ i) × AsksLock c k (bare a) × (answer_by D set past a ≡ reply c LOCK []) × (a.time ≡ t1))
    ⊎ ((a.interface ≡ i → answer_by D set past a ≡ reply c LOCK [] → ⊥) × LockedOn D set i c past k t1)

pub record HoldingOn (D : AnyKey) (set : KeySettings) (i : Interface) (c : ℕ) (past : List Arrival) (time : ℕ) : Type 0 where
  pub seconds : ℕ
  pub start : ℕ
  pub locked : LockedOn D set i c past seconds start
  pub some : 1 ≤ seconds
  pub most : seconds ≤ 10
  pub within : time < start + 1000 * seconds

abbrev pub LocksEndOnEach : AnyKey → Type 0
LocksEndOnEach D =
    (set : KeySettings) → KeyPermitted set → (past : List Arrival) → TakenBy past → (time : ℕ) → latest_of past ≤ time → (i : Interface) (c : ℕ)
    → D.is_locked_by (after_by D set past) i c time ≡ true → HoldingOn D set i c past time

-- ---- who is turned away

-- by another channel of the same interface: its transaction, or its lock
pub record HeldOn (D : AnyKey) (set : KeySettings) (i : Interface) (past : List Arrival) (c time : ℕ) : Type 0 where
  pub holder : ℕ
  pub another : holder ≡ c → ⊥
  pub holds : SinceOn D set i holder past time ⊎ HoldingOn D set i holder past time

-- or by a lock of the other interface, of any channel there
pub record HeldAcross (D : AnyKey) (set : KeySettings) (i : Interface) (past : List Arrival) (time : ℕ) : Type 0 where
  pub holder : ℕ
  pub holds : HoldingOn D set (other i) holder past time

abbrev pub NoneShutOutOnEach : AnyKey → Type 0
NoneShutOutOnEach D =
    (set : KeySettings) → KeyPermitted set → (past : List Arrival) (a : Arrival) → TakenBy (a ∷ past) → answer_by D set past a ≡ busy_on (on (bare a))
    → HeldOn D set a.interface past (on (bare a)) a.time ⊎ HeldAcross D set a.interface past a.time

-- a command that isn't known is told so at its first packet, on each (C-16)
abbrev pub UnknownToldOnEach : AnyKey → Type 0
UnknownToldOnEach D =
    (set : KeySettings) → KeyPermitted set → (past : List Arrival) (a : Arrival) → TakenBy (a ∷ past) → First (bare a) → answer_by D set past a ≡ nothing
    → IsKnown (settings_on set a.interface) (bare a)

-- ---- all of them
pub record SharesOut (f : Behind) (D : AnyKey) : Type 0 where
  pub agrees : SidesAgree f D
  pub locks : NeverTwoLocks D
  pub delivery : DeliveryOnEach f D
  pub transactions : TransactionsEndOnEach D
  pub lock_times : LocksEndOnEach D
  pub shut_out : NoneShutOutOnEach D
  pub unknown : UnknownToldOnEach D

-- ---- how they are carried to another key

-- it answers as the standard's key does, whenever no call is refused
abbrev pub KeyAgrees : AnyKey → Type 0
KeyAgrees D =
    (set : KeySettings) → KeyPermitted set → (past : List Arrival) (a : Arrival) → TakenBy (a ∷ past) → answer_by D set past a ≡ answer_by standard_key set past a

-- and answers its three questions as the standard's key does, at any time that isn't past
pub record AsksAlike (D : AnyKey) (set : KeySettings) (past : List Arrival) (time : ℕ) : Type 0 where
  pub on : (i : Interface) (c : ℕ) → D.is_on (after_by D set past) i c time ≡ standard_key.is_on (after_by standard_key set past) i c time
  pub locked : (i : Interface) (c : ℕ) → D.is_locked_by (after_by D set past) i c time ≡ standard_key.is_locked_by (after_by standard_key set past) i c time
  pub winking : D.is_winking (after_by D set past) time ≡ standard_key.is_winking (after_by standard_key set past) time

abbrev pub KeyAnswersAlike : AnyKey → Type 0
KeyAnswersAlike D =
    (set : KeySettings) → KeyPermitted set → (past : List Arrival) → TakenBy past → (time : ℕ) → latest_of past ≤ time → AsksAlike D set past time
