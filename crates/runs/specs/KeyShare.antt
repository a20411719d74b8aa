-- The code's key as one of which C-17's statements can be asked, whoever calls it and whatever refused calls are among the others. Assumes nothing.
use Rattle.std.specs.Prelude.{ℕ, ◌≤◌, ◌≡◌, List, [], ◌∷◌, ltb, length}
use Rattle.ctaphid.specs.Choice.{pick}
use Rattle.ctaphid.specs.Receiver.{is_on, still_due}
use Rattle.ctaphid.specs.Transport.{next, is_locked, is_locked_by}
use Rattle.ctaphid.specs.Device.{is_winking}
use Rattle.ctaphid.specs.Interfaces.{Interface, main, vendor, the, KeySettings, Arrival, arrival, side, main_of}
use Rattle.ctaphid.specs.KeyDemands.{AnyKey, standard_key, KeyPermitted, latest_of, TakenBy, after_by, answer_by, only, checked, SharesOut, MainIsDevice}
use Rattle.answers.specs.Answers.{answered}
use Rattle.hid.specs.declared.Running.TheVariants.{Yes, No}
use Rattle.hid.specs.Meaning.{transport_of}
use Rattle.key.specs.declared.Key.{Key}
use Rattle.key.specs.Questions.{key_running_of, key_winking_of}
use Rattle.key.specs.Stepping.{KeyStepping}
use Rattle.runs.specs.Steps.{Buffers, buffers}
use Rattle.runs.specs.Lending.{Lends}
use Rattle.runs.specs.Share.{answer_in}
use Rattle.runs.specs.Callers.{unless_first}
use Rattle.runs.specs.KeySteps.{key_from, hid_on, KeyCall, on_call, key_said_by, key_after, IsRefused}

-- what there is between two arrivals: the key, both buffers of each interface as its last call left them, and the arrivals so far, the latest first
pub record KeyHeld : Type 0 where
  pub key : Key
  pub main : Buffers
  pub vendor : Buffers
  pub past : List Arrival

abbrev pub left_on : KeyHeld → Interface → Buffers
left_on h i = the i h.main h.vendor

-- for an arrival: calls that come before it, and the buffers that are lent for it
pub record KeyCaller : Type 0 where
  pub before : KeyHeld → Arrival → List KeyCall
  pub lent : KeyHeld → Arrival → Buffers

abbrev pub call_for : KeyCaller → KeyHeld → Arrival → KeyStepping
call_for caller h a = on_call (key_after h.key (caller.before h a)) (record { arrival = a; lent = caller.lent h a })

abbrev pub held_after : KeyHeld → Arrival → KeyStepping → KeyHeld
held_after h a x =
    record {
      key = x.key;
      main = the a.interface (buffers x.message x.reply) h.main;
      vendor = the a.interface h.vendor (buffers x.message x.reply);
      past = a ∷ h.past;
    }

abbrev pub key_code : KeyCaller → AnyKey
key_code caller =
    record {
      State = KeyHeld;
      set_up = λ set. record { key = key_from set; main = buffers [] []; vendor = buffers [] []; past = [] };
      step = λ h a. next (held_after h a (call_for caller h a)) (answer_in (key_said_by (call_for caller h a)));
      is_on = λ h i c time. is_on (transport_of (hid_on h.key i) (left_on h i).message).receiver c time;
      is_locked_by = λ h i c time. is_locked_by (transport_of (hid_on h.key i) (left_on h i).message).lock c time;
      is_winking = λ h time. ltb time h.key.main.wink;
    }

-- ---- a caller who does as it must

abbrev pub AllRefused : Key → List KeyCall → Type 0
AllRefused k [] = Unit {0}
AllRefused k (c ∷ rest) = IsRefused (on_call k c).answer × AllRefused (on_call k c).key rest

-- the calls before an arrival are refused, for whatever reason and with whatever buffers; and for the arrival itself the buffers of its interface are lent as for a
-- transport. Of the other interface's nothing is asked
pub record Minds (caller : KeyCaller) (h : KeyHeld) (a : Arrival) : Type 0 where
  pub refused : AllRefused h.key (caller.before h a)
  pub lends : Lends (hid_on h.key a.interface) a.time (left_on h a.interface).message (caller.lent h a)

abbrev pub MindsWell : KeyCaller → Type 0
MindsWell caller =
    (set : KeySettings) → KeyPermitted set → (past : List Arrival) (a : Arrival) → TakenBy (a ∷ past) → Minds caller (after_by (key_code caller) set past) a

-- ---- what is promised to such a caller

pub record KeyServes (caller : KeyCaller) : Type 0 where
  -- each answer is the standard's, and none is a refusal
  pub said : (set : KeySettings) → KeyPermitted set → (past : List Arrival) (a : Arrival) → TakenBy (a ∷ past)
      → key_said_by (call_for caller (after_by (key_code caller) set past) a) ≡ answered (answer_by standard_key set past a)
  pub shares : SharesOut checked (key_code caller)
  pub device : MainIsDevice (key_code caller)
  -- what the light reads on each interface is the number of continuation packets still due there
  pub due : (set : KeySettings) → KeyPermitted set → (past : List Arrival) → TakenBy past → (i : Interface)
      → (hid_on (after_by (key_code caller) set past).key i).still_due ≡ still_due (side (after_by standard_key set past).transports i).receiver
  -- and the questions are answered by the standard's key, at every time that no refusal meets
  pub locks : (set : KeySettings) → KeyPermitted set → (past : List Arrival) → TakenBy past → (time : ℕ) → latest_of past ≤ time → time ≤ 0xffff_ffff_ffff → (i : Interface)
      → key_running_of (after_by (key_code caller) set past).key time (hid_on (after_by (key_code caller) set past).key i).lock
      ≡ pick (is_locked (side (after_by standard_key set past).transports i).lock time) Yes No
  pub wink : (set : KeySettings) → KeyPermitted set → (past : List Arrival) → TakenBy past → (time : ℕ) → latest_of past ≤ time → time ≤ 0xffff_ffff_ffff
      → key_winking_of (after_by (key_code caller) set past).key time ≡ pick (is_winking (main_of (after_by standard_key set past)) time) Yes No

abbrev pub KeyCodeServes : Type 0
KeyCodeServes = (caller : KeyCaller) → MindsWell caller → KeyServes caller

-- ---- one such caller: a message buffer for each interface, as long as the largest message, each lent back untouched, and a short one for both; and before each
-- arrival a packet without bytes on main

-- those of an interface
abbrev pub own : Interface → List Arrival → List Arrival
own i [] = []
own i (a ∷ past) = only a.interface i a (own i past)

abbrev pub fixed_key : (main vendor short : List ℕ) → KeyCaller
fixed_key m v r =
    record {
      before = λ h a. record { arrival = arrival main a.time []; lent = buffers m r } ∷ [];
      lent = λ h a. buffers (the a.interface (unless_first (own main h.past) m h.main.message) (unless_first (own vendor h.past) v h.vendor.message)) r;
    }

abbrev pub FixedKeyServes : Type 0
FixedKeyServes = (m v r : List ℕ) → 7609 ≤ length m → 7609 ≤ length v → 17 ≤ length r → KeyServes (fixed_key m v r)
