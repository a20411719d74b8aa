-- The number of continuation packets still due is what is outstanding: after so many more right ones the message is handed out, and not before. Assumes nothing.
use Rattle.std.specs.Prelude.{ℕ, ◌-◌, ◌<◌, ◌≡◌, true, false, length, take}
use mathlib.Core.List.{List, [], ◌∷◌, ◌++◌, map, flatten}
use Rattle.ctaphid.specs.Packets.{read, written}
use Rattle.ctaphid.specs.Messages.{continuations}
use Rattle.ctaphid.specs.Settings.{Settings}
use Rattle.ctaphid.specs.Receiver.{Transaction, busy, channel_of, still_due}
use Rattle.ctaphid.specs.Transport.{Transport, Event, is_allocated, is_valid, is_locked_by, is_shut, step, afterwards}
use Rattle.ctaphid.specs.Demands.{standard, Permitted, Taken, latest, after, on, Sent, Message, number_of, handed_out, Allowed, Hushed, Ends}

-- ---- right continuations

-- data fields of continuation packets
abbrev pub Fields : List (List ℕ) → Type 0
Fields [] = Unit {0}
Fields (field ∷ rest) = (length field ≡ 59) × Fields rest

-- the packets that a transaction is due next, with these data fields: of its channel, numbered from the one that is due on
abbrev pub due_next : Transaction → List (List ℕ) → List (List ℕ)
due_next t fields = map written (continuations t.channel t.due fields)

-- the payload that they make up, if they are all
abbrev pub completed : Transaction → List (List ℕ) → List ℕ
completed t fields = take t.declared (t.collected ++ flatten fields)

-- ---- what is outstanding

-- the device has this transaction, on an allocated channel, and no other channel's lock runs
pub record Underway (d : Transport) (now : ℕ) (t : Transaction) : Type 0 where
  pub busied : d.receiver ≡ busy t
  pub allocated : is_allocated d.allocated t.channel ≡ true
  pub unlocked : (o : ℕ) → (o ≡ t.channel → ⊥) → is_locked_by d.lock o now ≡ false

-- from a state on, each of these events is hushed
abbrev pub AllHushed : Transport → (channel : ℕ) → List Event → Type 0
AllHushed d c [] = Unit {0}
AllHushed d c (e ∷ rest) = Hushed c e (step d e).answer × AllHushed (step d e).state c rest

-- the events are right continuations of transaction t with these data fields, and any packets of other channels between them
pub record Outstanding (set : Settings) (d : Transport) (t : Transaction) (fields : List (List ℕ)) (events : List Event) : Type 0 where
  -- something is due
  pub some : 0 < still_due (busy t)
  -- as many as are due: the message is handed out, at the last of them and not before
  pub all : length fields ≡ still_due (busy t) → (m : Message) → Allowed set m → t.command ≡ number_of m
      → Ends standard d t.channel (handed_out m t.channel (completed t fields)) events
  -- fewer: nothing is handed out, whatever the command, and so many fewer are due
  pub fewer : length fields < still_due (busy t)
      → AllHushed d t.channel events × (still_due (afterwards step d events).receiver ≡ still_due (busy t) - length fields)

-- after any history without refusals
abbrev pub DueIsOutstanding : Type 0
DueIsOutstanding =
    (set : Settings) → Permitted set → (past : List Event) → Taken past → (t : Transaction) → Underway (after standard set past) (latest past) t
    → (fields : List (List ℕ)) → Fields fields → (events : List Event) → Sent t.channel t.deadline (latest past) (due_next t fields) events
    → Outstanding set (after standard set past) t fields events

-- ---- what leaves the number as it is

-- while the transaction is on, any packet of another channel; and at any time, past its deadline too, any packet that check 1 or check 2 turns away
pub record DueStays (d : Transport) (e : Event) : Type 0 where
  pub other : (t : Transaction) → d.receiver ≡ busy t → e.time < t.deadline → (on e ≡ t.channel → ⊥) → still_due (step d e).state.receiver ≡ still_due d.receiver
  pub invalid : is_valid d.allocated (read e.packet) ≡ false → still_due (step d e).state.receiver ≡ still_due d.receiver
  pub shut : is_shut d.lock e.time e.disabled (channel_of (read e.packet)) ≡ true → still_due (step d e).state.receiver ≡ still_due d.receiver
