-- Runs over Bluetooth, for which the caller lends a buffer anew at every call: that the code's answers are the standard's; the round trip, from the writer's calls
-- to the reader's; and what a call leaves of the buffer. What a reader's caller owes is what a host's owes. Assumes nothing.
use Rattle.std.specs.Prelude.{ℕ, ◌+◌, ◌≤◌, ◌<◌, ◌≡◌, List, [], ◌∷◌, map, true, length, take, drop}
use Rattle.ctaphid.specs.Readers.{told, lastly}
use Rattle.ctaphid.specs.Host as standard
use Rattle.ctaphid.specs.Bluetooth.{is_size, is_command, fragments_written, Told, waiting, message, Taken, hear}
use Rattle.host.specs.declared.Collection.{Collection}
use Rattle.host.specs.Meaning.{collection_meant, none_begun}
use Rattle.ble.specs.declared.Answer.TheVariants.{Refused, Waiting, Message}
use Rattle.ble.specs.declared.Written.{Written}
use Rattle.ble.specs.declared.Written.TheVariants as written
use Rattle.ble.specs.Soundness.{Sound}
use Rattle.ble.specs.Reading.{Reading, read_of, answer_meant}
use Rattle.ble.specs.Writing.{Left, write_of}
use Rattle.runs.specs.HostRuns.{HostLends}

-- ---- a call

-- what it leaves means what the standard's step leads to: the collection that it means, and the answer with its payload
pub record Refines (x : Reading) (g : Taken) : Type 0 where
  pub collection : collection_meant x.collection x.buffer ≡ g.collection
  pub answer : answer_meant x.answer x.buffer ≡ g.answer

abbrev pub ReadRefines : Type 0
ReadRefines =
    (s : Collection) (size : ℕ) (f m : List ℕ) → is_size size ≡ true → Sound s (length m) → Refines (read_of s size f m) (hear size (length m) (collection_meant s m) f)

abbrev pub SoundStays : Type 0
SoundStays = (s : Collection) (size : ℕ) (f m : List ℕ) → is_size size ≡ true → Sound s (length m) → Sound (read_of s size f m).collection (length m)

-- nothing past the declared length is written, whatever is lent and whatever the numbers are
pub record Keeps (s : Collection) (m : List ℕ) (x : Reading) : Type 0 where
  pub refused : (number : ℕ) → x.answer ≡ Refused number → (x.collection ≡ s) × (x.buffer ≡ m)
  -- past what is collected all stays, and that is less than is declared
  pub waits : x.answer ≡ Waiting → (x.collection.taken < x.collection.len) × (drop x.collection.taken x.buffer ≡ drop x.collection.taken m)
  pub hands : (cmd len : ℕ) → x.answer ≡ Message cmd len → drop len x.buffer ≡ drop len m
  -- and what was declared stays so
  pub still : (s.len ≡ 0 → ⊥) → x.answer ≡ Waiting → x.collection.len ≡ s.len
  pub all : (s.len ≡ 0 → ⊥) → (cmd len : ℕ) → x.answer ≡ Message cmd len → len ≡ s.len

abbrev pub NothingPast : Type 0
NothingPast = (s : Collection) (size : ℕ) (f m : List ℕ) → Keeps s m (read_of s size f m)

-- ---- calls of the reader, one for each fragment that comes

pub record FragmentCall : Type 0 where
  pub fragment : List ℕ
  pub buffer : List ℕ

abbrev pub on_call : (size : ℕ) → Collection → FragmentCall → Reading
on_call size s k = read_of s size k.fragment k.buffer

abbrev pub fragment_run_of : (size : ℕ) → Collection → List FragmentCall → List Told
fragment_run_of size =
    told (λ s k. (on_call size s k).collection) (λ s k. answer_meant (on_call size s k).answer (on_call size s k).buffer)

-- each call lends as it must. `left` is what the call before left of its buffer
abbrev pub FragmentsLent : (size : ℕ) → Collection → (left : List ℕ) → List FragmentCall → Type 0
FragmentsLent size s left [] = Unit {0}
FragmentsLent size s left (k ∷ rest) = HostLends s left k.buffer × FragmentsLent size (on_call size s k).collection (on_call size s k).buffer rest

-- the standard's reader, with as much room at each fragment as there is then
abbrev pub heard_within : (size : ℕ) → standard.Collection → FragmentCall → Taken
heard_within size t k = hear size (length k.buffer) t k.fragment

abbrev pub answers_within : (size : ℕ) → standard.Collection → List FragmentCall → List Told
answers_within size = told (λ t k. (heard_within size t k).collection) (λ t k. (heard_within size t k).answer)

-- Equality: from any sound collection on, over what was left of the buffer
abbrev pub FragmentRunsAlike : Type 0
FragmentRunsAlike =
    (size : ℕ) → is_size size ≡ true → (s : Collection) (left : List ℕ) (ks : List FragmentCall) → Sound s (length left) → FragmentsLent size s left ks
    → fragment_run_of size s ks ≡ answers_within size (collection_meant s left) ks

-- ---- calls of the writer, one for each buffer that is lent

-- the fragment that a call gives: as many bytes of the buffer as the answer says
abbrev pub bytes_of : Written → List ℕ → List ℕ
bytes_of (written.Fragment n) m = take n m
bytes_of (written.Refused number) m = []

abbrev pub sent_of : Left → List ℕ
sent_of x = bytes_of x.answer x.buffer

abbrev pub sent_by : (size cmd : ℕ) → List ℕ → (index : ℕ) → (lent : List (List ℕ)) → List (List ℕ)
sent_by size cmd payload index [] = []
sent_by size cmd payload index (m ∷ rest) = sent_of (write_of size cmd payload index m) ∷ sent_by size cmd payload (index + 1) rest

abbrev pub EachLong : ℕ → List (List ℕ) → Type 0
EachLong n [] = Unit {0}
EachLong n (m ∷ rest) = (n ≤ length m) × EachLong n rest

-- a message that can be written, and as many buffers as it has fragments
pub record Writes (size cmd : ℕ) (payload : List ℕ) (lent : List (List ℕ)) : Type 0 where
  pub sized : is_size size ≡ true
  pub command : is_command cmd ≡ true
  pub short : length payload ≤ 65535
  pub long : EachLong size lent
  pub many : length lent ≡ length (fragments_written size cmd payload)

abbrev pub WritesAll : Type 0
WritesAll = (size cmd : ℕ) (payload : List ℕ) (lent : List (List ℕ)) → Writes size cmd payload lent → sent_by size cmd payload 0 lent ≡ fragments_written size cmd payload

-- ---- the round trip over the code, at each size and each length: what the writer gives, read with none begun, is the message

abbrev pub ReadsBack : Type 0
ReadsBack =
    (size cmd : ℕ) (payload : List ℕ) (lent : List (List ℕ)) (ks : List FragmentCall) → Writes size cmd payload lent
    → map (λ (k : FragmentCall). k.fragment) ks ≡ sent_by size cmd payload 0 lent → EachLong (length payload) (map (λ (k : FragmentCall). k.buffer) ks) → FragmentsLent size none_begun [] ks
    → fragment_run_of size none_begun ks ≡ lastly waiting (message cmd payload) (fragments_written size cmd payload)
