-- What reading a fragment leaves, from what the standard's reader makes of it. What a collection's numbers mean over the buffer is the host's. Assumes nothing.
use Rattle.std.specs.Prelude.{ℕ, ◌≤◌, List, [], ◌∷◌, not, length, take}
use Rattle.ctaphid.specs.Choice.{refusing}
use Rattle.ctaphid.specs.Host as standard
use Rattle.ctaphid.specs.Bluetooth.{is_size, Told, refused, waiting, message, Taken, hear}
use Rattle.collect.specs.Adding.{front}
use Rattle.host.specs.Meaning.{collection_meant, collection_of}
use Rattle.host.specs.declared.Collection.{Collection}
use Rattle.ble.specs.declared.Answer.{Answer}
use Rattle.ble.specs.declared.Answer.TheVariants.{Refused, Waiting, Message}
use Rattle.ble.specs.Soundness.{Sound, is_sound}

-- all that a call leaves: the collection, the answer and the buffer
pub record Reading : Type 0 where
  pub collection : Collection
  pub answer : Answer
  pub buffer : List ℕ

abbrev pub reading : Collection → Answer → List ℕ → Reading
reading s a m = record { collection = s; answer = a; buffer = m }

-- a buffer with what is collected at its front, and the others as they were
abbrev pub collected : standard.Collection → (buffer : List ℕ) → List ℕ
collected standard.none m = m
collected (standard.collecting b) m = front b.collected m

-- a refused fragment leaves the numbers and the buffer as they were
abbrev pub answered : Collection → standard.Collection → Told → (buffer : List ℕ) → Reading
answered s t (refused number) m = reading s (Refused number) m
answered s t waiting m = reading (collection_of t) Waiting (collected t m)
answered s t (message cmd payload) m = reading (collection_of t) (Message cmd (length payload)) (front payload m)

unfoldable pub laid : Collection → Taken → (buffer : List ℕ) → Reading
laid s x m = answered s x.collection x.answer m

-- refusals 14 and 3, then the standard's step, over as much room as the buffer has
unfoldable pub read_of : Collection → (size : ℕ) → (fragment buffer : List ℕ) → Reading
read_of s size f m =
    refusing (λ number. reading s (Refused number) m)
    ((not (is_size size), 14) ∷ (not (is_sound s (length m)), 3) ∷ [])
    (laid s (hear size (length m) (collection_meant s m) f) m)

-- what each answer says, over the buffer
abbrev pub answer_meant : Answer → (buffer : List ℕ) → Told
answer_meant (Refused number) m = refused number
answer_meant Waiting m = waiting
answer_meant (Message cmd len) m = message cmd (take len m)

-- ---- what the parts ask

pub record Follows (s : Collection) (f m : List ℕ) : Type 0 where
  pub sound : Sound s (length m)
  pub head : 1 ≤ length f
