-- A packet read by the code and by the standard's host: what it is to answer alike. Assumes nothing.
use Rattle.std.specs.Prelude.{ℕ, ◌≡◌, List, [], ◌∷◌, length}
use Rattle.ctaphid.specs.Packets.{Bytes, read}
use Rattle.ctaphid.specs.Host.{Got, none, hear}
use Rattle.host.specs.declared.Collection.{Collection}
use Rattle.host.specs.Meaning.{collection_meant, none_begun, Sound, answer_meant}
use Rattle.host.specs.Reading.{Reading, read_of}

-- what a call leaves means what the standard's step leads to: the collection that it means, and the answer with its payload
pub record Refines (x : Reading) (g : Got) : Type 0 where
  pub collection : collection_meant x.progress.collection x.buffer ≡ g.collection
  pub answer : answer_meant x.progress.answer x.buffer ≡ g.answer

-- a packet that refusal 1 doesn't meet
pub record Comes (p : List ℕ) : Type 0 where
  pub size : length p ≡ 64
  pub bytes : Bytes p

abbrev pub Come : List (List ℕ) → Type 0
Come [] = Unit {0}
Come (p ∷ rest) = Comes p × Come rest

-- each step from a sound collection
abbrev pub ReadRefines : Type 0
ReadRefines =
    (s : Collection) (c : ℕ) (p m : List ℕ) → Sound s (length m) → Comes p
    → Refines (read_of s c p m) (hear c (length m) (collection_meant s m) (read p))

-- the collection stays sound, and the buffer as long
abbrev pub SoundStays : Type 0
SoundStays = (s : Collection) (c : ℕ) (p m : List ℕ) → Sound s (length m) → Comes p → Sound (read_of s c p m).progress.collection (length m)

abbrev pub LengthStays : Type 0
LengthStays = (s : Collection) (c : ℕ) (p m : List ℕ) → Sound s (length m) → Comes p → length (read_of s c p m).buffer ≡ length m

-- a new one is sound, and means that none is begun
pub record NewSound : Type 0 where
  pub sound : (space : ℕ) → Sound none_begun space
  pub meant : (m : List ℕ) → collection_meant none_begun m ≡ none
