-- Answers about Bluetooth's fragments as numbers, for C. Assumes nothing.
use Rattle.std.specs.Prelude.{ℕ, List}
use Rattle.ble.specs.Writing.{Left}
use Rattle.ble.specs.Reading.{Reading}
use Rattle.ble.specs.declared.Count.{Count}
use Rattle.ble.specs.declared.Count.TheVariants as count
use Rattle.ble.specs.declared.Written.{Written}
use Rattle.ble.specs.declared.Written.TheVariants as writing
use Rattle.ble.specs.declared.Answer.{Answer}
use Rattle.ble.specs.declared.Answer.TheVariants.{Refused, Waiting, Message}
use Rattle.flat.specs.declared.Outcome.{Outcome}
use Rattle.flat.specs.Telling.{told, refused_by, HostFlattened, host_flat}

-- kind 7: a count, of fragments or of a fragment's bytes
abbrev pub fragments_outcome : Count → Outcome
fragments_outcome (count.Fragments n) = told 7 0 0 n
fragments_outcome (count.Refused n) = refused_by n

abbrev pub written_outcome : Written → Outcome
written_outcome (writing.Fragment n) = told 7 0 0 n
written_outcome (writing.Refused n) = refused_by n

-- what is returned, and the buffer
pub record Laying : Type 0 where
  pub outcome : Outcome
  pub buffer : List ℕ

abbrev pub laid : Outcome → List ℕ → Laying
laid o m = record { outcome = o; buffer = m }

abbrev pub laid_of : Left → Laying
laid_of x = laid (written_outcome x.answer) x.buffer

-- kinds 10 and 11, as for a host
abbrev pub ble_outcome_of : Answer → Outcome
ble_outcome_of (Refused n) = refused_by n
ble_outcome_of Waiting = told 10 0 0 0
ble_outcome_of (Message cmd len) = told 11 0 cmd len

abbrev pub ble_flat_of : Reading → HostFlattened
ble_flat_of x = host_flat (record { collection = x.collection; outcome = ble_outcome_of x.answer }) x.buffer
