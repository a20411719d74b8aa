-- What writing a message's fragments answers, and what it leaves in the buffer that is lent. Assumes nothing.
use Rattle.std.specs.Prelude.{ℕ, ◌+◌, ◌-◌, ◌/◌, ◌≤◌, ◌<◌, List, [], ◌∷◌, not, length, get_or, ltb, leb}
use Rattle.ctaphid.specs.Choice.{refusing}
use Rattle.ctaphid.specs.Messages.{count}
use Rattle.ctaphid.specs.Bluetooth.{is_size, longest_message, is_command, fragments_written}
use Rattle.collect.specs.Adding.{front}
use Rattle.ble.specs.declared.Count.{Count}
use Rattle.ble.specs.declared.Count.TheVariants.{Fragments, Refused as NoCount}
use Rattle.ble.specs.declared.Written.{Written}
use Rattle.ble.specs.declared.Written.TheVariants.{Fragment, Refused}

-- 14: a size that no fragment has; 7: over 65,535 bytes
unfoldable pub count_of : (size n : ℕ) → Count
count_of size n =
    refusing NoCount ((not (is_size size), 14) ∷ (ltb longest_message n, 7) ∷ []) (Fragments (count (size - 3) (size - 1) n))

-- all that a call leaves: its answer, and the buffer
pub record Left : Type 0 where
  pub answer : Written
  pub buffer : List ℕ

abbrev pub left : Written → List ℕ → Left
left w m = record { answer = w; buffer = m }

-- a fragment at the front of the buffer, whose other bytes stay; and how many bytes it has
abbrev pub put : (fragment buffer : List ℕ) → Left
put f m = left (Fragment (length f)) (front f m)

-- 14; 2: a buffer shorter than the size; 12: a command that is none of the five; 7; 6: at or past the last. A refused call leaves the buffer
unfoldable pub write_of : (size cmd : ℕ) → List ℕ → (index : ℕ) → (buffer : List ℕ) → Left
write_of size cmd payload index m =
    refusing (λ number. left (Refused number) m)
    ((not (is_size size), 14)
    ∷ (ltb (length m) size, 2)
    ∷ (not (is_command cmd), 12)
    ∷ (ltb longest_message (length payload), 7)
    ∷ (leb (length (fragments_written size cmd payload)) index, 6)
    ∷ [])
    (put (get_or (fragments_written size cmd payload) index []) m)

-- what must be so for a fragment to be written
pub record Puts (size : ℕ) (payload : List ℕ) (index : ℕ) (m : List ℕ) : Type 0 where
  pub smallest : 20 ≤ size
  pub largest : size ≤ 512
  pub room : size ≤ length m
  pub short : length payload ≤ 65535
  pub within : index < 1 + (length payload + 1) / (size - 1)
