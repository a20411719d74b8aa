-- A run with a maximum of 60, by computation: two messages of two packets each, one after the other in the same buffer. Assumes nothing.
use Prim.Native.Nat.{ℕ}
use native.Mathlib.Omega.{arith}
use mathlib.Core.Path.{◌≡◌, refl, ap}
use mathlib.Core.List.{List, [], ◌∷◌, ◌++◌}
use mathlib.Core.Bool.{true}
use lib.ListN.{get_or, replicate}
use Rattle.ctaphid.specs.Choice.{pick}
use Rattle.ctaphid.specs.Packets.{channel_in, declared_in, read}
use Rattle.ctaphid.specs.Commands.{CBOR, is_vendor, among}
use Rattle.ctaphid.specs.Settings.{Settings, knows}
use Rattle.ctaphid.specs.Receiver.{collect, start_known, start, when_idle, when_over, on_own, when_busy, receive}
use Rattle.ctaphid.specs.Transport.{Event, Answer, request, is_allocated, is_valid, is_locked_against, is_shut, next_channel, on_init, obey, dispatch, settle, hear}
use Rattle.ctaphid.specs.Demands.{Taken, answer}
use Rattle.ctaphid.proofs.Histories.{none-permitted}
use Rattle.ctaphid.proofs.Instances.{all_below, at, proper, init, message, begins, ends}
use Rattle.collect.specs.Standing.{is_standing}
use Rattle.receive.specs.Meaning.{receiver_of}
use Rattle.receive.specs.Assembler as receive
use Rattle.hid.specs.Soundness.{is_on_channel, is_placed, is_counted, transacts, is_held, is_timely, is_sound}
use Rattle.hid.specs.State.{served_of}
use Rattle.hid.specs.Hearing.{message_after, heard_of}
use Rattle.hid.specs.Transport.{admitted_of}
use Rattle.runs.specs.Share.{Caller, code, LendsWell}
use Rattle.runs.specs.Callers.{scribbling, careless}

abbrev small : Settings
small = record { maximum = 60; u2f = true; vendor = [] }

-- a channel is allocated, and it sends a message that begins with 1, then one that begins with 2. The latest first
abbrev first : List Event
first = at 5 (begins 16 1) ∷ at 0 init ∷ []

abbrev second : List Event
second = at 7 (begins 16 2) ∷ at 6 ends ∷ first

-- what is handed out with the last packet of each
abbrev Hands : Caller → (message again : Answer) → Type 0
Hands lent a b = (answer (code lent) small first (at 6 ends) ≡ a) × (answer (code lent) small second (at 8 ends) ≡ b)

-- both messages, though all that isn't owed is overwritten before every call
pub overwritten-between : Hands scribbling (request 1 CBOR (message 1)) (request 1 CBOR (message 2))
unfolding read channel_in declared_in hear is_shut is_locked_against settle dispatch knows obey is_vendor on_init next_channel is_allocated is_valid receive when_idle when_over when_busy on_own start start_known collect among pick receiver_of is_standing receive.is_sound is_on_channel is_placed is_counted transacts is_held is_timely is_sound served_of message_after heard_of admitted_of
overwritten-between = (refl, refl)

-- bytes that are owed are what was lent, and no longer what was sent
pub overwritten-inside : Hands careless (request 1 CBOR (replicate 57 0xee ++ (7 ∷ []))) (request 1 CBOR (replicate 57 0xee ++ (7 ∷ [])))
unfolding read channel_in declared_in hear is_shut is_locked_against settle dispatch knows obey is_vendor on_init next_channel is_allocated is_valid receive when_idle when_over when_busy on_own start start_known collect among pick receiver_of is_standing receive.is_sound is_on_channel is_placed is_counted transacts is_held is_timely is_sound served_of message_after heard_of admitted_of
overwritten-inside = (refl, refl)

-- so such a caller does not lend as it must
taken : Taken (at 6 ends ∷ first)
unfolding all_below pick
taken =
    (proper 6 ends (omega arith) refl refl, omega arith, (proper 5 (begins 16 1) (omega arith) refl refl, omega arith, (proper 0 init (omega arith) refl refl, omega arith, tt)))

pub careless-owes : LendsWell careless → ⊥
unfolding read channel_in declared_in hear is_shut is_locked_against settle dispatch knows obey is_vendor on_init next_channel is_allocated is_valid receive when_idle when_over when_busy on_own start start_known collect among pick receiver_of is_standing receive.is_sound is_on_channel is_placed is_counted transacts is_held is_timely is_sound served_of message_after heard_of admitted_of
careless-owes well =
    let same = (well small (none-permitted small (omega arith) refl) first (at 6 ends) taken).kept (record { begun = λ z. omega (arith, z); live = omega arith }) in
    let z : ◌≡◌ {A = ℕ} 0xee 1 = ap (λ (l : List ℕ). get_or l 0 0) same in
    omega arith
