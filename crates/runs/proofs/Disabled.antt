-- A disabled step writes nothing into the message buffer. Assumes nothing.
use Prim.Native.Nat.{ℕ}
use mathlib.Core.Path.{◌≡◌, refl}
use mathlib.Core.List.{List}
use mathlib.Core.Bool.{true}
use lib.ListN.{length}
use Rattle.ctaphid.specs.Choice.{pick}
use Rattle.ctaphid.specs.Packets.{Packet, read}
use Rattle.ctaphid.specs.Transport.{is_valid, is_shut}
use Rattle.ctaphid.proofs.Tests.{pick-both}
use Rattle.ctaphid.proofs.Refusing.{either_way}
use Rattle.answers.specs.declared.Answer.TheVariants.{Refused}
use Rattle.hid.specs.declared.CtapHid.{CtapHid}
use Rattle.hid.specs.Hearing.{Stepping, stepping, message_after, heard_of}
use Rattle.hid.specs.Refusals.{refusals}
use Rattle.hid.specs.Transport.{admitted_of}
use Rattle.hid.specs.MainHid.{MainStepping, main_stepping, main_heard_of, main_step_of}
use Rattle.runs.specs.Steps.{DisabledKeeps, MainDisabledKeeps}

message-kept : (s : CtapHid) (time : ℕ) (p : Packet) (m : List ℕ) → message_after s time true p m ≡ m
unfolding message_after is_shut pick
message-kept s time p m = pick-both (λ (x : List ℕ). x ≡ m) (is_valid s.allocated p) m m refl refl

pub disabled-keeps : DisabledKeeps
unfolding admitted_of heard_of
disabled-keeps s time p m r =
    either_way (λ (x : Stepping). x.message ≡ m)
    (λ number. stepping (record { hid = s; answer = Refused number }) m r)
    (refusals s 0 time (length p) (length m) (length r))
    (heard_of s time true (read p) m r)
    (λ number. refl)
    (message-kept s time (read p) m)

pub main-disabled-keeps : MainDisabledKeeps
unfolding main_step_of main_heard_of
main-disabled-keeps o time p m r =
    either_way (λ (x : MainStepping). x.message ≡ m)
    (λ number. main_stepping (record { hid = o; answer = Refused number }) m r)
    (refusals o.hid o.wink time (length p) (length m) (length r))
    (main_heard_of o time true (read p) m r)
    (λ number. refl)
    (message-kept o.hid time (read p) m)
