-- Every echo can be sent. Assumes nothing.
use Prim.Native.Nat.{ℕ, ◌≤◌}
use native.Mathlib.Omega.{arith}
use mathlib.Core.Path.{◌≡◌, refl, ap}
use mathlib.Core.List.{List, [], ◌∷◌}
use mathlib.Core.Bool.{Bool}
use lib.ListN.{length}
use Rattle.ctaphid.specs.Choice.{pick}
use Rattle.ctaphid.specs.Packets.{Bytes, read}
use Rattle.ctaphid.specs.Transport as standard
use Rattle.ctaphid.specs.Transport.{Transport, Next, nothing, reply, request, hear}
use Rattle.ctaphid.specs.Device.{Device, answered as answered_above}
use Rattle.ctaphid.proofs.Tests.{pick_known, pick-both}
use Rattle.ctaphid.proofs.Refusing.{Passed, Each, each_way}
use Rattle.ctaphid.proofs.Packets.{read-formed}
use Rattle.packet.specs.Numbers.{command_case}
use Rattle.answers.specs.declared.Answer.TheVariants.{Refused, Echo, Reply}
use Rattle.answers.specs.Answers.{Said, refused, answered, is_echo, answer_of, replied, said}
use Rattle.answers.specs.declared.Answer.{Answer}
use Rattle.hid.specs.declared.CtapHid.{CtapHid}
use Rattle.hid.specs.declared.MainHid.{MainHid}
use Rattle.hid.specs.Meaning.{transport_of}
use Rattle.hid.specs.State.{served_of}
use Rattle.hid.specs.Refusals.{refusals}
use Rattle.hid.specs.Hearing.{Stepping, stepping, message_after, heard_of}
use Rattle.hid.specs.Transport.{admitted_of, step_of}
use Rattle.hid.specs.MainHid.{MainStepping, main_stepping, main_heard_of, main_step_of}
use Rattle.hid.proofs.Refusing.{admits-passed}
use Rattle.runs.specs.Steps.{from_settings, main_from_settings, said_by, main_said_by}
use Rattle.runs.specs.Lending.{Call, Done, run_of, on_call, main_on_call}
use Rattle.runs.specs.Echoes.{Fits, NoneIs8, EchoFits}
use Rattle.runs.proofs.Refines.{Carried, Lies, heard-right, carried-above}

-- an answer whose payload is no longer than a sound maximum
fits-of : (max : ℕ) (m : List ℕ) (a : standard.Answer) → max ≤ 7609 → Carried (Lies max m) a → Fits (answer_of a)
unfolding pick
fits-of max m nothing most h = tt
fits-of max m (reply c k payload) most h = pick_known Fits (is_echo k) (Echo c (command_case k) (length payload)) (Reply c (command_case k) (length payload)) (λ e. omega (arith, (h e).1)) (λ e. tt)
fits-of max m (request c k payload) most h = tt

-- a refusal's number, and 0 where nothing is refused
abbrev number : Said → ℕ
number (refused n) = n
number (answered a) = 0

no_number : (a : standard.Answer) (m r : List ℕ) → number (said (answer_of a) m r) ≡ 0
unfolding pick
no_number nothing m r = refl
no_number (reply c k payload) m r = pick-both (λ (x : Answer). number (said x m r) ≡ 0) (is_echo k) (Echo c (command_case k) (length payload)) (Reply c (command_case k) (length payload)) refl refl
no_number (request c k payload) m r = refl

abbrev Not8 : ℕ → Type 0
Not8 n = Fits (Refused n)

-- a step's refusals are 1 to 4
module _ (s : CtapHid) (wink time : ℕ) (p m r : List ℕ) where
  abbrev tests : List (Bool × ℕ)
  tests = refusals s wink time (length p) (length m) (length r)

  none-is-8 : Each Not8 tests
  none-is-8 = (λ e. omega (arith, e), (λ e. omega (arith, e), (λ e. omega (arith, e), (λ e. omega (arith, e), (λ e. omega (arith, e), (λ e. omega (arith, e), tt))))))

  -- and where none refuses the state is sound
  heard-carried : (disabled : Bool) → Bytes p → Passed tests → (s.max ≤ 7609) × Carried (Lies s.max (message_after s time disabled (read p) m)) (hear (transport_of s m) time disabled (read p)).answer
  heard-carried disabled bytes passed =
      let admitted = admits-passed s wink time p m r passed in
      let a = admitted.1 in
      (a.sound.maximum, (heard-right s wink time disabled (read p) m admitted.0 a.room a.later (read-formed p a.size bytes)).1)

-- ---- the transport's step
module _ (s : CtapHid) (time : ℕ) (disabled : Bool) (p m r : List ℕ) where
  abbrev heard : standard.Answer
  heard = (hear (transport_of s m) time disabled (read p)).answer

  by-refusal : (P : Stepping → Type 0) → Each (λ n. P (stepping (record { hid = s; answer = Refused n }) m r)) (tests s 0 time p m r)
      → (Passed (tests s 0 time p m r) → P (heard_of s time disabled (read p) m r)) → P (step_of s time disabled p m r)
  unfolding admitted_of
  by-refusal P = each_way P (λ n. stepping (record { hid = s; answer = Refused n }) m r) (tests s 0 time p m r) (heard_of s time disabled (read p) m r)

  step_fits : Bytes p → Fits (step_of s time disabled p m r).stepped.answer
  unfolding heard_of served_of
  step_fits bytes =
      by-refusal (λ x. Fits x.stepped.answer) (none-is-8 s 0 time p m r)
      (λ passed. let h = heard-carried s 0 time p m r disabled bytes passed in fits-of s.max (message_after s time disabled (read p) m) heard h.0 h.1)

  step-not-8 : Not8 (number (said_by (step_of s time disabled p m r)))
  unfolding heard_of served_of
  step-not-8 = by-refusal (λ x. Not8 (number (said_by x))) (none-is-8 s 0 time p m r) (λ passed e. omega (arith, e, no_number heard (message_after s time disabled (read p) m) (replied heard r)))

-- ---- the device's
module _ (o : MainHid) (time : ℕ) (disabled : Bool) (p m r : List ℕ) where
  abbrev below : Next Transport
  below = hear (transport_of o.hid m) time disabled (read p)

  abbrev led : Next Device
  led = answered_above time o.wink below.state below.answer

  abbrev kept : List ℕ
  kept = message_after o.hid time disabled (read p) m

  main-by-refusal : (P : MainStepping → Type 0) → Each (λ n. P (main_stepping (record { hid = o; answer = Refused n }) m r)) (tests o.hid o.wink time p m r)
      → (Passed (tests o.hid o.wink time p m r) → P (main_heard_of o time disabled (read p) m r)) → P (main_step_of o time disabled p m r)
  unfolding main_step_of
  main-by-refusal P = each_way P (λ n. main_stepping (record { hid = o; answer = Refused n }) m r) (tests o.hid o.wink time p m r) (main_heard_of o time disabled (read p) m r)

  main-step-fits : Bytes p → Fits (main_step_of o time disabled p m r).stepped.answer
  unfolding main_heard_of
  main-step-fits bytes =
      main-by-refusal (λ x. Fits x.stepped.answer) (none-is-8 o.hid o.wink time p m r)
      (λ passed.
      let h = heard-carried o.hid o.wink time p m r disabled bytes passed in
      fits-of o.hid.max kept led.answer h.0 (carried-above (Lies o.hid.max kept) time o.wink below.state below.answer (refl, omega arith) h.1))

  main-step-not-8 : Not8 (number (main_said_by (main_step_of o time disabled p m r)))
  unfolding main_heard_of
  main-step-not-8 = main-by-refusal (λ x. Not8 (number (main_said_by x))) (none-is-8 o.hid o.wink time p m r) (λ passed e. omega (arith, e, no_number led.answer kept (replied led.answer r)))

-- ---- a run
module _ {S : Type 0} (f : S → Call → Done S) (not-8 : (s : S) (c : Call) → Not8 (number (f s c).told)) where
  none_of : (s : S) (calls : List Call) → NoneIs8 (run_of f s calls)
  none_of s [] = tt
  none_of s (c ∷ rest) = (λ e. not-8 s c (ap number e), none_of (f s c).state rest)

pub echo-fits : EchoFits
echo-fits =
    record {
      step = step_fits;
      main_step = main-step-fits;
      run = λ set. none_of on_call (λ s c. step-not-8 s c.event.time c.event.disabled c.event.packet c.lent.message c.lent.short) (from_settings set);
      main_run = λ set. none_of main_on_call (λ o c. main-step-not-8 o c.event.time c.event.disabled c.event.packet c.lent.message c.lent.short) (main_from_settings set);
    }
