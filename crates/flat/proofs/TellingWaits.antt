-- What each `return` of the wait's part of the C boundary meets. Assumes nothing.
use Prim.Native.Nat.{ℕ}
use mathlib.Core.Path.{◌≡◌, sym, ap, ◌∙◌}
use mathlib.Core.List.{List}
use Rattle.ctaphid.specs.Commands.{number}
use Rattle.packet.specs.Numbers.{command_meant}
use Rattle.packet.specs.declared.command.CtapHidCommand.{CtapHidCommand}
use Rattle.touch.specs.Waiting.{step_of}
use Rattle.touch.specs.declared.Wait.{Wait}
use Rattle.touch.specs.declared.Begun.{Begun}
use Rattle.touch.specs.declared.Begun.TheVariants as beginning
use Rattle.touch.specs.declared.Elapsed.{Elapsed}
use Rattle.touch.specs.declared.UserPresence.{UserPresence}
use Rattle.touch.specs.declared.RecvStatus.{RecvStatus}
use Rattle.touch.specs.declared.Sent.{Sent as OneByte}
use Rattle.touch.specs.declared.Sent.TheVariants.{Nothing, Byte}
use Rattle.touch.specs.declared.Response.{Response}
use Rattle.touch.specs.declared.Responded.{Responded}
use Rattle.flat.specs.declared.waiting.Sent.{Sent}
use Rattle.flat.specs.declared.waiting.WaitOutcome.{WaitOutcome}
use Rattle.flat.specs.declared.waiting.FlatWait.{FlatWait}
use Rattle.flat.specs.TellingWaits.{sent_told, count_told, ending_told, error_told, refusal_told, wait_outcome_of, made_wait_of, elapsed_number, flat_wait_of}

-- ---- beginning
module _ (old : Wait) {x : Begun} (y : Begun) (e : x ≡ y) where
  pub makes-wait : {w : Wait} → x ≡ beginning.Wait w → made_wait_of old (beginning.Wait w) ≡ made_wait_of old y
  makes-wait k = ap (made_wait_of old) (sym k ∙ e)

  pub makes-no-wait : {n : ℕ} → x ≡ beginning.Refused n → made_wait_of old (beginning.Refused n) ≡ made_wait_of old y
  makes-no-wait k = ap (made_wait_of old) (sym k ∙ e)

-- ---- the question
pub asks : (n : ℕ) {x : Elapsed} (y : Elapsed) {z : Elapsed} → x ≡ y → x ≡ z → n ≡ elapsed_number z → n ≡ elapsed_number y
asks n y e k h = h ∙ ap elapsed_number (sym k ∙ e)

-- ---- what is sent
pub tells-no-byte : (s : OneByte) (x : Sent) → s ≡ Nothing → x ≡ sent_told Nothing → x ≡ sent_told s
tells-no-byte s x e k = k ∙ sym (ap sent_told e)

pub tells-byte : (s : OneByte) {i c b : ℕ} {cmd : CtapHidCommand} (n : ℕ) → s ≡ Byte i c cmd b → n ≡ number (command_meant cmd)
    → ◌≡◌ {A = Sent} (record { interface = i; cid = c; cmd = n; byte = b; spare = 0 }) (sent_told s)
tells-byte s {i} {c} {b} {cmd} n e k =
    ap (λ (t : ℕ). record { interface = i; cid = c; cmd = t; byte = b; spare = 0 }) k ∙ sym (ap sent_told e)

pub tells-outcome : (r : Response) (first second : Sent) (count ending error refusal : ℕ) → first ≡ sent_told r.first → second ≡ sent_told r.second
    → count ≡ count_told r.first r.second → ending ≡ ending_told r.ending → error ≡ error_told r.ending → refusal ≡ refusal_told r.ending
    → ◌≡◌ {A = WaitOutcome} (record { first = first; second = second; count = count; ending = ending; error = error; refusal = refusal }) (wait_outcome_of r)
tells-outcome r first second count ending error refusal a b c d e f =
    λ i. record { first = a i; second = b i; count = c i; ending = d i; error = e i; refusal = f i }

-- ---- a step
pub steps-wait : (w : Wait) (time : ℕ) (p : List ℕ) {up : UserPresence} (up' : UserPresence) {rx : RecvStatus} (rx' : RecvStatus) (s : Responded) (o : WaitOutcome) → up ≡ up' → rx ≡ rx'
    → s ≡ step_of w time up rx p → o ≡ wait_outcome_of s.response → ◌≡◌ {A = FlatWait} (record { wait = s.wait; outcome = o }) (flat_wait_of (step_of w time up' rx' p))
steps-wait w time p up' rx' s o u x e k =
    ap (λ (t : WaitOutcome). record { wait = s.wait; outcome = t }) k ∙ ap flat_wait_of (e ∙ (λ i. step_of w time (u i) (x i) p))

pub ruleset telling-waits = (makes-wait, makes-no-wait, asks, tells-no-byte, tells-byte, tells-outcome, steps-wait)
