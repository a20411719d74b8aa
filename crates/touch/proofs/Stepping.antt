-- Beginning, the question and a step, test by test. Assumes nothing.
use Prim.Native.Nat.{ℕ, ◌+◌, ◌≤◌, ◌<◌}
use mathlib.Core.Path.{◌≡◌, sym, ap, ◌∙◌}
use mathlib.Core.List.{List}
use mathlib.Core.Bool.{Bool, true, false, not}
use borrow.Author.Tests.{lt-ltb, le-ltb, le-leb, lt-leb, eqb-true, not-false}
use lib.ListN.{length}
use lib.Dec.{eqb}
use Rattle.ctaphid.specs.Choice.{pick}
use Rattle.ctaphid.specs.Limits.{last_time, packet_size}
use Rattle.ctaphid.specs.Touch.{place, on_arrival, touch_step}
use Rattle.touch.specs.declared.Wait.{Wait}
use Rattle.touch.specs.declared.Begun.{Begun}
use Rattle.touch.specs.declared.Begun.TheVariants as beginning
use Rattle.touch.specs.declared.Elapsed.{Elapsed}
use Rattle.touch.specs.declared.Elapsed.TheVariants as elapsed
use Rattle.touch.specs.declared.UserPresence.{UserPresence}
use Rattle.touch.specs.declared.RecvStatus.{RecvStatus}
use Rattle.touch.specs.declared.RecvStatus.TheVariants.{Received}
use Rattle.touch.specs.declared.Ending.TheVariants.{TimedOut}
use Rattle.touch.specs.declared.Response.{Response}
use Rattle.touch.specs.declared.Responded.{Responded}
use Rattle.touch.specs.Meaning.{arrival_meant, sensor_meant, response_of, silent}
use Rattle.touch.specs.Waiting.{begin_of, elapsed_of, is_cut, at, refused_by, step_of}

-- ---- beginning
module _ (i c time limit : ℕ) (r : Begun) where
  pub begin-late : last_time < time → r ≡ beginning.Refused 4 → r ≡ begin_of i c time limit
  unfolding begin_of pick
  begin-late h k = simp (lt-ltb last_time time h) k

  pub begins : time ≤ last_time → r ≡ beginning.Wait (record { deadline = time + limit; last = time; interface = i; cid = c }) → r ≡ begin_of i c time limit
  unfolding begin_of pick
  begins h k = simp (le-ltb last_time time h) k

-- ---- the question
module _ (w : Wait) (time : ℕ) (r : Elapsed) where
  pub asked-late : last_time < time → r ≡ elapsed.Refused 4 → r ≡ elapsed_of w time
  unfolding elapsed_of pick
  asked-late h k = simp (lt-ltb last_time time h) k

  module _ (in-range : time ≤ last_time) where
    pub asked-back : time < w.last → r ≡ elapsed.Refused 4 → r ≡ elapsed_of w time
    unfolding elapsed_of pick
    asked-back h k = simp (le-ltb last_time time in-range, lt-ltb time w.last h) k

    module _ (onward : w.last ≤ time) where
      pub still-runs : time < w.deadline → r ≡ elapsed.No → r ≡ elapsed_of w time
      unfolding elapsed_of pick
      still-runs h k = simp (le-ltb last_time time in-range, le-ltb time w.last onward, lt-leb w.deadline time h) k

      pub has-elapsed : w.deadline ≤ time → r ≡ elapsed.Yes → r ≡ elapsed_of w time
      unfolding elapsed_of pick
      has-elapsed h k = simp (le-ltb last_time time in-range, le-ltb time w.last onward, le-leb w.deadline time h) k

pub ruleset asking = (asked-late, asked-back, still-runs, has-elapsed)

-- ---- a step
module _ (w : Wait) (time : ℕ) (up : UserPresence) (rx : RecvStatus) (p : List ℕ) (b : Bool) (is : b ≡ is_cut rx (length p)) where
  pub step_cut : (r : Responded) → b ≡ true → r ≡ refused_by w 1 → r ≡ step_of w time up rx p
  unfolding step_of pick
  step_cut r t k = simp (sym is ∙ t) k

  module _ (whole : b ≡ false) where
    pub step-late : (r : Responded) → last_time < time → r ≡ refused_by w 4 → r ≡ step_of w time up rx p
    unfolding step_of pick
    step-late r h k = simp (sym is ∙ whole, lt-ltb last_time time h) k

    module _ (in-range : time ≤ last_time) where
      pub step_back : (r : Responded) → time < w.last → r ≡ refused_by w 4 → r ≡ step_of w time up rx p
      unfolding step_of pick
      step_back r h k = simp (sym is ∙ whole, le-ltb last_time time in-range, lt-ltb time w.last h) k

      module _ (onward : w.last ≤ time) (n : Wait) (next : n ≡ at time w) (s : Response) where
        abbrev leaves : Responded
        leaves = record { wait = n; response = s }

        pub step-over : w.deadline ≤ time → s ≡ silent TimedOut → leaves ≡ step_of w time up rx p
        unfolding step_of touch_step response_of pick
        step-over h k =
            simp (sym is ∙ whole, le-ltb last_time time in-range, le-ltb time w.last onward, le-leb w.deadline time h) (λ i. record { wait = next i; response = k i })

        pub step_in : time < w.deadline → s ≡ response_of (on_arrival (place w.interface w.cid) (arrival_meant rx p) (sensor_meant up)) → leaves ≡ step_of w time up rx p
        unfolding step_of touch_step pick
        step_in h k =
            simp (sym is ∙ whole, le-ltb last_time time in-range, le-ltb time w.last onward, lt-leb w.deadline time h) (λ i. record { wait = next i; response = k i })

pub ruleset stepping = (step_cut, step-late, step_back, step-over, step_in)

-- ---- a packet that arrived and isn't cut
pub cut-received : (rx : RecvStatus) (size : ℕ) {from : ℕ} (r : Bool) → rx ≡ Received from → r ≡ not (eqb size packet_size) → r ≡ is_cut rx size
cut-received rx size r e k = k ∙ ap (λ (x : RecvStatus). is_cut x size) (sym e)

pub not-cut : (rx : RecvStatus) (size : ℕ) (b : Bool) → b ≡ is_cut rx size → b ≡ false → is_cut rx size ≡ false
not-cut rx size b is whole = sym is ∙ whole

pub whole-packet : (rx : RecvStatus) (size : ℕ) {from : ℕ} → is_cut rx size ≡ false → rx ≡ Received from → size ≡ 64
whole-packet rx size h e = eqb-true size packet_size (not-false (eqb size packet_size) (sym (ap (λ (x : RecvStatus). is_cut x size) e) ∙ h))
