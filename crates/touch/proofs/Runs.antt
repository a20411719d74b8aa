-- The code's wait over whole runs is the definition's. Assumes nothing.
use Prim.Native.Nat.{ℕ, ◌+◌, ◌≤◌}
use mathlib.Core.Path.{◌≡◌, refl, sym, ap, subst, ◌∙◌}
use mathlib.Core.List.{List, [], ◌∷◌}
use mathlib.Core.Bool.{true, false, not}
use mathlib.Core.Logic.{◌⊎◌, inl, inr}
use borrow.Author.Tests.{le-ltb, eq-eqb}
use lib.ListN.{length}
use lib.Dec.{ltb}
use Rattle.ctaphid.specs.Choice.{pick}
use Rattle.ctaphid.specs.Limits.{last_time, packet_size}
use Rattle.ctaphid.specs.Touch as standard
use Rattle.ctaphid.specs.Touch.{Place, place, Arrival, Sensor, Moment, on_sensor, on_packet, on_arrival, touch_step}
use Rattle.ctaphid.specs.Waits.{standard_wait, going_on, waited, Whole, Taken, Right, Waits}
use Rattle.ctaphid.proofs.Tests.{pick_known, pick-both}
use Rattle.ctaphid.proofs.Waits.{step_right, followed, waits}
use Rattle.touch.specs.declared.Wait.{Wait}
use Rattle.touch.specs.declared.Responded.{Responded}
use Rattle.touch.specs.Meaning.{wait_meant, arrival_meant, sensor_meant, response_of, response_meant, ending_of}
use Rattle.touch.specs.Waiting.{begin_of, is_cut, at, step_of}
use Rattle.touch.specs.Runs.{presence_of, received_of, bytes_of, called, begins, the_code, is_refused, accepted, answered, WaitsAmongRefused}

-- ---- what is laid out is read back

back-sensor : (active : Place) (s : Sensor) → response_meant (response_of (on_sensor active s)) ≡ on_sensor active s
unfolding response_of on_sensor
back-sensor active standard.touch = refl
back-sensor active standard.timeout = refl
back-sensor active (standard.error n) = refl

back-busy : (active from : Place) (s : Sensor) → response_meant (response_of (standard.before (standard.busy from) (on_sensor active s))) ≡ standard.before (standard.busy from) (on_sensor active s)
unfolding response_of on_sensor
back-busy active from standard.touch = refl
back-busy active from standard.timeout = refl
back-busy active from (standard.error n) = refl

abbrev Back : standard.Response → Type 0
Back r = response_meant (response_of r) ≡ r

silent-back : (e : standard.Ending) → Back (standard.respond [] e)
unfolding response_of
silent-back standard.not_yet = refl
silent-back standard.touched = refl
silent-back standard.cancelled = refl
silent-back standard.timed_out = refl
silent-back (standard.failed n) = refl

back-arrival : (active : Place) (a : Arrival) (s : Sensor) → Back (on_arrival active a s)
unfolding on_arrival on_packet
back-arrival active standard.none s = back-sensor active s
back-arrival active (standard.packet i p) s =
    pick-both Back _ _ _
    (pick-both Back _ _ _ (silent-back standard.cancelled) (back-sensor active s))
    (back-busy active (place i _) s)

pub back : (w : standard.Wait) (m : Moment) → Back (touch_step w m)
unfolding touch_step
back w m = pick-both Back _ _ _ (silent-back standard.timed_out) (back-arrival w.active m.arrival m.sensor)

-- ---- the words of a call

said-arrival : (a : Arrival) → arrival_meant (received_of a) (bytes_of a) ≡ a
said-arrival standard.none = refl
said-arrival (standard.packet i p) = refl

said-sensor : (s : Sensor) → sensor_meant (presence_of s) ≡ s
said-sensor standard.touch = refl
said-sensor standard.timeout = refl
said-sensor (standard.error n) = refl

-- ---- a call that is not refused
abbrev taking : Wait → Moment → Responded
taking w m = record { wait = at m.time w; response = response_of (touch_step (wait_meant w) m) }

whole-arrival : (a : Arrival) → Whole a → is_cut (received_of a) (length (bytes_of a)) ≡ false
whole-arrival standard.none h = refl
whole-arrival (standard.packet i p) h = ap not (eq-eqb (length p) packet_size h)

is-taking : (w : Wait) (m : Moment)
    → ◌≡◌ {A = Responded} (record { wait = at m.time w; response = response_of (touch_step (wait_meant w) (record { time = m.time; arrival = arrival_meant (received_of m.arrival) (bytes_of m.arrival); sensor = sensor_meant (presence_of m.sensor) })) })
    (taking w m)
is-taking w m = λ i. record { wait = at m.time w; response = response_of (touch_step (wait_meant w) (record { time = m.time; arrival = said-arrival m.arrival i; sensor = said-sensor m.sensor i })) }

taken : (w : Wait) (m : Moment) → w.last ≤ m.time → m.time ≤ last_time → Whole m.arrival → called w m ≡ taking w m
unfolding step_of pick
taken w m onward in-range h =
    simp (whole-arrival m.arrival h, le-ltb last_time m.time in-range, le-ltb m.time w.last onward) (is-taking w m)

-- ---- any call: it is refused and alters nothing, or it is taken
abbrev Refuses : Wait → Responded → Type 0
Refuses w r = (r.wait ≡ w) × (is_refused r.response.ending ≡ true)

either : (w : Wait) (m : Moment) → Refuses w (called w m) ⊎ (called w m ≡ taking w m)
unfolding step_of
either w m =
    pick_known S (is_cut (received_of m.arrival) (length (bytes_of m.arrival))) _ _
    (λ e. inl (refl, refl))
    (λ e. pick_known S (ltb last_time m.time) _ _
    (λ e. inl (refl, refl))
    (λ e. pick_known S (ltb m.time w.last) _ _ (λ e. inl (refl, refl)) (λ e. inr (is-taking w m))))
  where
    S : Responded → Type 0
    S r = Refuses w r ⊎ (r ≡ taking w m)

not-refused : (r : standard.Response) → is_refused (response_of r).ending ≡ false
unfolding response_of
not-refused r = by-ending r.ending
  where
    by-ending : (e : standard.Ending) → is_refused (ending_of e) ≡ false
    by-ending standard.not_yet = refl
    by-ending standard.touched = refl
    by-ending standard.cancelled = refl
    by-ending standard.timed_out = refl
    by-ending (standard.failed n) = refl

-- ---- whatever is called
abbrev RightFrom : Wait → List Moment → List standard.Response → Type 0
RightFrom w ms rs = Right (wait_meant w).active w.deadline ms rs

module _ (w : Wait) (m : Moment) (rest : List Moment) (rec : (v : Wait) → RightFrom v (accepted v rest) (answered v rest)) where
  -- what is asked of the calls from here on, by what the first is answered
  abbrev Asked : Responded → Type 0
  Asked r =
      RightFrom w (pick (is_refused r.response.ending) (accepted r.wait rest) (m ∷ accepted r.wait rest))
      (pick (is_refused r.response.ending) (answered r.wait rest) (response_meant r.response ∷ going_on (response_meant r.response).ending (answered r.wait rest)))

  abbrev Answered : standard.Response → Type 0
  Answered x = RightFrom w (m ∷ accepted (at m.time w) rest) (x ∷ going_on x.ending (answered (at m.time w) rest))

  one-call : Refuses w (called w m) ⊎ (called w m ≡ taking w m) → Asked (called w m)
  unfolding pick
  one-call (inl (same, refused)) =
      simp refused (subst (λ (v : Wait). RightFrom v (accepted (called w m).wait rest) (answered (called w m).wait rest)) same (rec (called w m).wait))
  one-call (inr is) = subst Asked (sym is) (simp (not-refused (touch_step (wait_meant w) m)) (subst Answered (sym (back (wait_meant w) m)) step))
    where
      step : Answered (touch_step (wait_meant w) m)
      step =
          let s = step_right (wait_meant w) m in
          (s.0, s.1, followed (touch_step (wait_meant w) m).ending (RightFrom w (accepted (at m.time w) rest)) (answered (at m.time w) rest) (rec (at m.time w)))

calls-right : (w : Wait) (calls : List Moment) → RightFrom w (accepted w calls) (answered w calls)
calls-right w [] = refl
calls-right w (m ∷ rest) = one-call w m rest (λ v. calls-right v rest) (either w m)

-- ---- from the beginning
abbrev fresh : (active : Place) → (start limit : ℕ) → Wait
fresh active start limit = record { deadline = start + limit; last = start; interface = active.interface; cid = active.channel }

is-fresh : (active : Place) (start limit : ℕ) → start ≤ last_time → begins active start limit ≡ fresh active start limit
unfolding begin_of pick
is-fresh active start limit h = simp (le-ltb last_time start h)

pub waits-among-refused : WaitsAmongRefused
waits-among-refused active start limit calls h =
    subst (λ (w : Wait). Right active (start + limit) (accepted w calls) (answered w calls)) (sym (is-fresh active start limit h)) (calls-right (fresh active start limit) calls)

-- ---- where none is refused
alike : (w : Wait) (ms : List Moment) → Taken w.last ms → waited the_code w ms ≡ waited standard_wait (wait_meant w) ms
alike w [] t = refl
alike w (m ∷ rest) (onward, in-range, h, t) =
    ap (λ (r : Responded). response_meant r.response ∷ going_on (response_meant r.response).ending (waited the_code r.wait rest)) (taken w m onward in-range h)
    ∙ (λ i. back (wait_meant w) m i ∷ going_on (back (wait_meant w) m i).ending (alike (at m.time w) rest t i))

pub the-code-waits : Waits the_code
the-code-waits active start limit ms h t =
    subst (λ (w : Wait). Right active (start + limit) ms (waited the_code w ms)) (sym (is-fresh active start limit h))
    (subst (Right active (start + limit) ms) (sym (alike (fresh active start limit) ms t)) (waits active start limit ms h t))
