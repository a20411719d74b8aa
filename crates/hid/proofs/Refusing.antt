-- Refusals: what a `return` before the checks meets, and what is known where none refuses. Assumes nothing.
use Prim.Native.Nat.{ℕ, ◌≤◌, ◌<◌}
use native.Mathlib.Omega.{arith}
use mathlib.Core.Path.{◌≡◌, refl, sym, ◌∙◌}
use mathlib.Core.List.{List}
use mathlib.Core.Bool.{Bool, true, false}
use borrow.Author.Tests.{eq-eqb, ne_eqb, eqb-true, lt-ltb, le-ltb, ltb-false, not-false}
use lib.Dec.{eqb}
use lib.ListN.{length}
use Rattle.ctaphid.specs.Choice.{pick}
use Rattle.ctaphid.specs.Limits.{last_time, packet_size}
use Rattle.ctaphid.specs.Packets.{read}
use Rattle.ctaphid.proofs.Refusing.{refused-by, Passed, passed, none-refuse}
use Rattle.answers.specs.declared.Answer.TheVariants.{Refused}
use Rattle.hid.specs.declared.CtapHid.{CtapHid}
use Rattle.hid.specs.declared.Running.{Running}
use Rattle.hid.specs.declared.Running.TheVariants as running
use Rattle.hid.specs.Soundness.{Sound, is_sound}
use Rattle.hid.specs.Hearing.{Stepping, stepping, heard_of, Admits}
use Rattle.hid.specs.Refusals.{refusals, refused_time, refusal_of}
use Rattle.hid.specs.Transport.{admitted_of}
use Rattle.hid.specs.Questions.{running_at, running_where}
use Rattle.hid.proofs.Sound.{sound-is}

-- ---- which number
module _ (s : CtapHid) (wink time size room short : ℕ) where
  pub refusal-1 : (size ≡ packet_size → ⊥) → 1 ≡ refusal_of s wink time size room short
  unfolding refusal_of pick
  refusal-1 e = simp (ne_eqb size packet_size e)

  module _ (whole : size ≡ packet_size) where
    pub refusal-2 : room < s.max → 2 ≡ refusal_of s wink time size room short
    unfolding refusal_of pick
    refusal-2 h = simp (eq-eqb size packet_size whole, lt-ltb room s.max h)

    module _ (roomy : s.max ≤ room) where
      pub refusal-short : short < 17 → 2 ≡ refusal_of s wink time size room short
      unfolding refusal_of pick
      refusal-short h = simp (eq-eqb size packet_size whole, le-ltb room s.max roomy, lt-ltb short 17 h)

      module _ (long : 17 ≤ short) where
        pub refusal-3 : {b : Bool} → b ≡ is_sound s wink → b ≡ false → 3 ≡ refusal_of s wink time size room short
        unfolding refusal_of pick
        refusal-3 {b} e k = simp (eq-eqb size packet_size whole, le-ltb room s.max roomy, le-ltb short 17 long, sym e ∙ k)

        pub refusal-4 : {b : Bool} {n : ℕ} → b ≡ is_sound s wink → b ≡ true → n ≡ refused_time s.last time → n ≡ refusal_of s wink time size room short
        unfolding refusal_of pick
        refusal-4 {b} {n} e k h = simp (eq-eqb size packet_size whole, le-ltb room s.max roomy, le-ltb short 17 long, sym e ∙ k) h

pub ruleset refusal = (refusal-1, refusal-2, refusal-short, refusal-3, refusal-4)

-- ---- a question
module _ (sound : Bool) (last time until : ℕ) (b : Bool) (e : b ≡ sound) where
  pub running-unsound : b ≡ false → running.Refused 3 ≡ running_where sound last time until
  unfolding pick
  running-unsound k = simp (sym e ∙ k)

  pub running-sound : (r : Running) → b ≡ true → r ≡ running_at last time until → r ≡ running_where sound last time until
  unfolding pick
  running-sound r k h = simp (sym e ∙ k) h

-- ---- none refuses
pub admits-passed : (s : CtapHid) (wink time : ℕ) (p m r : List ℕ) → Passed (refusals s wink time (length p) (length m) (length r)) → Sound s wink × Admits s time p m × (17 ≤ length r)
admits-passed s wink time p m r g =
    let sound : Sound s wink = sound-is s wink (not-false (is_sound s wink) g.1.1.1.0) in (
      sound,
      record {
        size = eqb-true (length p) packet_size (not-false (eqb (length p) packet_size) g.0);
        room = ltb-false (length m) s.max g.1.0;
        sound = record {
          maximum = sound.maximum;
          count = sound.count;
          last = sound.last;
          deadline = sound.deadline;
          lock = sound.lock;
          wink = omega arith;
          holder = sound.holder;
          transaction = sound.transaction;
          due = sound.due;
          channel = sound.channel;
        };
        early = ltb-false last_time time g.1.1.1.1.0;
        later = ltb-false time s.last g.1.1.1.1.1.0;
      },
      ltb-false (length r) 17 g.1.1.0,
    )

module _ (s : CtapHid) (wink time : ℕ) (p m r : List ℕ) (n : ℕ) (e : n ≡ refusal_of s wink time (length p) (length m) (length r)) (none : n ≡ 0) where
  pub tests-passed : Passed (refusals s wink time (length p) (length m) (length r))
  unfolding refusal_of
  tests-passed = passed (refusals s wink time (length p) (length m) (length r)) refl (sym none ∙ e)

  pub admits-is : Sound s wink × Admits s time p m × (17 ≤ length r)
  admits-is = admits-passed s wink time p m r tests-passed

-- ---- a step
module _ (s : CtapHid) (wink time : ℕ) (disabled : Bool) (p m r : List ℕ) {n : ℕ} (e : n ≡ refusal_of s wink time (length p) (length m) (length r)) where
  pub step-refused : (n ≡ 0 → ⊥) → stepping (record { hid = s; answer = Refused n }) m r ≡ admitted_of s wink time disabled p m r
  unfolding admitted_of refusal_of
  step-refused some = refused-by (λ number. stepping (record { hid = s; answer = Refused number }) m r) (refusals s wink time (length p) (length m) (length r)) _ n e some

  pub step-admitted : n ≡ 0 → Admits s time p m × (17 ≤ length r)
  step-admitted none = let a = admits-is s wink time p m r n e none in (a.1, a.2)

  pub step-heard : n ≡ 0 → (x : Stepping) → x ≡ heard_of s time disabled (read p) m r → x ≡ admitted_of s wink time disabled p m r
  unfolding admitted_of
  step-heard none x k = k ∙ sym (none-refuse (λ number. stepping (record { hid = s; answer = Refused number }) m r) (refusals s wink time (length p) (length m) (length r)) (heard_of s time disabled (read p) m r) (tests-passed s wink time p m r n e none))

pub ruleset step = (step-refused, step-admitted, step-heard)
