-- LOCK: what a `return` meets, and what is known of a transport of which more is known. Assumes nothing.
use Prim.Native.Nat.{ℕ, ◌+◌, ◌*◌, ◌≤◌, ◌<◌}
use mathlib.Core.Path.{◌≡◌, refl, sym, ap, ◌∙◌}
use mathlib.Core.List.{List, []}
use mathlib.Core.Bool.{Bool, true, false}
use borrow.Author.Tests.{lt-ltb, le-ltb}
use lib.Dec.{ltb, eqb}
use lib.ListN.{length, get_or}
use Rattle.ctaphid.specs.Choice.{pick}
use Rattle.ctaphid.specs.Commands.{LOCK}
use Rattle.ctaphid.specs.Errors.{InvalidLen, InvalidPar}
use Rattle.ctaphid.specs.Limits.{last_time}
use Rattle.ctaphid.specs.Transport.{Lock, Transport, Next, next, reply, error, with_lock, lock_for, on_lock}
use Rattle.ctaphid.proofs.Transport.{lock-long, lock-above, lock-released, lock-held}
use Rattle.packet.specs.declared.command.CtapHidCommand.TheVariants as command
use Rattle.answers.specs.declared.Answer.{Answer}
use Rattle.answers.specs.declared.Answer.TheVariants.{Refused, Reply}
use Rattle.answers.specs.Replies.{Answering, answering, laid_of}
use Rattle.answers.proofs.Laying.{laid-roomy}
use Rattle.channels.specs.declared.Locked.{Locked}
use Rattle.channels.specs.Locking.{Locking, held, locking, locked_by, lock_of}

-- ---- the cases
module _ (holder until time c : ℕ) (payload r : List ℕ) where
  abbrev l : Lock
  l = record { holder = holder; until = until }

  abbrev Answers : Locking → Type 0
  Answers v = v ≡ locked_by (on_lock (held l) time c payload) r

  by-law : {n : Next Transport} {v : Locking} → on_lock (held l) time c payload ≡ n → v ≡ locked_by n r → Answers v
  by-law law k = k ∙ ap (λ (t : Next Transport). locked_by t r) (sym law)

  module _ (a : Answer) (r' : List ℕ) (roomy : 17 ≤ length r) where
    abbrev kept : Locking
    kept = locking (record { lock = until; locked = holder; answer = a }) r'

    pub lock-is-long : (length payload ≡ 1 → ⊥) → answering a r' ≡ laid_of (error c InvalidLen) r → Answers kept
    lock-is-long z k =
        by-law (lock-long (held l) time c payload z)
        (ap (λ (t : Answering). locking (record { lock = until; locked = holder; answer = t.answer }) t.reply) (k ∙ laid-roomy (error c InvalidLen) r roomy))

    pub lock-is-above : length payload ≡ 1 → 10 < get_or payload 0 0 → answering a r' ≡ laid_of (error c InvalidPar) r → Answers kept
    lock-is-above z h k =
        by-law (lock-above (held l) time c payload z h)
        (ap (λ (t : Answering). locking (record { lock = until; locked = holder; answer = t.answer }) t.reply) (k ∙ laid-roomy (error c InvalidPar) r roomy))

  module _ (x : Locked) (z : length payload ≡ 1) where
    pub lock-is-released : get_or payload 0 0 ≡ 0 → x ≡ record { lock = 0; locked = 0; answer = Reply c command.Lock 0 } → Answers (locking x r)
    lock-is-released h k = by-law (lock-released (held l) time c payload z h) (ap (λ (t : Locked). locking t r) k)

    pub lock-is-held : get_or payload 0 0 ≤ 10 → (get_or payload 0 0 ≡ 0 → ⊥) → x ≡ record { lock = time + 1000 * get_or payload 0 0; locked = c; answer = Reply c command.Lock 0 } → Answers (locking x r)
    lock-is-held h e k = by-law (lock-held (held l) time c payload z h e) (ap (λ (t : Locked). locking t r) k)

  -- ---- refusals
  pub lock-short : length r < 17 → locking (record { lock = until; locked = holder; answer = Refused 2 }) r ≡ lock_of l time c payload r
  unfolding lock_of pick
  lock-short h = simp (lt-ltb (length r) 17 h)

  module _ (roomy : 17 ≤ length r) where
    pub lock-late : last_time < time → locking (record { lock = until; locked = holder; answer = Refused 4 }) r ≡ lock_of l time c payload r
    unfolding lock_of pick
    lock-late h = simp (le-ltb (length r) 17 roomy, lt-ltb last_time time h)

    pub lock-answered : (v : Locking) → time ≤ last_time → Answers v → v ≡ lock_of l time c payload r
    unfolding lock_of pick
    lock-answered v h k = simp (le-ltb (length r) 17 roomy, le-ltb last_time time h) k

pub ruleset locks = (lock-is-long, lock-is-above, lock-is-released, lock-is-held)

pub ruleset lock-calls = (lock-short, lock-late, lock-answered)

-- ---- what LOCK does to any transport
pub lock-any : (d : Transport) (time c : ℕ) (payload : List ℕ)
    → on_lock d time c payload ≡ next (with_lock d (on_lock (held d.lock) time c payload).state.lock) (on_lock (held d.lock) time c payload).answer
unfolding on_lock pick
lock-any d time c payload = by_tests (eqb (length payload) 1) (ltb 10 (get_or payload 0 0))
  where
    led : Transport → (a b : Bool) → Next Transport
    led t a b = pick a (pick b (next t (error c InvalidPar)) (next (with_lock t (lock_for time c (get_or payload 0 0))) (reply c LOCK []))) (next t (error c InvalidLen))

    by_tests : (a b : Bool) → led d a b ≡ next (with_lock d (led (held d.lock) a b).state.lock) (led (held d.lock) a b).answer
    by_tests true true = refl
    by_tests true false = refl
    by_tests false b = refl
