-- What a LOCK leaves, from what the standard's transport does. Assumes nothing.
use Rattle.std.specs.Prelude.{ℕ, List, [], ◌∷◌, false, length, ltb}
use Rattle.ctaphid.specs.Choice.{refusing}
use Rattle.ctaphid.specs.Limits.{short_reply, last_time}
use Rattle.ctaphid.specs.Transport.{Lock, Transport, Next, fresh, with_lock, on_lock}
use Rattle.answers.specs.declared.Answer.TheVariants.{Refused}
use Rattle.answers.specs.Answers.{answer_of, replied}
use Rattle.channels.specs.declared.Locked.{Locked}

-- all that a call leaves: what it returns, and the short buffer
pub record Locking : Type 0 where
  pub locked : Locked
  pub reply : List ℕ

abbrev pub locking : Locked → List ℕ → Locking
locking x r = record { locked = x; reply = r }

-- a transport that is locked so. LOCK alters the lock alone, and looks at nothing of the transport
abbrev pub held : Lock → Transport
held l = with_lock (fresh (record { maximum = 0; u2f = false; vendor = [] })) l

abbrev pub locked_by : Next Transport → (short : List ℕ) → Locking
locked_by n r =
    locking (record { lock = n.state.lock.until; locked = n.state.lock.holder; answer = answer_of n.answer }) (replied n.answer r)

-- refusals: 2, the short buffer has fewer than 17 bytes; 4, the time is above 2^48 - 1
unfoldable pub lock_of : Lock → (time cid : ℕ) → (payload short : List ℕ) → Locking
lock_of l time c payload r =
    refusing (λ number. locking (record { lock = l.until; locked = l.holder; answer = Refused number }) r)
    ((ltb (length r) short_reply, 2) ∷ (ltb last_time time, 4) ∷ [])
    (locked_by (on_lock (held l) time c payload) r)
