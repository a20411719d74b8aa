-- What an INIT leaves, from what the standard's transport does. Assumes nothing.
use Rattle.std.specs.Prelude.{ℕ, List, [], ◌∷◌, Bool, length, ltb}
use Rattle.ctaphid.specs.Choice.{refusing}
use Rattle.ctaphid.specs.Limits.{short_reply}
use Rattle.ctaphid.specs.Transport.{Transport, Next, fresh, with_allocated, on_init}
use Rattle.answers.specs.declared.Answer.TheVariants.{Refused}
use Rattle.answers.specs.Answers.{answer_of, replied}
use Rattle.channels.specs.declared.Allocated.{Allocated}

-- all that a call leaves: what it returns, and the short buffer
pub record Allocating : Type 0 where
  pub allocated : Allocated
  pub reply : List ℕ

abbrev pub allocating : Allocated → List ℕ → Allocating
allocating x r = record { allocated = x; reply = r }

-- a transport with so many channels, with U2F or without. INIT looks at nothing else of it, and alters the count alone
abbrev pub having : (allocated : ℕ) → (u2f : Bool) → Transport
having n u2f = with_allocated (fresh (record { maximum = 0; u2f = u2f; vendor = [] })) n

abbrev pub allocated_by : Next Transport → (short : List ℕ) → Allocating
allocated_by n r = allocating (record { allocated = n.state.allocated; answer = answer_of n.answer }) (replied n.answer r)

-- refusals: 2, the short buffer has fewer than 17 bytes; 3, the count is above FFFFFFFE
unfoldable pub init_of : (allocated : ℕ) → (u2f : Bool) → (cid : ℕ) → (nonce short : List ℕ) → Allocating
init_of n u2f c nonce r =
    refusing (λ number. allocating (record { allocated = n; answer = Refused number }) r)
    ((ltb (length r) short_reply, 2) ∷ (ltb 0xffff_fffe n, 3) ∷ [])
    (allocated_by (on_init (having n u2f) c nonce) r)
