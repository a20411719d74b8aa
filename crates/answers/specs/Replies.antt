-- An answer of the standard's, laid out in numbers and in the short reply buffer. Assumes nothing.
use Rattle.std.specs.Prelude.{ℕ, List, [], ◌∷◌, Bool, false, not, length, ltb}
use Rattle.ctaphid.specs.Choice.{pick, refusing}
use Rattle.ctaphid.specs.Limits.{short_reply}
use Rattle.ctaphid.specs.Transport as standard
use Rattle.ctaphid.specs.Transport.{nothing, reply, request}
use Rattle.answers.specs.declared.Answer.{Answer}
use Rattle.answers.specs.declared.Answer.TheVariants.{Refused}
use Rattle.answers.specs.Answers.{is_echo, answer_of, replied}

-- all that a call leaves: its answer, and the short buffer
pub record Answering : Type 0 where
  pub answer : Answer
  pub reply : List ℕ

abbrev pub answering : Answer → List ℕ → Answering
answering a r = record { answer = a; reply = r }

-- whether it goes into the short buffer
abbrev pub is_short : standard.Answer → Bool
is_short nothing = false
is_short (reply c cmd payload) = not (is_echo cmd)
is_short (request c cmd payload) = false

-- refusal 2: a reply goes into the short buffer, and that has fewer than 17 bytes
unfoldable pub laid_of : standard.Answer → (short : List ℕ) → Answering
laid_of a r =
    refusing (λ number. answering (Refused number) r)
    ((pick (is_short a) (ltb (length r) short_reply) false, 2) ∷ [])
    (answering (answer_of a) (replied a r))
