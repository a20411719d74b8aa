-- Where an answer's payload lies. Assumes nothing.
use Rattle.std.specs.Prelude.{ℕ, ◌≡◌, List, [], length, take, leb}
use Rattle.std.specs.Borrow.{Bor}
use Rattle.ctaphid.specs.Choice.{pick}
use Rattle.answers.specs.declared.Answer.{Answer}
use Rattle.answers.specs.declared.Answer.TheVariants.{Refused, Nothing, Message, Echo, Reply}

-- the first bytes, or none where there are fewer
unfoldable pub up_to : ℕ → List ℕ → List ℕ
up_to len l = pick (leb len (length l)) (take len l) []

-- x is those first bytes, and is that part of the buffer itself
pub record IsFront (len : ℕ) (l x : Bor (List ℕ)) : Type 0 where
  pub bytes : x.now ≡ up_to len l.now
  pub place : x.ref_ptr ≡ l.ref_ptr

-- an answer without a payload has the empty part of the message buffer
abbrev pub payload_of : Answer → (message short : List ℕ) → List ℕ
payload_of (Refused number) m r = []
payload_of Nothing m r = []
payload_of (Message c cmd len) m r = up_to len m
payload_of (Echo c cmd len) m r = up_to len m
payload_of (Reply c cmd len) m r = up_to len r

-- every part begins where its buffer does
abbrev pub place_of : {P : Type 0} → Answer → (message short : P) → P
place_of (Refused number) m r = m
place_of Nothing m r = m
place_of (Message c cmd len) m r = m
place_of (Echo c cmd len) m r = m
place_of (Reply c cmd len) m r = r

-- x is the answer's payload, and is that part of the buffer itself
pub record IsPayload (a : Answer) (m r x : Bor (List ℕ)) : Type 0 where
  pub bytes : x.now ≡ payload_of a m.now r.now
  pub place : x.ref_ptr ≡ place_of a m.ref_ptr r.ref_ptr
