-- A sender: what it answers call by call, and what it is afterwards. Assumes nothing.
use Rattle.std.specs.Prelude.{ℕ, ◌+◌, ◌≤◌, ◌≡◌, List, [], ◌∷◌, ◌++◌, map, Bool, false, not, length, get_or, ltb, eqb}
use Rattle.std.specs.Borrow.{Bor}
use Rattle.ctaphid.specs.Choice.{pick, refusing}
use Rattle.ctaphid.specs.Limits.{packet_size, largest}
use Rattle.ctaphid.specs.Messages.{count, wire}
use Rattle.send.specs.declared.sender.Admission.{Admission}
use Rattle.send.specs.declared.sender.Admission.TheVariants.{Admitted, Refused as NotAdmitted}
use Rattle.send.specs.declared.sender.Next.{Next}
use Rattle.send.specs.declared.sender.Next.TheVariants.{Packet, NoneLeft, Refused}
use Rattle.send.specs.declared.sender.Sender.{Sender}
use Rattle.send.specs.declared.sender.Started.{Started}

-- 12: a command above 127; 7: over 7,609 bytes
unfoldable pub admitted : (cmd : ℕ) → List ℕ → Admission
admitted cmd payload =
    refusing NotAdmitted ((ltb 127 cmd, 12) ∷ (ltb largest (length payload), 7) ∷ []) Admitted

-- a sender at its start
abbrev pub started_of : Bor (List ℕ) → (cid cmd : ℕ) → Started
started_of payload cid cmd =
    record { sender = record { payload = payload; cid = cid; cmd = cmd; next = 0 }; answer = admitted cmd payload.now }

-- a packet is left where the message can be sent and the place is one of its packets'
unfoldable pub has_more : (cmd : ℕ) → List ℕ → (place : ℕ) → Bool
has_more cmd payload place =
    pick (ltb 127 cmd) false (pick (ltb largest (length payload)) false (ltb place (count 57 59 (length payload))))

-- all that a call leaves: the answer, the next place, and the packet's bytes
pub record Sent : Type 0 where
  pub answer : Next
  pub next : ℕ
  pub packet : List ℕ

abbrev pub sent : Next → ℕ → List ℕ → Sent
sent answer place p = record { answer = answer; next = place; packet = p }

-- 1: the packet isn't 64 bytes. While a packet is left it is written and the place moves on by one; then nothing alters
unfoldable pub sent_of : (cid cmd : ℕ) → List ℕ → (place : ℕ) → List ℕ → Sent
sent_of cid cmd payload place old =
    refusing (λ number. sent (Refused number) place old)
    ((not (eqb (length old) packet_size), 1) ∷ [])
    (pick (has_more cmd payload place)
    (sent Packet (place + 1) (get_or (wire cid cmd payload) place []))
    (sent NoneLeft place old))

abbrev pub sent_by : Sender → List ℕ → Sent
sent_by s old = sent_of s.cid s.cmd s.payload.now s.next old

abbrev pub placed : Sender → ℕ → Sender
placed s place = record { payload = s.payload; cid = s.cid; cmd = s.cmd; next = place }

-- a call of `next`: what it answers, and what it leaves of the sender s and of the packet `old`
pub record Sends (s : Sender) (old : List ℕ) (answer : Next) (after : Sender) (packet : List ℕ) : Type 0 where
  pub answers : answer ≡ (sent_by s old).answer
  pub moves : after ≡ placed s (sent_by s old).next
  pub writes : packet ≡ (sent_by s old).packet

-- ---- a sender driven to its end

-- calls of `next`, one for each packet that is lent: what each answers, and what it leaves in the packet
unfoldable pub calls : Sender → List (List ℕ) → List (Next × List ℕ)
calls s [] = []
calls s (old ∷ rest) = ((sent_by s old).answer, (sent_by s old).packet) ∷ calls (placed s (sent_by s old).next) rest

abbrev pub Each64 : List (List ℕ) → Type 0
Each64 [] = Unit {0}
Each64 (p ∷ rest) = (length p ≡ 64) × Each64 rest

abbrev pub packet_written : List ℕ → Next × List ℕ
packet_written p = (Packet, p)

abbrev pub nothing_written : List ℕ → Next × List ℕ
nothing_written old = (NoneLeft, old)

-- a message that can be sent, and as many lent packets as it has: they are written in order, each once. However many more are lent, none is left and
-- they stay as they came
abbrev pub SendsAll : Type 0
SendsAll =
    (payload : Bor (List ℕ)) (cid cmd : ℕ) → cmd ≤ 127 → length payload.now ≤ 7609
    → (lent more : List (List ℕ)) → Each64 (lent ++ more) → length lent ≡ length (wire cid cmd payload.now)
    → calls (started_of payload cid cmd).sender (lent ++ more) ≡ map packet_written (wire cid cmd payload.now) ++ map nothing_written more
