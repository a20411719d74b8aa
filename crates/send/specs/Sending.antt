-- What sending a message's packets answers, and what it leaves in the packet that is lent. Assumes nothing.
use Rattle.std.specs.Prelude.{ℕ, ◌+◌, ◌/◌, ◌≤◌, ◌<◌, ◌≡◌, List, [], ◌∷◌, not, length, get_or, ltb, leb, eqb}
use Rattle.ctaphid.specs.Choice.{refusing}
use Rattle.ctaphid.specs.Limits.{packet_size, largest}
use Rattle.ctaphid.specs.Messages.{count, wire, split_wire}
use Rattle.send.specs.declared.Count.{Count}
use Rattle.send.specs.declared.Count.TheVariants.{Packets, Refused as NoCount}
use Rattle.send.specs.declared.Written.{Written}
use Rattle.send.specs.declared.Written.TheVariants.{Packet, Refused}

-- refusal 7: over 7,609 bytes
unfoldable pub count_of : ℕ → Count
count_of n = refusing NoCount ((ltb largest n, 7) ∷ []) (Packets (count 57 59 n))

-- all that a call leaves: its answer, and the packet's bytes
pub record Left : Type 0 where
  pub answer : Written
  pub packet : List ℕ

abbrev pub left : Written → List ℕ → Left
left w p = record { answer = w; packet = p }

-- packet `index` of these packets, which replaces all of `old`; refusal 6 at or past the last. A refused call leaves `old`
abbrev pub sent : List (List ℕ) → ℕ → List ℕ → Left
sent packets index old =
    refusing (λ number. left (Refused number) old)
    ((leb (length packets) index, 6) ∷ [])
    (left Packet (get_or packets index []))

-- 1: the packet isn't 64 bytes; 12: a command above 127; 7: over 7,609 bytes
unfoldable pub write_of : (cid cmd : ℕ) → List ℕ → (index : ℕ) → List ℕ → Left
write_of cid cmd payload index old =
    refusing (λ number. left (Refused number) old)
    ((not (eqb (length old) packet_size), 1) ∷ (ltb 127 cmd, 12) ∷ (ltb largest (length payload), 7) ∷ [])
    (sent (wire cid cmd payload) index old)

-- the same with no 7: what is too long is replaced
unfoldable pub split_of : (cid cmd : ℕ) → List ℕ → (internal index : ℕ) → List ℕ → Left
split_of cid cmd payload internal index old =
    refusing (λ number. left (Refused number) old)
    ((not (eqb (length old) packet_size), 1) ∷ (ltb 127 cmd, 12) ∷ [])
    (sent (split_wire cid cmd payload internal) index old)

-- what must be so for a packet to be written
pub record Puts (cmd : ℕ) (payload : List ℕ) (index : ℕ) (packet : List ℕ) : Type 0 where
  pub size : length packet ≡ 64
  pub command : cmd ≤ 127
  pub short : length payload ≤ 7609
  pub within : index < 1 + (length payload + 1) / 59
