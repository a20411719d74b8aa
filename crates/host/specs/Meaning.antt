-- What a collection's numbers mean at the standard's level, over the host's buffer, and the numbers for what stands there. The bytes collected are the
-- front of the buffer. Assumes nothing.
use Rattle.std.specs.Prelude.{ℕ, ◌≤◌, ◌≡◌, List, [], ◌∷◌, Bool, true, length, take, replicate, leb, eqb}
use Rattle.ctaphid.specs.Choice.{pick, every}
use Rattle.ctaphid.specs.Limits.{largest}
use Rattle.ctaphid.specs.Host as standard
use Rattle.ctaphid.specs.Host.{Begun, Heard, refused, ignored, keepalive, waiting, reply, InitHeard, not_init, init_fields}
use Rattle.collect.specs.Standing.{Stands, is_standing}
use Rattle.host.specs.declared.Collection.{Collection}
use Rattle.host.specs.declared.Answer.{Answer}
use Rattle.host.specs.declared.Answer.TheVariants.{Refused, Ignored, Keepalive, Waiting, Reply}
use Rattle.host.specs.declared.InitReply.{InitReply}
use Rattle.host.specs.declared.InitAnswer.TheVariants.{Refused as NoFields, Fields}

-- ---- a collection

abbrev pub begun_of : Collection → (buffer : List ℕ) → Begun
begun_of s m = record { command = s.cmd; declared = s.len; collected = take s.taken m; due = s.seq }

-- a declared length of 0 is no reply
unfoldable pub collection_meant : Collection → (buffer : List ℕ) → standard.Collection
collection_meant s m = pick (eqb s.len 0) standard.none (standard.collecting (begun_of s m))

abbrev pub none_begun : Collection
none_begun = record { len = 0; taken = 0; cmd = 0; seq = 0 }

abbrev pub collection_of : standard.Collection → Collection
collection_of standard.none = none_begun
collection_of (standard.collecting b) = record { len = b.declared; taken = length b.collected; cmd = b.command; seq = b.due }

-- ---- a sound one: no reply is begun, or its lengths and number stand, the buffer's length and 7,609 in place of the device's maximum

pub record Sound (s : Collection) (space : ℕ) : Type 0 where
  pub most : (s.len ≡ 0 → ⊥) → s.len ≤ 7609
  pub stands : (s.len ≡ 0 → ⊥) → Stands space s.len s.taken s.seq

unfoldable pub is_sound : Collection → (space : ℕ) → Bool
is_sound s space =
    pick (eqb s.len 0) true (every (leb s.len largest ∷ is_standing space s.len s.taken s.seq ∷ []))

-- ---- answers

abbrev pub answer_of : Heard → Answer
answer_of (refused number) = Refused number
answer_of ignored = Ignored
answer_of (keepalive status) = Keepalive status
answer_of waiting = Waiting
answer_of (reply cmd payload) = Reply cmd (length payload)

-- what each answer says, over the buffer
abbrev pub answer_meant : Answer → (buffer : List ℕ) → Heard
answer_meant (Refused number) m = refused number
answer_meant Ignored m = ignored
answer_meant (Keepalive status) m = keepalive status
answer_meant Waiting m = waiting
answer_meant (Reply cmd len) m = reply cmd (take len m)

abbrev pub init_reply_of : InitHeard → InitReply
init_reply_of (not_init number) = record { nonce = replicate 8 0; answer = NoFields number }
init_reply_of (init_fields f) =
    record { nonce = f.nonce; answer = Fields f.channel f.protocol f.major f.minor f.build f.flags }
