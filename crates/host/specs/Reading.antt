-- What reading a packet leaves, from what the standard's host makes of it. Assumes nothing.
use Rattle.std.specs.Prelude.{ℕ, ◌≤◌, ◌≡◌, List, [], ◌∷◌, not, length, eqb}
use Rattle.ctaphid.specs.Choice.{refusing}
use Rattle.ctaphid.specs.Limits.{packet_size}
use Rattle.ctaphid.specs.Packets.{Packet, Formed, read}
use Rattle.ctaphid.specs.Host as standard
use Rattle.ctaphid.specs.Host.{Heard, refused, ignored, keepalive, waiting, reply, Got, none, collecting, hear}
use Rattle.collect.specs.Adding.{front}
use Rattle.host.specs.declared.Collection.{Collection}
use Rattle.host.specs.declared.Answer.TheVariants.{Refused}
use Rattle.host.specs.declared.Progress.{Progress}
use Rattle.host.specs.Meaning.{collection_meant, collection_of, Sound, is_sound, answer_of}

-- all that a call leaves: what it returns, and the buffer
pub record Reading : Type 0 where
  pub progress : Progress
  pub buffer : List ℕ

abbrev pub reading : Progress → List ℕ → Reading
reading p m = record { progress = p; buffer = m }

-- a packet that is refused, ignored or a KEEPALIVE leaves the numbers as they were
abbrev pub keeping : Collection → Heard → standard.Collection → Collection
keeping s (refused number) t = s
keeping s ignored t = s
keeping s (keepalive status) t = s
keeping s waiting t = collection_of t
keeping s (reply cmd payload) t = collection_of t

-- and the buffer. The bytes collected so far, or the reply's payload, stand at its front
abbrev pub buffer_of : Heard → standard.Collection → List ℕ → List ℕ
buffer_of (refused number) t m = m
buffer_of ignored t m = m
buffer_of (keepalive status) t m = m
buffer_of waiting none m = m
buffer_of waiting (collecting b) m = front b.collected m
buffer_of (reply cmd payload) t m = front payload m

unfoldable pub heard_of : Collection → Got → (buffer : List ℕ) → Reading
heard_of s g m =
    reading (record { collection = keeping s g.answer g.collection; answer = answer_of g.answer })
    (buffer_of g.answer g.collection m)

-- refusals 1 and 3, then the standard's step, over as much room as the buffer has
unfoldable pub read_of : Collection → (channel : ℕ) → (packet buffer : List ℕ) → Reading
read_of s c p m =
    refusing (λ number. reading (record { collection = s; answer = Refused number }) m)
    ((not (eqb (length p) packet_size), 1) ∷ (not (is_sound s (length m)), 3) ∷ [])
    (heard_of s (hear c (length m) (collection_meant s m) (read p)) m)

-- ---- what the parts ask

-- a reply that data can be added to
pub record Adds (s : Collection) (m : List ℕ) : Type 0 where
  pub taken : s.taken ≤ s.len
  pub room : s.len ≤ length m

pub record Hears (s : Collection) (p : Packet) (m : List ℕ) : Type 0 where
  pub sound : Sound s (length m)
  pub formed : Formed p

pub record Admits (s : Collection) (p m : List ℕ) : Type 0 where
  pub size : length p ≡ 64
  pub sound : Sound s (length m)
