-- Runs of the host's reading, for which the caller lends the buffer anew at every call: what the caller owes, and that the answers are the standard's.
-- Assumes nothing.
use Rattle.std.specs.Prelude.{ℕ, ◌≤◌, ◌≡◌, List, [], ◌∷◌, map, length, take}
use Rattle.ctaphid.specs.Packets.{Bytes, read}
use Rattle.ctaphid.specs.Messages.{wire}
use Rattle.ctaphid.specs.Host as standard
use Rattle.ctaphid.specs.Host.{Heard, reply, hear, at_last, Sendable}
use Rattle.host.specs.declared.Collection.{Collection}
use Rattle.host.specs.Meaning.{collection_meant, none_begun, Sound, answer_meant}
use Rattle.host.specs.Reading.{Reading, read_of}
use Rattle.runs.specs.HostSteps.{Come}

pub record HostCall : Type 0 where
  pub packet : List ℕ
  pub buffer : List ℕ

abbrev pub packets_of : List HostCall → List (List ℕ)
packets_of ks = map (λ (k : HostCall). k.packet) ks

-- ---- what the caller owes

-- while a reply is begun, the buffer has room for it, and the bytes taken so far stand at its front, as the call before left them. Nothing else is asked:
-- between replies and past the bytes taken any bytes may stand, and the buffer may have any length
pub record HostLends (s : Collection) (left m : List ℕ) : Type 0 where
  pub room : (s.len ≡ 0 → ⊥) → s.len ≤ length m
  pub kept : (s.len ≡ 0 → ⊥) → take s.taken m ≡ take s.taken left

-- ---- runs

abbrev pub heard_by : Reading → Heard
heard_by x = answer_meant x.progress.answer x.buffer

abbrev pub on_packet : Collection → (channel : ℕ) → HostCall → Reading
on_packet s c k = read_of s c k.packet k.buffer

abbrev pub host_run_of : Collection → (channel : ℕ) → List HostCall → List Heard
host_run_of s c [] = []
host_run_of s c (k ∷ rest) = heard_by (on_packet s c k) ∷ host_run_of (on_packet s c k).progress.collection c rest

-- each call lends as it must. `left` is what the call before left of its buffer
abbrev pub HostLent : Collection → (channel : ℕ) → (left : List ℕ) → List HostCall → Type 0
HostLent s c left [] = Unit {0}
HostLent s c left (k ∷ rest) = HostLends s left k.buffer × HostLent (on_packet s c k).progress.collection c (on_packet s c k).buffer rest

-- the standard's host, with as much room at each packet as there is then
abbrev pub answers_within : (channel : ℕ) → standard.Collection → List HostCall → List Heard
answers_within c t [] = []
answers_within c t (k ∷ rest) =
    (hear c (length k.buffer) t (read k.packet)).answer ∷ answers_within c (hear c (length k.buffer) t (read k.packet)).collection rest

-- ---- the statements

-- Equality: from any sound collection on, over what was left of the buffer, the code's answers are the standard's
abbrev pub HostRunsAlike : Type 0
HostRunsAlike =
    (s : Collection) (c : ℕ) (left : List ℕ) (ks : List HostCall) → Sound s (length left) → Come (packets_of ks) → HostLent s c left ks
    → host_run_of s c ks ≡ answers_within c (collection_meant s left) ks

-- every buffer is as long as that
abbrev pub Long : ℕ → List HostCall → Type 0
Long n [] = Unit {0}
Long n (k ∷ rest) = (n ≤ length k.buffer) × Long n rest

-- the round trip over the code: a message's packets, read with none begun, give it back
abbrev pub ReadsBack : Type 0
ReadsBack =
    (c cmd : ℕ) (payload : List ℕ) (ks : List HostCall) → packets_of ks ≡ wire c cmd payload → Sendable c cmd payload (length payload) → Bytes payload
    → Long (length payload) ks → HostLent none_begun c [] ks → host_run_of none_begun c ks ≡ at_last (reply cmd payload) (wire c cmd payload)
