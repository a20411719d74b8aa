-- Runs of the host's reading answer as the standard's host does, whichever buffers are lent. Assumes nothing.
use Prim.Native.Nat.{ℕ, ◌≤◌}
use native.Mathlib.Omega.{arith}
use mathlib.Core.Path.{◌≡◌, refl, sym, ap, subst, ◌∙◌}
use mathlib.Core.List.{List, [], ◌∷◌}
use borrow.Author.Tests.{le-ltb, eqb-false}
use lib.Dec.{eqb}
use lib.ListN.{length}
use Rattle.ctaphid.specs.Packets.{Packet, initialization, continuation, read}
use Rattle.ctaphid.specs.Host as standard
use Rattle.ctaphid.specs.Host.{none, collecting, Got, hear, begin, when_none, on_own, answers, reply, at_last, Sendable}
use Rattle.ctaphid.proofs.Tests.{both-pick}
use Rattle.ctaphid.proofs.RoundTrip.{round-trips}
use Rattle.host.specs.declared.Collection.{Collection}
use Rattle.host.specs.Meaning.{collection_meant, none_begun, Sound}
use Rattle.runs.specs.HostSteps.{Refines, Comes, Come}
use Rattle.runs.specs.HostRuns.{HostCall, packets_of, HostLends, on_packet, answers_within, HostRunsAlike, Long, ReadsBack}
use Rattle.runs.proofs.HostRefines.{read-refines, sound-stays, length-stays, none-sound, none-meant}
use Rattle.runs.proofs.HostWire.{Declares, Declare, wire-comes, wire-declares}

-- ---- a buffer that is lent as it must be means the same as the one that was left
pub means : (s : Collection) (left m : List ℕ) → HostLends s left m → collection_meant s m ≡ collection_meant s left
unfolding collection_meant
means s left m lends =
    both-pick (λ (x y : standard.Collection). x ≡ y) (eqb s.len 0) _ _ _ _
    (λ e. refl)
    (λ e. λ i. collecting (record { command = s.cmd; declared = s.len; collected = lends.kept (eqb-false s.len 0 e) i; due = s.seq }))

-- ---- a call, whichever buffer is lent for it as it must be
module _ (s : Collection) (c : ℕ) (left : List ℕ) (k : HostCall) (h : Sound s (length left)) (lends : HostLends s left k.buffer) (comes : Comes k.packet) where
  sound : Sound s (length k.buffer)
  sound = record {
    most = h.most;
    stands = λ some.
        let st = h.stands some in
        record { long = st.long; within = lends.room some; below = st.below; bytes = st.bytes };
  }

  abbrev heard : standard.Collection → Got
  heard t = hear c (length k.buffer) t (read k.packet)

  refines : Refines (on_packet s c k) (heard (collection_meant s left))
  refines = subst (λ (t : standard.Collection). Refines (on_packet s c k) (heard t)) (means s left k.buffer lends) (read-refines s c k.packet k.buffer sound comes)

  stays : Sound (on_packet s c k).progress.collection (length (on_packet s c k).buffer)
  stays =
      subst (Sound (on_packet s c k).progress.collection) (sym (length-stays s c k.packet k.buffer sound comes))
      (sound-stays s c k.packet k.buffer sound comes)

pub host-runs-alike : HostRunsAlike
host-runs-alike s c left [] h come lent = refl
host-runs-alike s c left (k ∷ rest) h come lent =
    let now = refines s c left k h lent.0 come.0 in
    let again = host-runs-alike (on_packet s c k).progress.collection c (on_packet s c k).buffer rest (stays s c left k h lent.0 come.0) come.1 lent.1
    ∙ ap (λ (t : standard.Collection). answers_within c t rest) now.collection in
    λ i. now.answer i ∷ again i

-- ---- room is asked about where a reply begins, and no more than for what it declares
begin-room : (n space cmd declared : ℕ) (field : List ℕ) → declared ≤ n → n ≤ space → begin space cmd declared field ≡ begin n cmd declared field
unfolding begin
begin-room n space cmd declared field d m = simp (le-ltb space declared (omega arith), le-ltb n declared d)

hear-room : (c n space : ℕ) (t : standard.Collection) (p : Packet) → Declares n p → n ≤ space → hear c space t p ≡ hear c n t p
unfolding hear on_own when_none
hear-room c n space none (initialization c' cmd declared field) d m = simp (begin-room n space cmd declared field d m)
hear-room c n space none (continuation c' k field) d m = refl
hear-room c n space (collecting b) p d m = refl

within : (c n : ℕ) (t : standard.Collection) (ks : List HostCall) → Long n ks → Declare n (packets_of ks) → answers_within c t ks ≡ answers c n t (packets_of ks)
within c n t [] long declare = refl
within c n t (k ∷ rest) long declare =
    let same = hear-room c n (length k.buffer) t (read k.packet) declare.0 long.0 in
    let again = ap (λ (g : Got). answers_within c g.collection rest) same ∙ within c n (hear c n t (read k.packet)).collection rest long.1 declare.1 in
    λ i. (same i).answer ∷ again i

pub reads-back : ReadsBack
reads-back c cmd payload ks is can b long lent =
    host-runs-alike none_begun c [] ks (none-sound 0) (subst Come (sym is) (wire-comes c cmd payload (length payload) can b)) lent
    ∙ (ap (λ (t : standard.Collection). answers_within c t ks) (none-meant [])
    ∙ (within c (length payload) none ks long (subst (Declare (length payload)) (sym is) (wire-declares c cmd payload (length payload) can b))
    ∙ (ap (answers c (length payload) none) is ∙ (round-trips c cmd payload (length payload) can).given_back)))
