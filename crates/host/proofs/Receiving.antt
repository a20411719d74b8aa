-- What a `return` of the host's code meets: a law for each case of the standard's host. `search` puts them together along the branches. Assumes nothing.
use Prim.Native.Nat.{ℕ, ◌+◌, ◌≤◌, ◌<◌}
use native.Mathlib.Omega.{arith}
use native.Mathlib.Decide.{dec_le}
use mathlib.Core.Path.{◌≡◌, sym, ap, subst, ◌∙◌}
use mathlib.Core.List.{List, ◌++◌}
use mathlib.Core.Bool.{Bool, true, false, not}
use borrow.Author.Tests.{lt-ltb, le-ltb, eq-eqb, ne_eqb}
use lib.Dec.{eqb}
use lib.ListN.{length, take, length-append}
use lib.Seq.{length-take-le}
use Rattle.ctaphid.specs.Choice.{pick}
use Rattle.ctaphid.specs.Packets.{initialization, continuation, Formed}
use Rattle.ctaphid.specs.Host as standard
use Rattle.ctaphid.specs.Host.{Begun, none, collecting, refused, ignored, keepalive, Got, got, gather, alive, begin, when_none, when_begun, on_own, hear}
use Rattle.packet.specs.Reading.{heard}
use Rattle.packet.specs.declared.ProcessedPacket.{ProcessedPacket}
use Rattle.packet.specs.declared.ProcessedPacket.TheVariants.{InitPacket, ContinuationPacket}
use Rattle.collect.specs.Adding.{front, Adding, added, add_of}
use Rattle.collect.specs.declared.Added.{Added}
use Rattle.collect.specs.declared.Added.TheVariants as added_is
use Rattle.collect.proofs.Adding.{add-waits, add-whole, waits-below}
use Rattle.host.specs.declared.Collection.{Collection}
use Rattle.host.specs.declared.Answer.TheVariants.{Refused, Ignored, Keepalive, Waiting, Reply}
use Rattle.host.specs.declared.Progress.{Progress}
use Rattle.host.specs.Meaning.{begun_of, collection_meant, none_begun}
use Rattle.host.specs.Reading.{Reading, reading, heard_of, Adds}

-- ---- tests
module _ (test : Bool) (o : Reading) (s : Collection) (x y : Got) (m : List ℕ) where
  pub yes-got : test ≡ true → o ≡ heard_of s x m → o ≡ heard_of s (pick test x y) m
  unfolding pick
  yes-got e k = simp e k

  pub no-got : test ≡ false → o ≡ heard_of s y m → o ≡ heard_of s (pick test x y) m
  unfolding pick
  no-got e k = simp e k

  -- a test that refuses when something isn't so
  pub yes-not : test ≡ true → o ≡ heard_of s y m → o ≡ heard_of s (pick (not test) x y) m
  unfolding pick
  yes-not e k = simp e k

  pub no-not : test ≡ false → o ≡ heard_of s x m → o ≡ heard_of s (pick (not test) x y) m
  unfolding pick
  no-not e k = simp e k

-- ---- what leaves the collection as it was
module _ (s : Collection) (r : Progress) (t : standard.Collection) (m : List ℕ) where
  pub left-refused : {n : ℕ} → r ≡ record { collection = s; answer = Refused n } → reading r m ≡ heard_of s (got t (refused n)) m
  unfolding heard_of
  left-refused e = ap (λ (p : Progress). reading p m) e

  pub left-ignored : r ≡ record { collection = s; answer = Ignored } → reading r m ≡ heard_of s (got t ignored) m
  unfolding heard_of
  left-ignored e = ap (λ (p : Progress). reading p m) e

  pub left-alive : {b : ℕ} → r ≡ record { collection = s; answer = Keepalive b } → reading r m ≡ heard_of s (got t (keepalive b)) m
  unfolding heard_of
  left-alive e = ap (λ (p : Progress). reading p m) e

-- ---- the cases of a packet
module _ (s : Collection) (c space : ℕ) (p : ProcessedPacket) (d m : List ℕ) (o : Reading) where
  pub hear-first : {from cmd len : ℕ} → p ≡ InitPacket from cmd len
      → o ≡ heard_of s (pick (eqb from c) (on_own space (collection_meant s m) (initialization from cmd len d)) (got (collection_meant s m) ignored)) m
      → o ≡ heard_of s (hear c space (collection_meant s m) (heard p d)) m
  unfolding hear
  hear-first e k = simp e k

  pub hear-later : {from seq : ℕ} → p ≡ ContinuationPacket from seq
      → o ≡ heard_of s (pick (eqb from c) (on_own space (collection_meant s m) (continuation from seq d)) (got (collection_meant s m) ignored)) m
      → o ≡ heard_of s (hear c space (collection_meant s m) (heard p d)) m
  unfolding hear
  hear-later e k = simp e k

module _ (s : Collection) (space : ℕ) (d m : List ℕ) (o : Reading) (c : ℕ) where
  pub none_first : (cmd len : ℕ) → s.len ≡ 0 → o ≡ heard_of s (pick (eqb cmd 0x3b) (alive len d) (begin space cmd len d)) m
      → o ≡ heard_of s (on_own space (collection_meant s m) (initialization c cmd len d)) m
  unfolding on_own collection_meant when_none pick
  none_first cmd len z k = simp (eq-eqb _ _ z) k

  pub none-later : (seq : ℕ) → s.len ≡ 0 → o ≡ heard_of s (got none ignored) m → o ≡ heard_of s (on_own space (collection_meant s m) (continuation c seq d)) m
  unfolding on_own collection_meant when_none pick
  none-later seq z k = simp (eq-eqb _ _ z) k

  pub begun_first : (cmd len : ℕ) → (s.len ≡ 0 → ⊥) → o ≡ heard_of s (got (collecting (begun_of s m)) (refused 9)) m
      → o ≡ heard_of s (on_own space (collection_meant s m) (initialization c cmd len d)) m
  unfolding on_own collection_meant when_begun pick
  begun_first cmd len z k = simp (ne_eqb _ _ z) k

  pub begun-later : (seq : ℕ) → (s.len ≡ 0 → ⊥)
      → o ≡ heard_of s (pick (eqb seq s.seq) (gather (record { command = s.cmd; declared = s.len; collected = take s.taken m; due = s.seq + 1 }) d) (got (collecting (begun_of s m)) (refused 9))) m
      → o ≡ heard_of s (on_own space (collection_meant s m) (continuation c seq d)) m
  unfolding on_own collection_meant when_begun pick
  begun-later seq z k = simp (ne_eqb _ _ z) k

-- a first packet's data field is not empty
pub first_some : {from cmd len : ℕ} (p : ProcessedPacket) (d : List ℕ) → p ≡ InitPacket from cmd len → Formed (heard p d) → 0 < length d
first_some {from} {cmd} {len} p d e h =
    let f : Formed (heard (InitPacket from cmd len) d) = subst (λ (q : ProcessedPacket). Formed (heard q d)) e h in
    omega (arith, f.3)

-- ---- data is added

-- whatever stood before, the numbers are made anew
gather-any : (s t : Collection) (b : Begun) (d m : List ℕ) → heard_of t (gather b d) m ≡ heard_of s (gather b d) m
unfolding gather heard_of pick
gather-any s t b d m = by_size (dec_le b.declared (length (b.collected ++ d)))
  where
    by_size : Dec (b.declared ≤ length (b.collected ++ d)) → heard_of t (gather b d) m ≡ heard_of s (gather b d) m
    by_size (yes h) = simp (le-ltb (length (b.collected ++ d)) b.declared h)
    by_size (no h) = simp (lt-ltb (length (b.collected ++ d)) b.declared (omega arith))

pub gathers : (s t : Collection) (b : Begun) (d m : List ℕ) (o : Reading) → o ≡ heard_of t (gather b d) m → o ≡ heard_of s (gather b d) m
gathers s t b d m o k = k ∙ gather-any s t b d m

module _ (s : Collection) (m d : List ℕ) (adds : Adds s m) where
  -- what the code makes of an addition
  abbrev made : Added → List ℕ → Reading
  made (added_is.Waiting n) m' = reading (record { collection = record { len = s.len; taken = n; cmd = s.cmd; seq = s.seq }; answer = Waiting }) m'
  made added_is.Whole m' = reading (record { collection = none_begun; answer = Reply s.cmd s.len }) m'
  made (added_is.Refused number) m' = reading (record { collection = s; answer = Waiting }) m'

  abbrev made_of : Adding → Reading
  made_of o = made o.answer o.message

  -- which is what the standard's host does
  as-gathered : made_of (add_of m s.taken s.len d) ≡ heard_of s (gather (begun_of s m) d) m
  unfolding heard_of gather pick
  as-gathered = by_size (dec_le s.len (s.taken + length d))
    where
      S : Type 0
      S = made_of (add_of m s.taken s.len d) ≡ heard_of s (gather (begun_of s m) d) m

      long : length (take s.taken m) ≡ s.taken
      long = length-take-le s.taken m (omega (arith, adds.taken, adds.room))

      sum : length (take s.taken m ++ d) ≡ s.taken + length d
      sum = simp (length-append, long)

      by_size : Dec (s.len ≤ s.taken + length d) → S
      by_size (yes h) =
          let all : length (take s.len (take s.taken m ++ d)) ≡ s.len = length-take-le s.len (take s.taken m ++ d) (omega (arith, sum)) in
          ap made_of (add-whole m s.taken s.len d adds.taken adds.room h)
          ∙ sym (simp (le-ltb (length (take s.taken m ++ d)) s.len (omega (arith, sum)), all))
      by_size (no h) =
          ap made_of (add-waits m s.taken s.len d adds.taken adds.room (omega arith))
          ∙ sym (simp (lt-ltb (length (take s.taken m ++ d)) s.len (omega (arith, sum)))
          (ap (λ (n : ℕ). made (added_is.Waiting n) (front (take s.taken m ++ d) m)) sum))

  module _ {r : Added} (m' : List ℕ) (e : added r m' ≡ add_of m s.taken s.len d) where
    gathered : {r' : Added} (o : Progress) → r ≡ r' → reading o m' ≡ made r' m' → reading o m' ≡ heard_of s (gather (begun_of s m) d) m
    gathered o is k = k ∙ (ap (λ (b : Added). made b m') (sym is) ∙ (ap made_of e ∙ as-gathered))

    pub gathered-waiting : {n : ℕ} (o : Progress) → r ≡ added_is.Waiting n → o ≡ record { collection = record { len = s.len; taken = n; cmd = s.cmd; seq = s.seq }; answer = Waiting } → reading o m' ≡ heard_of s (gather (begun_of s m) d) m
    gathered-waiting o is k = gathered o is (ap (λ (t : Progress). reading t m') k)

    pub gathered-whole : (o : Progress) → r ≡ added_is.Whole → o ≡ record { collection = none_begun; answer = Reply s.cmd s.len } → reading o m' ≡ heard_of s (gather (begun_of s m) d) m
    gathered-whole o is k = gathered o is (ap (λ (t : Progress). reading t m') k)

    pub gathered-refused : {number : ℕ} (o : Progress) → r ≡ added_is.Refused number → o ≡ record { collection = s; answer = Waiting } → reading o m' ≡ heard_of s (gather (begun_of s m) d) m
    gathered-refused o is k = gathered o is (ap (λ (t : Progress). reading t m') k)

    -- what waits has fewer bytes than were declared
    pub waits-low : {n : ℕ} → r ≡ added_is.Waiting n → n < s.len
    waits-low is = waits-below m s.taken s.len d adds.taken adds.room m' e is

pub ruleset hearing = (yes-got, no-got, yes-not, no-not, left-refused, left-ignored, left-alive, hear-first, hear-later, none_first, none-later, begun_first, begun-later, gathered-waiting, gathered-whole, gathered-refused)
