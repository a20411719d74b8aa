-- A host that overwrites all that it may lends as it must, and gets its reply. Assumes nothing.
use Prim.Native.Nat.{ℕ, ◌-◌, ◌≤◌}
use native.Mathlib.Omega.{arith}
use native.Mathlib.Decide.{ℕ_discrete}
use mathlib.Core.Path.{◌≡◌, refl, sym, ap, subst, ◌∙◌}
use mathlib.Core.List.{List, [], ◌∷◌}
use borrow.Author.Tests.{eq-eqb, ne_eqb}
use lib.ListN.{length, take, replicate, length-append, length-replicate}
use lib.Seq.{length-take-le, take_at}
use Rattle.ctaphid.specs.Choice.{pick}
use Rattle.ctaphid.specs.Messages.{wire}
use Rattle.ctaphid.specs.Host.{Sendable}
use Rattle.host.specs.declared.Collection.{Collection}
use Rattle.host.specs.Meaning.{none_begun, Sound}
use Rattle.host.specs.Reading.{read_of}
use Rattle.runs.specs.HostSteps.{Come}
use Rattle.runs.specs.HostRuns.{HostCall, packets_of, HostLends, HostLent, Long}
use Rattle.runs.specs.HostCallers.{host_owed, host_overwritten, scribbled, ScribbledReadsBack}
use Rattle.runs.proofs.HostRefines.{sound-stays, length-stays, none-sound}
use Rattle.runs.proofs.HostWire.{wire-comes}
use Rattle.runs.proofs.HostRuns.{reads-back}

-- what is owed was left, and there is room for it
module _ (n : ℕ) (s : Collection) (left : List ℕ) (h : Sound s (length left)) (k : Sound s n) where
  abbrev m : List ℕ
  m = host_overwritten n s left

  pub record Kept : Type 0 where
    pub long : length m ≡ n
    pub lends : HostLends s left m

  kept-over : (owed : ℕ) → host_owed s ≡ owed → owed ≤ length left → owed ≤ n → ((s.len ≡ 0 → ⊥) → owed ≡ s.taken) → Kept
  kept-over owed is there most all =
      let size : length (take (host_owed s) left) ≡ host_owed s = length-take-le (host_owed s) left (omega (arith, is)) in
      let long : length m ≡ n = length-append (take (host_owed s) left) (replicate (n - host_owed s) 0xee) ∙ omega (arith, size, length-replicate {A = ℕ} (n - host_owed s) 0xee, is) in
      record {
        long = long;
        lends = record {
          room = λ some. omega (arith, long, (k.stands some).within);
          kept = λ some.
              subst (λ (t : ℕ). take t m ≡ take t left) (is ∙ all some)
              (take_at (take (host_owed s) left) (replicate (n - host_owed s) 0xee) (host_owed s) size);
        };
      }

  kept : Kept
  unfolding pick
  kept = by-len (ℕ_discrete s.len 0)
    where
      by-len : Dec (s.len ≡ 0) → Kept
      by-len (yes z) = kept-over 0 (simp (eq-eqb s.len 0 z)) (omega arith) (omega arith) (λ some. absurd (some z))
      by-len (no some) =
          let here = h.stands some in
          let there = k.stands some in
          kept-over s.taken (simp (ne_eqb s.len 0 some)) (omega (arith, here.bytes, here.below, here.within)) (omega (arith, there.bytes, there.below, there.within)) (λ z. refl)

module _ (n c : ℕ) where
  same-packets : (s : Collection) (left : List ℕ) (ps : List (List ℕ)) → packets_of (scribbled n s c left ps) ≡ ps
  same-packets s left [] = refl
  same-packets s left (p ∷ rest) =
      let m = host_overwritten n s left in
      ap (λ (ps : List (List ℕ)). p ∷ ps) (same-packets (read_of s c p m).progress.collection (read_of s c p m).buffer rest)

  lent-so : (s : Collection) (left : List ℕ) (ps : List (List ℕ)) → Sound s (length left) → Sound s n → Come ps
      → Long n (scribbled n s c left ps) × HostLent s c left (scribbled n s c left ps)
  lent-so s left [] h k come = (tt, tt)
  lent-so s left (p ∷ rest) h k come =
      let m = host_overwritten n s left in
      let now : Kept n s left h k = kept n s left h k in
      let sound : Sound s (length m) = subst (Sound s) (sym now.long) k in
      let next : Sound (read_of s c p m).progress.collection (length m) = sound-stays s c p m sound come.0 in
      let again = lent-so (read_of s c p m).progress.collection (read_of s c p m).buffer rest
      (subst (Sound (read_of s c p m).progress.collection) (sym (length-stays s c p m sound come.0)) next)
      (subst (Sound (read_of s c p m).progress.collection) now.long next) come.1 in
      ((omega (arith, now.long), again.0), (now.lends, again.1))

pub scribbled-reads-back : ScribbledReadsBack
scribbled-reads-back c cmd payload n can b =
    let come : Come (wire c cmd payload) = wire-comes c cmd payload n can b in
    let lent = lent-so n c none_begun [] (wire c cmd payload) (none-sound 0) (none-sound n) come in
    let just : Sendable c cmd payload (length payload) = record { channel = can.channel; command = can.command; other = can.other; size = can.size; fits = omega arith } in
    reads-back c cmd payload (scribbled n none_begun c [] (wire c cmd payload)) (same-packets n c none_begun [] (wire c cmd payload)) just b
    (long-enough (scribbled n none_begun c [] (wire c cmd payload)) lent.0) lent.1
  where
    long-enough : (ks : List HostCall) → Long n ks → Long (length payload) ks
    long-enough [] l = tt
    long-enough (k ∷ rest) l = (omega (arith, l.0, can.fits), long-enough rest l.1)
