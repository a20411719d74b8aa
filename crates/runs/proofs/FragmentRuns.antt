-- Runs over Bluetooth answer as the standard's reader does, whichever buffers are lent, and what the writer gives is read back. Assumes nothing.
use Prim.Native.Nat.{ℕ, zero, suc, ◌+◌, ◌-◌, ◌/◌, ◌%◌, ◌≤◌, ◌<◌}
use native.Mathlib.Omega.{arith}
use native.Mathlib.Numerals.{add-one}
use mathlib.Core.Path.{◌≡◌, refl, sym, ap, subst, ◌∙◌}
use mathlib.Core.List.{List, [], ◌∷◌, map}
use mathlib.Core.Bool.{Bool, true, not, true≢false}
use borrow.Author.Tests.{le-ltb, eqb-true}
use lib.Dec.{eqb}
use lib.ListN.{length, take, drop, get_or, drop_of_length-le}
use lib.Seq.{drop-cons}
use Rattle.ctaphid.specs.Choice.{is_in}
use Rattle.ctaphid.specs.Messages.{chunks, numbered}
use Rattle.ctaphid.specs.Host as standard
use Rattle.ctaphid.specs.Host.{none, collecting}
use Rattle.ctaphid.specs.Bluetooth.{is_size, is_command, initialization, continuation, Read, too_short, fragment, read, fragments_written, Taken, begin, on_fragment, on_read, hear, answers, Sendable}
use Rattle.ctaphid.proofs.Tests.{pick_known}
use Rattle.ctaphid.proofs.Bluetooth.{read-written, wire-framed, wire-length, round-trips}
use Rattle.host.specs.declared.Collection.{Collection}
use Rattle.host.specs.Meaning.{collection_meant, none_begun}
use Rattle.ble.specs.Soundness.{Sound}
use Rattle.ble.specs.Writing.{write_of}
use Rattle.ble.proofs.Sending.{sized, writes}
use Rattle.runs.specs.FragmentRuns.{Refines, FragmentCall, on_call, fragment_run_of, FragmentsLent, heard_within, answers_within, FragmentRunsAlike, sent_of, sent_by, EachLong, WritesAll, ReadsBack}
use Rattle.runs.proofs.HostRefines.{none-meant, at_front}
use Rattle.runs.proofs.HostRuns.{means}
use Rattle.runs.proofs.FragmentRefines.{read-refines, sound-stays, length-stays}

-- ---- the reader's calls
module _ (size : ℕ) (of_size : is_size size ≡ true) where
  runs-alike : (s : Collection) (left : List ℕ) (ks : List FragmentCall) → Sound s (length left) → FragmentsLent size s left ks → fragment_run_of size s ks ≡ answers_within size (collection_meant s left) ks
  runs-alike s left [] h lent = refl
  runs-alike s left (k ∷ rest) h lent =
      let lends = lent.0 in
      let sound : Sound s (length k.buffer) = record { more = h.more; room = lends.room; due = h.due } in
      let same = means s left k.buffer lends in
      let now = subst (λ (t : standard.Collection). Refines (on_call size s k) (heard_within size t k)) same (read-refines s size k.fragment k.buffer of_size sound) in
      let stays =
      subst (Sound (on_call size s k).collection) (sym (length-stays s size k.fragment k.buffer of_size sound)) (sound-stays s size k.fragment k.buffer of_size sound) in
      let again =
      runs-alike (on_call size s k).collection (on_call size s k).buffer rest stays lent.1
      ∙ ap (λ (t : standard.Collection). answers_within size t rest) now.collection in
      λ i. now.answer i ∷ again i

pub fragment-runs-alike : FragmentRunsAlike
fragment-runs-alike size of_size = runs-alike size of_size

-- ---- the writer's calls
module _ (size cmd : ℕ) (payload : List ℕ) (of_size : is_size size ≡ true) (known : is_command cmd ≡ true) (short : length payload ≤ 65535) where
  abbrev wire : List (List ℕ)
  wire = fragments_written size cmd payload

  smallest : 20 ≤ size
  smallest = (sized size (is_size size) refl (ap not of_size)).0

  sent-at : (i : ℕ) (m : List ℕ) → size ≤ length m → i < length wire → sent_of (write_of size cmd payload i m) ≡ get_or wire i []
  sent-at i m room h =
      let within : i < 1 + (length payload + 1) / (size - 1) = omega (arith, h, wire-length size cmd payload smallest) in
      ap sent_of (sym (writes size cmd payload i m (is_size size) refl (ap not of_size) room (is_command cmd) refl (ap not known) short within)) ∙ at_front (get_or wire i []) m

  sent-from : (i : ℕ) (lent : List (List ℕ)) → EachLong size lent → i + length lent ≡ length wire → sent_by size cmd payload i lent ≡ drop i wire
  sent-from i [] long many = sym (drop_of_length-le wire {i = i} (omega arith))
  sent-from i (m ∷ rest) long many =
      let h : i < length wire = omega arith in
      let first = sent-at i m long.0 h in
      let others = sent-from (i + 1) rest long.1 (omega arith) ∙ ap (λ (j : ℕ). drop j wire) (add-one i) in
      (λ j. first j ∷ others j) ∙ sym (drop-cons wire i [] h)

pub writes-all : WritesAll
writes-all size cmd payload lent w = sent-from size cmd payload w.sized w.command w.short 0 lent w.long (omega (arith, w.many))

-- ---- room is asked about where a message begins, and no more than for what it declares
abbrev Declares : ℕ → Read → Type 0
Declares n too_short = Unit {0}
Declares n (fragment (initialization cmd d field)) = d ≤ n
Declares n (fragment (continuation k field)) = Unit {0}

abbrev Declare : ℕ → List (List ℕ) → Type 0
Declare n [] = Unit {0}
Declare n (f ∷ rest) = Declares n (read f) × Declare n rest

on_room : (n space : ℕ) (t : standard.Collection) (r : Read) → Declares n r → n ≤ space → on_read space t r ≡ on_read n t r
unfolding on_fragment begin
on_room n space t too_short d h = refl
on_room n space none (fragment (initialization cmd m field)) d h = simp (le-ltb space m (omega arith), le-ltb n m d)
on_room n space none (fragment (continuation k field)) d h = refl
on_room n space (collecting b) (fragment (initialization cmd m field)) d h = refl
on_room n space (collecting b) (fragment (continuation k field)) d h = refl

hear-room : (size n space : ℕ) (t : standard.Collection) (f : List ℕ) → Declares n (read f) → n ≤ space → hear size space t f ≡ hear size n t f
unfolding hear
hear-room size n space t f d h = simp (on_room n space t (read f) d h)

within : (size n : ℕ) (t : standard.Collection) (ks : List FragmentCall) → EachLong n (map (λ (k : FragmentCall). k.buffer) ks) → Declare n (map (λ (k : FragmentCall). k.fragment) ks)
    → answers_within size t ks ≡ answers size n t (map (λ (k : FragmentCall). k.fragment) ks)
within size n t [] long declare = refl
within size n t (k ∷ rest) long declare =
    let same = hear-room size n (length k.buffer) t k.fragment declare.0 long.0 in
    let again = ap (λ (x : Taken). answers_within size x.collection rest) same ∙ within size n (hear size n t k.fragment).collection rest long.1 declare.1 in
    λ i. (same i).answer ∷ again i

-- the fragments of a message declare its length
all-numbered : (n : ℕ) (make : ℕ → List ℕ → List ℕ) → ((k : ℕ) (chunk : List ℕ) → Declares n (read (make k chunk))) → (k : ℕ) (l : List (List ℕ)) → Declare n (numbered make k l)
unfolding numbered
all-numbered n make h k [] = tt
all-numbered n make h k (chunk ∷ l) = (h k chunk, all-numbered n make h (k + 1) l)

wire-declares : (size cmd : ℕ) (payload : List ℕ) → 0x80 ≤ cmd → Declare (length payload) (fragments_written size cmd payload)
unfolding chunks
wire-declares size cmd payload high =
    let n = length payload in
    rw (wire-framed size cmd payload) (
      subst (Declares n) (sym (read-written (initialization cmd n (take (size - 3) payload)) high)) (omega arith),
      all-numbered n _ (λ k chunk. subst (Declares n) (sym (read-written (continuation (k % 128) chunk) (omega arith))) tt) 0 _,
    )

-- the five are from 128 on
among-high : (n : ℕ) (l : List ℕ) → ((i : ℕ) → i < length l → 0x80 ≤ get_or l i 0) → is_in n l ≡ true → 0x80 ≤ n
unfolding is_in
among-high n [] h = λ e. absurd (true≢false (sym e))
among-high n (m ∷ l) h =
    pick_known (λ (b : Bool). b ≡ true → 0x80 ≤ n) (eqb n m) _ _
    (λ is e. omega (arith, h 0 (omega arith), eqb-true n m is))
    (λ is e. among-high n l (λ i k. h (suc i) (omega arith)) e)

command-high : (cmd : ℕ) → is_command cmd ≡ true → 0x80 ≤ cmd
unfolding is_command
command-high cmd e = among-high cmd (0x81 ∷ 0x82 ∷ 0x83 ∷ 0xbe ∷ 0xbf ∷ []) high e
  where
    high : (i : ℕ) → i < 5 → 0x80 ≤ get_or (0x81 ∷ 0x82 ∷ 0x83 ∷ 0xbe ∷ 0xbf ∷ []) i 0
    high zero h = omega arith
    high (suc zero) h = omega arith
    high (suc (suc zero)) h = omega arith
    high (suc (suc (suc zero))) h = omega arith
    high (suc (suc (suc (suc zero)))) h = omega arith
    high (suc (suc (suc (suc (suc i))))) h = absurd (omega arith)

none-sound : (space : ℕ) → Sound none_begun space
none-sound space = record { more = λ z. absurd (z refl); room = λ z. absurd (z refl); due = λ z. absurd (z refl) }

pub reads-back : ReadsBack
reads-back size cmd payload lent ks w is long ok =
    let n = length payload in
    let high = command-high cmd w.command in
    let sizes = sized size (is_size size) refl (ap not w.sized) in
    let sent = is ∙ writes-all size cmd payload lent w in
    let can : Sendable size cmd payload n = record { smallest = sizes.0; largest = sizes.1; command = high; short = w.short; fits = omega arith } in
    fragment-runs-alike size w.sized none_begun [] ks (none-sound 0) ok
    ∙ (ap (λ (t : standard.Collection). answers_within size t ks) (none-meant [])
    ∙ (within size n none ks long (subst (Declare n) (sym sent) (wire-declares size cmd payload high))
    ∙ (ap (answers size n none) sent ∙ (round-trips size cmd payload n can).given_back)))
