-- What a reader hands out over Bluetooth is what was declared: an invariant of its runs. Assumes nothing.
use Prim.Native.Nat.{ℕ, suc, ◌+◌, ◌%◌, ◌≤◌}
use native.Mathlib.Omega.{arith}
use native.Mathlib.Decide.{dec_le, ℕ_discrete}
use native.Mathlib.Nat.{add-zero}
use mathlib.Core.Path.{◌≡◌, refl, sym, ap, subst, ◌∙◌}
use mathlib.Core.List.{List, [], ◌∷◌, ◌++◌, flatten, append-nil, append_assoc}
use borrow.Author.Tests.{eqb-true}
use lib.Dec.{ltb, eqb}
use lib.ListN.{length, length-append}
use Rattle.ctaphid.specs.Messages.{numbered, framed}
use Rattle.ctaphid.specs.Host.{Begun, Collection, none, collecting}
use Rattle.ctaphid.specs.Bluetooth.{Fragment, initialization, continuation, Read, too_short, fragment, read, refused, message, Taken, taken, gather, begin, on_fragment, on_read, hear, next, answer, after, is_taken, taken_of, Declared, CollectsDeclared}
use Rattle.ctaphid.proofs.Tests.{pick_known}
use Rattle.ctaphid.proofs.Bluetooth.{gather-over, gather-waits, gather-whole}

-- ---- one chunk more, at the end
numbered-snoc : {A : Type 0} (make : ℕ → List ℕ → A) (k : ℕ) (l : List (List ℕ)) (x : List ℕ) → numbered make k (l ++ (x ∷ [])) ≡ numbered make k l ++ (make (k + length l) x ∷ [])
unfolding numbered
numbered-snoc make k [] x = rw add-zero
numbered-snoc make k (y ∷ l) x =
    let e : k + suc (length l) ≡ k + 1 + length l = omega arith in
    rw e (ap (λ r. make k y ∷ r) (numbered-snoc make (k + 1) l x))

flatten-snoc : (l : List (List ℕ)) (x : List ℕ) → flatten (l ++ (x ∷ [])) ≡ flatten l ++ x
unfolding flatten
flatten-snoc [] x = rw append-nil
flatten-snoc (y ∷ l) x = ap (λ (r : List ℕ). y ++ r) (flatten-snoc l x) ∙ sym (append_assoc y (flatten l) x)

-- ---- the fragments of a message that is begun
abbrev parts_of : (cmd declared : ℕ) → List (List ℕ) → List Fragment
parts_of cmd n chunks = framed (initialization cmd n) (λ i. continuation (i % 128)) chunks

-- of the fragments that came, the last are its first one, with the chunk `head`, and as many continuation fragments as there are chunks in `others`
record Open (b : Begun) (came : List Fragment) : Type 0 where
  before : List Fragment
  head : List ℕ
  others : List (List ℕ)
  are : came ≡ before ++ parts_of b.command b.declared (head ∷ others)
  bytes : flatten (head ∷ others) ≡ b.collected
  due : length others % 128 ≡ b.due

abbrev Begins : Collection → List Fragment → Type 0
Begins none came = Unit {0}
Begins (collecting b) came = Open b came

-- what a fragment leaves
record Leaves (came : List Fragment) (r : Read) (x : Taken) : Type 0 where
  keeps : Begins x.collection (came ++ is_taken x.answer r)
  hands : (cmd : ℕ) (payload : List ℕ) → x.answer ≡ message cmd payload → Declared cmd payload (came ++ is_taken x.answer r)

left-refused : (came : List Fragment) (r : Read) (s : Collection) (number : ℕ) → Begins s came → Leaves came r (taken s (refused number))
left-refused came r s number h = record {
  keeps = rw append-nil h;
  hands = λ cmd payload e. let z : ◌≡◌ {A = ℕ} 0 1 = cc in absurd (omega arith);
}

-- data is added: b is what there was before, and f the fragment
module _ (came : List Fragment) (f : Fragment) (s : Collection) (begins : Begins s came) (b : Begun) (field : List ℕ) (before : List Fragment) (head : List ℕ) (others : List (List ℕ))
    (are : came ++ (f ∷ []) ≡ before ++ parts_of b.command b.declared (head ∷ others)) (bytes : flatten (head ∷ others) ≡ b.collected ++ field) (due : length others % 128 ≡ b.due) where
  gather-leaves : Leaves came (fragment f) (gather s b field)
  gather-leaves = by_over (dec_le (length b.collected + length field) b.declared)
    where
      by_whole : Dec (b.declared ≡ length b.collected + length field) → length b.collected + length field ≤ b.declared → Leaves came (fragment f) (gather s b field)
      by_whole (yes e) h =
          let all : length (b.collected ++ field) ≡ b.declared = length-append b.collected field ∙ sym e in
          rw (gather-whole s b field e) (record {
            keeps = tt;
            hands = λ cmd payload is.
                let c : b.command ≡ cmd = cc in
                let p : b.collected ++ field ≡ payload = cc in
                record {
                  before = before;
                  data_of = head ∷ others;
                  are = are ∙ (λ i. before ++ parts_of (c i) ((sym all ∙ ap length p) i) (head ∷ others));
                  all = bytes ∙ p;
                };
          })
      by_whole (no e) h =
          rw (gather-waits s b field (omega arith)) (record {
            keeps = record { before = before; head = head; others = others; are = are; bytes = bytes; due = due };
            hands = λ cmd payload is. let z : ◌≡◌ {A = ℕ} 0 1 = cc in absurd (omega arith);
          })

      by_over : Dec (length b.collected + length field ≤ b.declared) → Leaves came (fragment f) (gather s b field)
      by_over (yes h) = by_whole (ℕ_discrete b.declared (length b.collected + length field)) h
      by_over (no h) = rw (gather-over s b field (omega arith)) (left-refused came (fragment f) s 18 begins)

module _ (space : ℕ) (came : List Fragment) where
  -- a fragment that begins a message
  begin-leaves : (cmd n : ℕ) (field : List ℕ) → Leaves came (fragment (initialization cmd n field)) (begin space cmd n field)
  unfolding begin numbered flatten
  begin-leaves cmd n field =
      pick_known (Leaves came (fragment (initialization cmd n field))) (ltb space n) _ _
      (λ e. left-refused came (fragment (initialization cmd n field)) none 17 tt)
      (λ e. gather-leaves came (initialization cmd n field) none tt (record { command = cmd; declared = n; collected = []; due = 0 }) field came field [] refl (append-nil field) refl)

  -- the one that is due
  due-leaves : (b : Begun) (field : List ℕ) → Open b came
      → Leaves came (fragment (continuation b.due field)) (gather (collecting b) (record { command = b.command; declared = b.declared; collected = b.collected; due = (b.due + 1) % 128 }) field)
  due-leaves b field o =
      gather-leaves came (continuation b.due field) (collecting b) o (record { command = b.command; declared = b.declared; collected = b.collected; due = (b.due + 1) % 128 }) field o.before o.head (o.others ++ (field ∷ [])) came-is bytes-are (due-is)
    where
      first : List ℕ → Fragment
      first = initialization b.command b.declared

      came-is : came ++ (continuation b.due field ∷ []) ≡ o.before ++ parts_of b.command b.declared (o.head ∷ (o.others ++ (field ∷ [])))
      came-is =
          ap (λ (l : List Fragment). l ++ (continuation b.due field ∷ [])) o.are
          ∙ (append_assoc o.before (parts_of b.command b.declared (o.head ∷ o.others)) (continuation b.due field ∷ [])
          ∙ ap (λ (l : List Fragment). o.before ++ (first o.head ∷ l))
          (ap (λ (k : ℕ). numbered (λ i. continuation (i % 128)) 0 o.others ++ (continuation k field ∷ [])) (sym o.due ∙ omega arith) ∙ sym (numbered-snoc (λ i. continuation (i % 128)) 0 o.others field)))

      bytes-are : flatten (o.head ∷ (o.others ++ (field ∷ []))) ≡ b.collected ++ field
      bytes-are = flatten-snoc (o.head ∷ o.others) field ∙ ap (λ (l : List ℕ). l ++ field) o.bytes

      due-is : length (o.others ++ (field ∷ [])) % 128 ≡ (b.due + 1) % 128
      due-is = omega (arith, length-append o.others (field ∷ []), o.due)

  fragment-leaves : (s : Collection) (f : Fragment) → Begins s came → Leaves came (fragment f) (on_fragment space s f)
  unfolding on_fragment
  fragment-leaves none (initialization cmd n field) h = begin-leaves cmd n field
  fragment-leaves none (continuation k field) h = left-refused came _ none 16 tt
  fragment-leaves (collecting b) (initialization cmd n field) h = left-refused came _ (collecting b) 16 h
  fragment-leaves (collecting b) (continuation k field) h =
      pick_known (Leaves came (fragment (continuation k field))) (eqb k b.due) _ _
      (λ e. subst (λ (j : ℕ). Leaves came (fragment (continuation j field)) (gather (collecting b) (record { command = b.command; declared = b.declared; collected = b.collected; due = (b.due + 1) % 128 }) field)) (sym (eqb-true k b.due e)) (due-leaves b field h))
      (λ e. left-refused came _ (collecting b) 16 h)

  read-leaves : (s : Collection) (r : Read) → Begins s came → Leaves came r (on_read space s r)
  read-leaves s too_short h = left-refused came too_short s 15 h
  read-leaves s (fragment f) h = fragment-leaves s f h

hear-leaves : (size space : ℕ) (came : List Fragment) (s : Collection) (bytes : List ℕ) → Begins s came → Leaves came (read bytes) (hear size space s bytes)
unfolding hear
hear-leaves size space came s bytes h =
    pick_known (Leaves came (read bytes)) (ltb size (length bytes)) _ _ (λ e. left-refused came (read bytes) s 15 h) (λ e. read-leaves space came s (read bytes) h)

-- ---- runs
module _ (size space : ℕ) where
  run-leaves : (s : Collection) (came : List Fragment) (all : List (List ℕ)) → Begins s came → Begins (after size space s all) (came ++ taken_of size space s all)
  run-leaves s came [] h = rw append-nil h
  run-leaves s came (bytes ∷ rest) h =
      let now = (hear-leaves size space came s bytes h).keeps in
      rw (← append_assoc came (is_taken (answer size space s bytes) (read bytes)) (taken_of size space (next size space s bytes) rest))
      (run-leaves (next size space s bytes) (came ++ is_taken (answer size space s bytes) (read bytes)) rest now)

  taken-snoc : (s : Collection) (all : List (List ℕ)) (bytes : List ℕ)
      → taken_of size space s (all ++ (bytes ∷ [])) ≡ taken_of size space s all ++ is_taken (answer size space (after size space s all) bytes) (read bytes)
  taken-snoc s [] bytes = append-nil _
  taken-snoc s (b ∷ rest) bytes =
      ap (λ (l : List Fragment). is_taken (answer size space s b) (read b) ++ l) (taken-snoc (next size space s b) rest bytes)
      ∙ sym (append_assoc (is_taken (answer size space s b) (read b)) (taken_of size space (next size space s b) rest) _)

pub collects-declared : CollectsDeclared
collects-declared size space came bytes cmd payload is =
    let so_far = run-leaves size space none [] came tt in
    rw (taken-snoc size space none came bytes) ((hear-leaves size space (taken_of size space none came) (after size space none came) bytes so_far).hands cmd payload is)
