-- INIT: what a `return` meets, and what is known of a transport of which more is known. Assumes nothing.
use Prim.Native.Nat.{ℕ, ◌+◌, ◌≤◌, ◌<◌}
use native.Mathlib.Omega.{arith}
use mathlib.Core.Path.{◌≡◌, refl, sym, ap, ◌∙◌}
use mathlib.Core.List.{List, [], ◌∷◌, ◌++◌, append_assoc}
use mathlib.Core.Bool.{Bool, true, false}
use borrow.Author.Tests.{lt-ltb, le-ltb}
use borrow.Rule.Slice.PartMut.{put_mid, post_of}
use lib.Dec.{eqb}
use lib.ListN.{length, take, drop, length-append}
use lib.Seq.{take_at, drop-append-add, drop-drop}
use Rattle.ctaphid.specs.Choice.{pick}
use Rattle.ctaphid.specs.Packets.{four}
use Rattle.ctaphid.specs.Commands.{INIT}
use Rattle.ctaphid.specs.Errors.{InvalidLen}
use Rattle.ctaphid.specs.Capabilities.{capabilities}
use Rattle.ctaphid.specs.Transport.{Transport, Next, next, reply, error, broadcast, next_channel, init_reply, with_allocated, on_init}
use Rattle.ctaphid.proofs.Transport.{init-long, init-new, init-same}
use Rattle.packet.specs.declared.command.CtapHidCommand.TheVariants as command
use Rattle.collect.specs.Adding.{front}
use Rattle.answers.specs.declared.Answer.{Answer}
use Rattle.answers.specs.declared.Answer.TheVariants.{Refused, Reply}
use Rattle.answers.specs.Replies.{Answering, answering, laid_of}
use Rattle.answers.proofs.Laying.{laid-roomy}
use Rattle.channels.specs.declared.Allocated.{Allocated}
use Rattle.channels.specs.Allocating.{Allocating, having, allocating, allocated_by, init_of}

-- k bytes copied to the front, and others right after them
pub copied-twice : (k : ℕ) (old first rest l : List ℕ) → length first ≡ k → k ≤ length old → l ≡ first ++ drop k old → put_mid k (length rest) l rest ≡ front (first ++ rest) old
copied-twice k old first rest l size h is =
    let start : take k l ≡ first = ap (take k) is ∙ take_at first (drop k old) k size in
    let past : drop (k + length rest) l ≡ drop (k + length rest) old =
    ap (drop (k + length rest)) is ∙ (ap (λ (n : ℕ). drop (n + length rest) (first ++ drop k old)) (sym size) ∙ (drop-append-add first (drop k old) (length rest) ∙ drop-drop (length rest) k old)) in
    let sum : length (first ++ rest) ≡ k + length rest = simp (length-append, size) in
    let behind : post_of k (length rest) l ≡ drop (k + length rest) l = drop-drop (length rest) k l in
    rw (behind, start, past, sum, append_assoc)

-- ---- the cases
module _ (n : ℕ) (u2f : Bool) (c : ℕ) (nonce r : List ℕ) where
  abbrev d : Transport
  d = having n u2f

  abbrev Answers : Allocating → Type 0
  Answers v = v ≡ allocated_by (on_init d c nonce) r

  pub init-is-long : (a : Answer) (r' : List ℕ) → 17 ≤ length r → (length nonce ≡ 8 → ⊥) → answering a r' ≡ laid_of (error c InvalidLen) r → Answers (allocating (record { allocated = n; answer = a }) r')
  init-is-long a r' h z k =
      ap (λ (t : Answering). allocating (record { allocated = n; answer = t.answer }) t.reply) (k ∙ laid-roomy (error c InvalidLen) r h)
      ∙ ap (λ (t : Next Transport). allocated_by t r) (sym (init-long d c nonce z))

  -- 17 bytes
  init-written : {capability : ℕ} (x : Allocated) (count channel : ℕ) (r' : List ℕ) → length nonce ≡ 8 → capability ≡ capabilities u2f
      → r' ≡ front (nonce ++ (four channel ++ (2 ∷ 1 ∷ 0 ∷ 0 ∷ capability ∷ []))) r
      → x ≡ record { allocated = count; answer = Reply c command.Init 17 }
      → allocating x r' ≡ allocated_by (next (with_allocated d count) (reply c INIT (init_reply nonce channel d.settings))) r
  init-written x count channel r' z k e h =
      let size : length (init_reply nonce channel d.settings) ≡ 17 = simp length-append (omega arith) in
      rw (h, e, k) (ap (λ (t : ℕ). allocating (record { allocated = count; answer = Reply c command.Init t }) (front (init_reply nonce channel d.settings) r)) (sym size))

  pub init-is-new : {channel capability : ℕ} (x : Allocated) (r' : List ℕ) → length nonce ≡ 8 → c ≡ broadcast → channel ≡ next_channel n → capability ≡ capabilities u2f
      → r' ≡ front (nonce ++ (four channel ++ (2 ∷ 1 ∷ 0 ∷ 0 ∷ capability ∷ []))) r
      → x ≡ record { allocated = channel; answer = Reply c command.Init 17 } → Answers (allocating x r')
  init-is-new {channel} x r' z b is k e h =
      init-written x channel channel r' z k e h
      ∙ (ap (λ (t : ℕ). allocated_by (next (with_allocated d t) (reply c INIT (init_reply nonce t d.settings))) r) is
      ∙ ap (λ (t : Next Transport). allocated_by t r) (sym (init-new d c nonce z b)))

  pub init-is-same : {capability : ℕ} (x : Allocated) (r' : List ℕ) → length nonce ≡ 8 → (c ≡ broadcast → ⊥) → capability ≡ capabilities u2f
      → r' ≡ front (nonce ++ (four c ++ (2 ∷ 1 ∷ 0 ∷ 0 ∷ capability ∷ []))) r
      → x ≡ record { allocated = n; answer = Reply c command.Init 17 } → Answers (allocating x r')
  init-is-same x r' z b k e h = init-written x n c r' z k e h ∙ ap (λ (t : Next Transport). allocated_by t r) (sym (init-same d c nonce z b))

  -- ---- refusals
  pub init-short : length r < 17 → allocating (record { allocated = n; answer = Refused 2 }) r ≡ init_of n u2f c nonce r
  unfolding init_of pick
  init-short h = simp (lt-ltb (length r) 17 h)

  module _ (roomy : 17 ≤ length r) where
    pub init-unsound : 0xffff_fffe < n → allocating (record { allocated = n; answer = Refused 3 }) r ≡ init_of n u2f c nonce r
    unfolding init_of pick
    init-unsound h = simp (le-ltb (length r) 17 roomy, lt-ltb 0xffff_fffe n h)

    pub init-answered : (v : Allocating) → n ≤ 0xffff_fffe → Answers v → v ≡ init_of n u2f c nonce r
    unfolding init_of pick
    init-answered v h k = simp (le-ltb (length r) 17 roomy, le-ltb 0xffff_fffe n h) k

pub ruleset inits = (init-is-long, init-is-new, init-is-same)

pub ruleset init-calls = (init-short, init-unsound, init-answered)

-- ---- what INIT does to any transport
pub init-any : (d : Transport) (c : ℕ) (nonce : List ℕ)
    → on_init d c nonce ≡ next (with_allocated d (on_init (having d.allocated d.settings.u2f) c nonce).state.allocated) (on_init (having d.allocated d.settings.u2f) c nonce).answer
unfolding on_init pick
init-any d c nonce = by_tests (eqb (length nonce) 8) (eqb c broadcast)
  where
    led : Transport → (a b : Bool) → Next Transport
    led t a b =
        pick a
        (pick b
        (next (with_allocated t (next_channel t.allocated)) (reply c INIT (init_reply nonce (next_channel t.allocated) t.settings)))
        (next t (reply c INIT (init_reply nonce c t.settings))))
        (next t (error c InvalidLen))

    by_tests : (a b : Bool) → led d a b ≡ next (with_allocated d (led (having d.allocated d.settings.u2f) a b).state.allocated) (led (having d.allocated d.settings.u2f) a b).answer
    by_tests true true = refl
    by_tests true false = refl
    by_tests false b = refl
