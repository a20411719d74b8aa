-- The test for soundness and the facts agree. Assumes nothing.
use Prim.Native.Nat.{ℕ, ◌+◌, ◌*◌, ◌/◌, ◌≤◌, ◌<◌}
use native.Mathlib.Omega.{arith}
use native.Mathlib.Decide.{dec_lt, ℕ_discrete}
use mathlib.Core.Path.{◌≡◌, refl, sym, ◌∙◌}
use mathlib.Core.List.{[]}
use mathlib.Core.Bool.{Bool, true, false}
use mathlib.Core.Logic.{◌⊎◌, inl, inr}
use borrow.Author.Tests.{leb-true, eqb-true, ltb-false, le-leb, lt-ltb, le-ltb, eq-eqb, ne_eqb}
use lib.Dec.{leb, ltb, eqb}
use Rattle.ctaphid.specs.Choice.{pick}
use Rattle.ctaphid.specs.Transport.{is_allocated}
use Rattle.ctaphid.proofs.Tests.{pick_true, pick_known}
use Rattle.receive.specs.declared.MessageAssembler.{MessageAssembler}
use Rattle.receive.specs.Assembler as receive
use Rattle.receive.proofs.Receiving.{sound-is as receive-sound-is, is-sound as receive-is-sound}
use Rattle.hid.specs.declared.CtapHid.{CtapHid}
use Rattle.hid.specs.Due.{due_by}
use Rattle.hid.specs.Soundness.{Allocated, Placed, Sound, is_on_channel, is_placed, is_counted, transacts, is_held, is_timely, is_sound}
use Rattle.hid.proofs.Counting.{due-some, due-0}

-- a call whose answer was tested
module _ (n c : ℕ) (b : Bool) (e : b ≡ is_allocated n c) where
  pub allocated-yes : b ≡ true → is_allocated n c ≡ true
  allocated-yes t = sym e ∙ t

  pub allocated-no : b ≡ false → is_allocated n c ≡ false
  allocated-no t = sym e ∙ t

module _ (max due : ℕ) (a : MessageAssembler) (b : Bool) (e : b ≡ is_counted max due a) where
  pub counted-yes : b ≡ true → is_counted max due a ≡ true
  counted-yes t = sym e ∙ t

  pub counted-no : b ≡ false → is_counted max due a ≡ false
  counted-no t = sym e ∙ t

module _ (s : CtapHid) (wink : ℕ) (b : Bool) (e : b ≡ is_timely s wink) where
  pub timely-yes : b ≡ true → is_timely s wink ≡ true
  timely-yes t = sym e ∙ t

  pub timely-no : b ≡ false → is_timely s wink ≡ false
  timely-no t = sym e ∙ t

-- ---- from the test to the facts
pub allocated-is : (n c : ℕ) → is_allocated n c ≡ true → Allocated n c
unfolding is_allocated
allocated-is n c e = let p = pick_true (leb 1 c) (leb c n) e in (leb-true 1 c p.0, leb-true c n p.1)

on-channel-is : (n c cmd : ℕ) → is_on_channel n c cmd ≡ true → Allocated n c ⊎ ((c ≡ 0xffff_ffff) × (cmd ≡ 6))
unfolding is_on_channel
on-channel-is n c cmd =
    pick_known (λ (b : Bool). b ≡ true → Allocated n c ⊎ ((c ≡ 0xffff_ffff) × (cmd ≡ 6))) (is_allocated n c) _ _
    (λ e h. inl (allocated-is n c e))
    (λ e h. let p = pick_true (eqb c 0xffff_ffff) (eqb cmd 6) h in inr (eqb-true c 0xffff_ffff p.0, eqb-true cmd 6 p.1))

placed-is : (n : ℕ) (a : MessageAssembler) → is_placed n a ≡ true → (a.len ≡ 0 → ⊥) → Placed n a
unfolding is_placed
placed-is n a =
    pick_known (λ (b : Bool). b ≡ true → (a.len ≡ 0 → ⊥) → Placed n a) (eqb a.len 0) _ _
    (λ e h z. absurd (z (eqb-true a.len 0 e)))
    (λ e h z. on-channel-is n a.cid a.cmd h)

held-is : (s : CtapHid) → is_held s ≡ true → s.last < s.lock → Allocated s.allocated s.locked
unfolding is_held
held-is s =
    pick_known (λ (b : Bool). b ≡ true → s.last < s.lock → Allocated s.allocated s.locked) (ltb s.last s.lock) _ _
    (λ e h l. allocated-is s.allocated s.locked h)
    (λ e h l. absurd (omega (arith, ltb-false s.last s.lock e)))

pub counted_is : (max due : ℕ) (a : MessageAssembler) → is_counted max due a ≡ true → ((a.len ≡ 0 → ⊥) → receive.Sound a max) × (due ≡ due_by a)
unfolding is_counted
counted_is max due a e = let p = pick_true (receive.is_sound a max) _ e in (λ z. receive-sound-is a max z p.0, eqb-true due (due_by a) p.1)

pub sound-is : (s : CtapHid) (wink : ℕ) → is_sound s wink ≡ true → Sound s wink
unfolding is_sound is_timely transacts
sound-is s wink e =
    let p₁ = pick_true (leb s.max 7609) _ e in
    let p₂ = pick_true (leb s.allocated 0xffff_fffe) _ p₁.1 in
    let p₃ = pick_true (leb s.last 0xffff_ffff_ffff) _ p₂.1 in
    let p₄ = pick_true (is_timely s wink) _ p₃.1 in
    let p₅ = pick_true (is_counted s.max s.still_due s.assembler) _ p₄.1 in
    let counted = counted_is s.max s.still_due s.assembler p₅.0 in
    let t₁ = pick_true (leb s.assembler.deadline (s.last + 100)) _ p₄.0 in
    let t₂ = pick_true (leb s.lock (s.last + 10000)) _ t₁.1 in
    let t₃ = pick_true (leb wink (s.last + 5000)) _ t₂.1 in
    record {
      maximum = leb-true s.max 7609 p₁.0;
      count = leb-true s.allocated 0xffff_fffe p₂.0;
      last = leb-true s.last 0xffff_ffff_ffff p₃.0;
      deadline = leb-true s.assembler.deadline (s.last + 100) t₁.0;
      lock = leb-true s.lock (s.last + 10000) t₂.0;
      wink = leb-true wink (s.last + 5000) t₃.0;
      holder = held-is s t₃.1;
      transaction = counted.0;
      due = counted.1;
      channel = placed-is s.allocated s.assembler p₅.1;
    }

-- ---- and back
pub is-allocated : (n c : ℕ) → Allocated n c → is_allocated n c ≡ true
unfolding is_allocated pick
is-allocated n c a = simp (le-leb 1 c a.0, le-leb c n a.1)

is-on-channel : (n c cmd : ℕ) → Allocated n c ⊎ ((c ≡ 0xffff_ffff) × (cmd ≡ 6)) → is_on_channel n c cmd ≡ true
unfolding is_on_channel pick
is-on-channel n c cmd (inl a) = simp (is-allocated n c a)
is-on-channel n c cmd (inr b) = go (is_allocated n c)
  where
    go : (test : Bool) → pick test true (pick (eqb c 0xffff_ffff) (eqb cmd 6) false) ≡ true
    go true = refl
    go false = simp (eq-eqb _ _ b.0, eq-eqb _ _ b.1)

is-placed : (n : ℕ) (a : MessageAssembler) → ((a.len ≡ 0 → ⊥) → Placed n a) → is_placed n a ≡ true
unfolding is_placed pick
is-placed n a t = by-len (ℕ_discrete a.len 0)
  where
    by-len : Dec (a.len ≡ 0) → is_placed n a ≡ true
    by-len (yes z) = simp (eq-eqb _ _ z)
    by-len (no z) = simp (ne_eqb _ _ z) (is-on-channel n a.cid a.cmd (t z))

is-held : (s : CtapHid) → (s.last < s.lock → Allocated s.allocated s.locked) → is_held s ≡ true
unfolding is_held pick
is-held s a = by-time (dec_lt s.last s.lock)
  where
    by-time : Dec (s.last < s.lock) → is_held s ≡ true
    by-time (yes l) = simp (lt-ltb _ _ l) (is-allocated s.allocated s.locked (a l))
    by-time (no l) = simp (le-ltb s.last s.lock (omega arith))

pub is-counted : (max due : ℕ) (a : MessageAssembler) → ((a.len ≡ 0 → ⊥) → receive.Sound a max) → due ≡ due_by a → is_counted max due a ≡ true
unfolding is_counted pick
is-counted max due a sound e = simp (receive-is-sound a max sound) (eq-eqb due (due_by a) e)

-- ---- so does the shorter test that the code makes
module _ (max due : ℕ) (a : MessageAssembler) where
  not-counted : (((a.len ≡ 0 → ⊥) → receive.Sound a max) → due ≡ due_by a → ⊥) → false ≡ is_counted max due a
  not-counted h = by-test (is_counted max due a) refl
    where
      by-test : (b : Bool) → is_counted max due a ≡ b → false ≡ b
      by-test true e = let t = counted_is max due a e in absurd (h t.0 t.1)
      by-test false e = refl

  pub counted_none : due ≡ 0 → a.len ≡ 0 → true ≡ is_counted max due a
  counted_none n z = sym (is-counted max due a (λ some. absurd (some z)) (n ∙ due-0 a z))

  -- nothing is due, and yet there is a transaction
  pub counted-more : due ≡ 0 → (a.len ≡ 0 → ⊥) → false ≡ is_counted max due a
  counted-more n z = not-counted (λ sound e. omega (arith, n, e, due-some a [] z, (sound z).lengths.below))

  module _ (some : due ≡ 0 → ⊥) where
    begun : due ≡ due_by a → a.len ≡ 0 → ⊥
    begun e z = some (e ∙ sym (due-0 a z))

    pub counted-command : 127 < a.cmd → false ≡ is_counted max due a
    counted-command h = not-counted (λ sound e. omega (arith, h, (sound (begun e)).command))

    pub counted-long : max < a.len → false ≡ is_counted max due a
    counted-long h = not-counted (λ sound e. omega (arith, h, (sound (begun e)).lengths.within))

    pub counted-taken : (a.taken ≡ 57 + 59 * a.seq → ⊥) → false ≡ is_counted max due a
    counted-taken h = not-counted (λ sound e. h (sym (sound (begun e)).lengths.bytes))

    pub counted-all : a.cmd ≤ 127 → a.len ≤ max → a.taken ≡ 57 + 59 * a.seq → eqb ((a.len + 1) / 59) (a.seq + due) ≡ is_counted max due a
    counted-all command within bytes = by_count (ℕ_discrete ((a.len + 1) / 59) (a.seq + due))
      where
        by_count : Dec ((a.len + 1) / 59 ≡ a.seq + due) → eqb ((a.len + 1) / 59) (a.seq + due) ≡ is_counted max due a
        by_count (yes e) =
            let much : 0 < due = omega (arith, some) in
            let below : 57 + 59 * a.seq < a.len = omega (arith, e, much) in
            let z : a.len ≡ 0 → ⊥ = λ z. omega (arith, z, below) in
            eq-eqb _ _ e
            ∙ sym (is-counted max due a
            (λ z. record { command = command; lengths = record { long = omega (arith, below); within = within; below = below; bytes = sym bytes } })
            (omega (arith, e, due-some a [] z)))
        by_count (no e) =
            ne_eqb _ _ e
            ∙ not-counted (λ sound same. e (omega (arith, same, due-some a [] (begun same), (sound (begun same)).lengths.below)))

pub ruleset counted = (counted-command, counted-long, counted-taken, counted-all)

-- nothing is due: there is no transaction, or the number is wrong
pub transacts-none : (s : CtapHid) → s.still_due ≡ 0 → eqb s.assembler.len 0 ≡ transacts s
unfolding transacts is_placed pick
transacts-none s none = by-len (ℕ_discrete s.assembler.len 0)
  where
    by-len : Dec (s.assembler.len ≡ 0) → eqb s.assembler.len 0 ≡ transacts s
    by-len (yes z) = simp (sym (counted_none s.max s.still_due s.assembler none z), eq-eqb _ _ z)
    by-len (no z) = simp (sym (counted-more s.max s.still_due s.assembler none z)) (ne_eqb _ _ z)

-- there is one: what is left to ask is its channel
pub transacts-some : (s : CtapHid) {b : Bool} → (s.still_due ≡ 0 → ⊥) → b ≡ is_counted s.max s.still_due s.assembler → b ≡ true
    → (r : Bool) → r ≡ is_on_channel s.allocated s.assembler.cid s.assembler.cmd → r ≡ transacts s
unfolding transacts is_placed pick
transacts-some s some e t r h =
    let is : is_counted s.max s.still_due s.assembler ≡ true = sym e ∙ t in
    let due : s.still_due ≡ due_by s.assembler = (counted_is s.max s.still_due s.assembler is).1 in
    simp (is, ne_eqb _ _ (begun s.max s.still_due s.assembler some due)) h

pub is-sound : (s : CtapHid) (wink : ℕ) → Sound s wink → is_sound s wink ≡ true
unfolding is_sound is_timely transacts pick
is-sound s wink t =
    simp (le-leb s.max 7609 t.maximum, le-leb _ _ t.count, le-leb _ _ t.last, le-leb _ _ t.deadline, le-leb _ _ t.lock, le-leb _ _ t.wink, is-held s t.holder)
    (simp (is-counted s.max s.still_due s.assembler t.transaction t.due) (is-placed s.allocated s.assembler t.channel))
