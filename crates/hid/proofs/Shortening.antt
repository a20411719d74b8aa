-- The short way comes to what the long way comes to. Assumes nothing.
use Prim.Native.Nat.{ℕ, ◌+◌, ◌-◌, ◌≤◌, ◌<◌}
use native.Mathlib.Omega.{arith}
use mathlib.Core.Path.{◌≡◌, refl, sym, ap, subst, ◌∙◌}
use mathlib.Core.List.{List, [], ◌++◌}
use mathlib.Core.Bool.{Bool, true, false}
use borrow.Author.Tests.{eq-eqb, lt-ltb}
use lib.ListN.{length, take, length-append}
use lib.Seq.{length-take-le}
use Rattle.ctaphid.specs.Choice.{pick}
use Rattle.ctaphid.specs.Messages.{count}
use Rattle.ctaphid.specs.Packets.{continuation, Bytes, read}
use Rattle.ctaphid.specs.Receiver.{Transaction, busy, collect, receive}
use Rattle.ctaphid.specs.Transport.{is_valid, is_shut}
use Rattle.packet.specs.Reading.{reading_of, heard, said, field_of}
use Rattle.packet.proofs.Packets.{packet-size, packet-read}
use Rattle.packet.specs.declared.Reading.{Reading}
use Rattle.packet.specs.declared.Reading.TheVariants as reading
use Rattle.packet.specs.declared.ProcessedPacket.{ProcessedPacket}
use Rattle.packet.specs.declared.ProcessedPacket.TheVariants.{ContinuationPacket}
use Rattle.receive.specs.declared.MessageAssembler.{MessageAssembler}
use Rattle.hid.specs.declared.CtapHid.{CtapHid}
use Rattle.answers.specs.declared.Answer.TheVariants.{Nothing}
use Rattle.hid.specs.declared.Stepped.{Stepped}
use Rattle.receive.specs.declared.Received.TheVariants as received
use Rattle.receive.specs.declared.Assembled.{Assembled}
use Rattle.collect.specs.Standing.{Stands}
use Rattle.receive.specs.Meaning.{transaction_of, receiver_of, assembler_of}
use Rattle.receive.specs.Assembler.{Assembling, assembling, assembled_of, Adds}
use Rattle.receive.proofs.Receiving.{yes-turn, own-later, busy-own, receives-busy}
use Rattle.hid.specs.Due.{due_by}
use Rattle.hid.specs.Meaning.{settings_of}
use Rattle.hid.specs.State.{having}
use Rattle.hid.specs.Hearing.{Admits, Hears, stepping, heard_of}
use Rattle.hid.specs.Refusals.{refusal_of}
use Rattle.hid.specs.Transport.{admitted_of}
use Rattle.hid.specs.Shortcut.{Open, Due, TellsNext, TellsDue, GoesOn}
use Rattle.hid.proofs.Counting.{due-some, due-0}
use Rattle.hid.proofs.Heard.{same-valid, adds-of, parsed-is, serves, hears-served, hears-packet, heard-packet}
use Rattle.hid.proofs.Refusing.{step-admitted, step-heard}

-- ---- whether it is such a packet
module _ (s : CtapHid) (time : ℕ) (disabled : Bool) (p : ProcessedPacket) {cid seq : ℕ} (is : p ≡ ContinuationPacket cid seq)
    (live : time < s.assembler.deadline) (own : cid ≡ s.assembler.cid) (number : seq ≡ s.assembler.seq)
    (q : Bool) (test : q ≡ is_shut (record { holder = s.locked; until = s.lock }) time disabled cid) (off : q ≡ false) where
  pub next-told : (b : Bool) → b ≡ is_valid s.allocated (continuation cid seq []) → TellsNext b s time disabled p
  next-told false e = tt
  next-told true e = (
    record { live = live; own = is ∙ (ap (λ (c : ℕ). ContinuationPacket c seq) own ∙ ap (ContinuationPacket s.assembler.cid) number); valid = ap (λ (x : ProcessedPacket). is_valid s.allocated (heard x [])) is ∙ sym e },
    ap (is_shut (record { holder = s.locked; until = s.lock }) time disabled) (sym own) ∙ (sym test ∙ off),
  )

module _ (s : CtapHid) (time : ℕ) (disabled : Bool) (p : List ℕ) (more : 1 < s.still_due)
    (x : Reading) (e : said x (field_of (reading_of p)) ≡ reading_of p) {processed : ProcessedPacket} (is : x ≡ reading.Packet processed) where
  field_is : heard processed (field_of (reading_of p)) ≡ read p
  field_is = packet-read p (packet-size p x e is) x e (field_of (reading_of p)) is refl

  pub due-told : (b : Bool) → TellsNext b s time disabled processed → TellsDue b s time disabled p
  due-told false h = tt
  due-told true h = (
    record {
      more = more;
      live = h.0.live;
      own = ap (λ (q : ProcessedPacket). heard q (field_of (reading_of p))) (sym h.0.own) ∙ field_is;
      valid = ap (is_valid s.allocated) (sym field_is) ∙ (same-valid s.allocated processed (field_of (reading_of p)) [] ∙ h.0.valid);
    },
    h.1,
  )

-- what was told
module _ {b : Bool} (s : CtapHid) (time : ℕ) (disabled : Bool) (p : List ℕ) (h : TellsDue b s time disabled p) (e : b ≡ true) where
  told : Due s time p × Open s time disabled
  told = subst (λ (x : Bool). TellsDue x s time disabled p) e h

  pub is-due : Due s time p
  is-due = told.0

  is_open : Open s time disabled
  is_open = told.1

-- ---- such a packet
abbrev pub renewed : CtapHid → (time : ℕ) → MessageAssembler
renewed s time =
    record { deadline = time + 100; cid = s.assembler.cid; len = s.assembler.len; taken = s.assembler.taken; cmd = s.assembler.cmd; seq = s.assembler.seq + 1 }

module _ (s : CtapHid) (time : ℕ) (p m : List ℕ) (asks : Admits s time p m) (due : Due s time p) where
  abbrev a : MessageAssembler
  a = s.assembler

  begun : a.len ≡ 0 → ⊥
  begun z = omega (arith, due.more, asks.sound.due, due-0 a z)

  stands : Stands s.max a.len a.taken a.seq
  stands = (asks.sound.transaction begun).lengths

  -- its number is small, and with its data field not all is there
  pub number-low : a.seq ≤ 128
  number-low = omega (arith, stands.below, stands.within, asks.sound.maximum)

  pub block-low : a.taken + 59 < a.len
  block-low = omega (arith, stands.bytes, stands.below, due.more, asks.sound.due, due-some a [] begun)

  pub renewed-adds : Adds (renewed s time) m
  renewed-adds =
      let adds = adds-of s m asks.sound asks.room begun in
      record { taken = adds.taken; room = adds.room; command = adds.command }

  module _ (bytes : Bytes p) (field : List ℕ) (f : field ≡ field_of (reading_of p)) where
    abbrev q : ProcessedPacket
    q = ContinuationPacket a.cid a.seq

    is_read : heard q field ≡ read p
    is_read = ap (heard q) f ∙ due.own

    hears : Hears s time (heard q field) m
    hears = hears-packet s time p m (heard q field) is_read asks bytes

    pub block : length field ≡ 59
    block = hears.formed.2

    module _ (x : MessageAssembler) (m1 : List ℕ) (e : assembling (record { assembler = x; received = received.Nothing }) m1 ≡ assembled_of (collect (transaction_of (renewed s time) m) field) m) where
      abbrev o : Assembled
      o = record { assembler = x; received = received.Nothing }

      received_is : assembling o m1 ≡ assembled_of (receive (settings_of s) time (receiver_of a m) (heard q field)) m
      received_is =
          receives-busy a (settings_of s) time (heard q field) m (assembling o m1) begun due.live
          (busy-own (settings_of s) time q field m (assembling o m1) (transaction_of a m) {c = a.cid} refl refl
          (own-later (settings_of s) time q field m (assembling o m1) (transaction_of a m) refl
          (yes-turn _ (assembling o m1) _ _ m (eq-eqb a.seq a.seq refl) e)))

      abbrev grown : Transaction
      grown = record { channel = a.cid; command = a.cmd; declared = a.len; collected = take a.taken m ++ field; due = a.seq + 1; deadline = time + 100 }

      grown-is : x ≡ assembler_of (busy grown)
      unfolding assembled_of collect pick
      grown-is =
          let size : length (take a.taken m) ≡ a.taken = length-take-le a.taken m (omega (arith, renewed-adds.taken, renewed-adds.room)) in
          let less : length (take a.taken m ++ field) < a.len = simp length-append (omega (arith, size, block, block-low)) in
          ap (λ (y : Assembling). y.assembled.assembler) e ∙ simp (lt-ltb _ _ less)

      one_less : s.still_due - 1 ≡ due_by x
      one_less =
          let now-due : due_by x ≡ count 57 59 a.len - (1 + (a.seq + 1)) = ap due_by grown-is ∙ due-some (assembler_of (busy grown)) [] begun in
          omega (arith, now-due, asks.sound.due, due-some a [] begun)

      pub goes_on : (nx : CtapHid) → nx ≡ having s time x (s.still_due - 1) → GoesOn nx s time p m m1
      goes_on nx k disabled r unshut short =
          let y : Stepped = record { hid = nx; answer = Nothing } in
          let valid : is_valid s.allocated (heard q field) ≡ true = ap (is_valid s.allocated) is_read ∙ due.valid in
          heard-packet s time p m (heard q field) is_read disabled r (stepping y m1 r)
          (hears-served s time disabled q field m r hears short valid {c = a.cid} refl {q = false} y m1 r (sym unshut) refl
          (serves s time q field m r o m1 hears short valid (received_is ∙ sym (parsed-is s time (heard q field) m hears)) one_less nx k {c = a.cid} y r refl refl))

-- ---- a step by the short way
module _ (s : CtapHid) (wink time : ℕ) (disabled : Bool) (p m r : List ℕ) {n : ℕ} (e : n ≡ refusal_of s wink time (length p) (length m) (length r)) (none : n ≡ 0)
    {b : Bool} (h : TellsDue b s time disabled p) (yes : b ≡ true) where
  pub short-asks : Admits s time p m × Due s time p
  short-asks = ((step-admitted s wink time disabled p m r e none).0, is-due s time disabled p h yes)

  pub short-heard : (nx : CtapHid) (m1 : List ℕ) → GoesOn nx s time p m m1 → stepping (record { hid = nx; answer = Nothing }) m1 r ≡ heard_of s time disabled (read p) m r
  short-heard nx m1 goes = goes disabled r (is_open s time disabled p h yes) (step-admitted s wink time disabled p m r e none).1

  pub short-step : (nx : CtapHid) (m1 : List ℕ) → GoesOn nx s time p m m1 → (x : Stepped) → x ≡ record { hid = nx; answer = Nothing } → stepping x m1 r ≡ admitted_of s wink time disabled p m r
  short-step nx m1 goes x is = step-heard s wink time disabled p m r e none (stepping x m1 r) (ap (λ (y : Stepped). stepping y m1 r) is ∙ short-heard nx m1 goes)
