-- What a `return` of the receiver's code meets: a law for each case of the standard's receiver. `search` puts them together along the branches. Assumes nothing.
use Prim.Native.Nat.{ℕ, ◌+◌, ◌≤◌, ◌<◌}
use native.Mathlib.Omega.{arith}
use native.Mathlib.Decide.{dec_le, ℕ_discrete}
use mathlib.Core.Path.{◌≡◌, refl, sym, ap, ◌∙◌}
use mathlib.Core.List.{List, [], ◌++◌}
use mathlib.Core.Bool.{Bool, true, false, not}
use borrow.Author.Tests.{lt-ltb, le-ltb, le-leb, lt-leb, eq-eqb, ne_eqb, eqb-true, leb-true, ltb-false, not-true, not-false}
use lib.Dec.{leb, eqb}
use lib.ListN.{length, take, length-append, take-append-drop}
use lib.Seq.{length-take-le}
use Rattle.ctaphid.specs.Choice.{pick}
use Rattle.ctaphid.specs.Errors.{Error, InvalidCmd, InvalidSeq, MsgTimeout, ChannelBusy, code}
use Rattle.ctaphid.specs.Packets.{Packet}
use Rattle.ctaphid.specs.Commands.{command_of}
use Rattle.ctaphid.specs.Settings.{Settings, knows}
use Rattle.ctaphid.specs.Receiver.{Transaction, idle, busy, silent, fault, Turn, turn, channel_of, collect, start_known, start, when_idle, when_over, on_own, when_busy, receive}
use Rattle.ctaphid.specs.Limits.{last_time}
use Rattle.ctaphid.proofs.Tests.{pick_true, pick_known}
use Rattle.ctaphid.proofs.Listing.{knows_same}
use Rattle.ctaphid.proofs.Refusing.{refused-by, Passed, passed, none-refuse}
use Rattle.packet.specs.Reading.{heard}
use Rattle.packet.specs.declared.ProcessedPacket.{ProcessedPacket}
use Rattle.packet.specs.declared.ProcessedPacket.TheVariants.{InitPacket, ContinuationPacket}
use Rattle.known.specs.Meaning.{settings_of, is_known}
use Rattle.collect.specs.Adding.{front, Adding, added, add_of}
use Rattle.collect.specs.declared.Added.{Added}
use Rattle.collect.specs.declared.Added.TheVariants.{Waiting, Whole, Refused}
use Rattle.collect.specs.Standing.{is_standing}
use Rattle.collect.proofs.Adding.{add-waits, add-whole}
use Rattle.collect.proofs.Standing.{stands-is, is-standing}
use Rattle.receive.specs.declared.MessageAssembler.{MessageAssembler}
use Rattle.receive.specs.declared.Received.TheVariants as received
use Rattle.receive.specs.declared.Assembled.{Assembled}
use Rattle.receive.specs.Meaning.{none, transaction_of, receiver_of}
use Rattle.receive.specs.Assembler.{Sound, is_sound, Assembling, assembling, assembled_of, refusals, refusal_of, parsed_of, Adds, Receives}

-- ---- tests
module _ (test : Bool) (o : Assembling) (x y : Turn) (m : List ℕ) where
  pub yes-turn : test ≡ true → o ≡ assembled_of x m → o ≡ assembled_of (pick test x y) m
  unfolding pick
  yes-turn e k = simp e k

  pub no-turn : test ≡ false → o ≡ assembled_of y m → o ≡ assembled_of (pick test x y) m
  unfolding pick
  no-turn e k = simp e k

-- ---- the transaction is over, or there was none; or it goes on
pub reset-silent : (r : Assembled) (m : List ℕ) → r ≡ record { assembler = none; received = received.Nothing } → assembling r m ≡ assembled_of (turn idle silent) m
unfolding assembled_of
reset-silent r m e = ap (λ (t : Assembled). assembling t m) e

pub reset-fault : (r : Assembled) (m : List ℕ) (e : Error) → r ≡ record { assembler = none; received = received.Error (code e) } → assembling r m ≡ assembled_of (turn idle (fault e)) m
unfolding assembled_of
reset-fault r m e k = ap (λ (t : Assembled). assembling t m) k

pub goes_on : (a : MessageAssembler) (r : Assembled) (m : List ℕ) (e : Error) → Adds a m → r ≡ record { assembler = a; received = received.Error (code e) } → assembling r m ≡ assembled_of (turn (busy (transaction_of a m)) (fault e)) m
unfolding assembled_of
goes_on a r m e adds k =
    let long : length (take a.taken m) ≡ a.taken = length-take-le a.taken m (omega (arith, adds.taken, adds.room)) in
    ap (λ (t : Assembled). assembling t m) k ∙ rw (long, take-append-drop)

-- ---- the cases of a packet

-- a channel is told without the data
pub same-channel : (p : ProcessedPacket) (x y : List ℕ) → channel_of (heard p x) ≡ channel_of (heard p y)
same-channel (InitPacket cid cmd len) x y = refl
same-channel (ContinuationPacket cid seq) x y = refl

module _ (set : Settings) (time : ℕ) (p : ProcessedPacket) (d m : List ℕ) (o : Assembling) where
  pub idle-first : {cid cmd len : ℕ} → p ≡ InitPacket cid cmd len → o ≡ assembled_of (start set time cid cmd len d) m → o ≡ assembled_of (when_idle set time (heard p d)) m
  unfolding when_idle
  idle-first e k = simp e k

  pub idle-later : {cid seq : ℕ} → p ≡ ContinuationPacket cid seq → o ≡ assembled_of (turn idle silent) m → o ≡ assembled_of (when_idle set time (heard p d)) m
  unfolding when_idle
  idle-later e k = simp e k

  pub over_first : {cid cmd len : ℕ} (t : Transaction) → p ≡ InitPacket cid cmd len → o ≡ assembled_of (start set time cid cmd len d) m → o ≡ assembled_of (when_over set time t (heard p d)) m
  unfolding when_over when_idle
  over_first t e k = simp e k

  pub over-later : {cid seq : ℕ} (t : Transaction) → p ≡ ContinuationPacket cid seq → o ≡ assembled_of (pick (eqb cid t.channel) (turn idle (fault MsgTimeout)) (turn idle silent)) m → o ≡ assembled_of (when_over set time t (heard p d)) m
  unfolding when_over when_idle
  over-later t e k = simp e k

  pub own_first : {cid cmd len : ℕ} (t : Transaction) → p ≡ InitPacket cid cmd len → o ≡ assembled_of (pick (eqb cmd 6) (start set time cid cmd len d) (turn idle (fault InvalidSeq))) m → o ≡ assembled_of (on_own set time t (heard p d)) m
  unfolding on_own
  own_first t e k = simp e k

  pub own-later : {cid seq : ℕ} (t : Transaction) → p ≡ ContinuationPacket cid seq
      → o ≡ assembled_of (pick (eqb seq t.due) (collect (record { channel = t.channel; command = t.command; declared = t.declared; collected = t.collected; due = t.due + 1; deadline = time + 100 }) d) (turn idle (fault InvalidSeq))) m
      → o ≡ assembled_of (on_own set time t (heard p d)) m
  unfolding on_own
  own-later t e k = simp e k

  module _ (t : Transaction) {c : ℕ} (is : c ≡ channel_of (heard p [])) where
    pub busy-other : (c ≡ t.channel → ⊥) → o ≡ assembled_of (turn (busy t) (fault ChannelBusy)) m → o ≡ assembled_of (when_busy set time t (heard p d)) m
    unfolding when_busy pick
    busy-other n k = simp (ne_eqb (channel_of (heard p d)) t.channel (λ e. n (is ∙ same-channel p [] d ∙ e))) k

    pub busy-own : c ≡ t.channel → o ≡ assembled_of (on_own set time t (heard p d)) m → o ≡ assembled_of (when_busy set time t (heard p d)) m
    unfolding when_busy pick
    busy-own e k = simp (eq-eqb (channel_of (heard p d)) t.channel (same-channel p d [] ∙ sym is ∙ e)) k

pub adds-of : (a : MessageAssembler) (max time : ℕ) (m : List ℕ) → Receives a max time m → (a.len ≡ 0 → ⊥) → Adds a m
adds-of a max time m r = r.adds

-- ---- check 4: a command that isn't known, and one that is
module _ (max vendor time cid cmd len : ℕ) (d m : List ℕ) {b : Bool} (is : b ≡ is_known vendor cmd) where
  known_as : knows (settings_of max vendor) (command_of cmd) ≡ b
  known_as = knows_same (settings_of max vendor) (settings_of 0 vendor) (λ n. refl) (command_of cmd) ∙ sym is

  pub start-unknown : (r : Assembled) → not b ≡ true → r ≡ record { assembler = none; received = received.Error 1 } → assembling r m ≡ assembled_of (start (settings_of max vendor) time cid cmd len d) m
  unfolding start
  start-unknown r e k = no-turn _ (assembling r m) _ _ m (known_as ∙ not-true b e) (reset-fault r m InvalidCmd k)

  pub start-known : (o : Assembling) → not b ≡ false → o ≡ assembled_of (start_known max time cid cmd len d) m → o ≡ assembled_of (start (settings_of max vendor) time cid cmd len d) m
  unfolding start
  start-known o e k = yes-turn _ o _ _ m (known_as ∙ not-false b e) k

-- ---- check 6
module _ (a : MessageAssembler) (m d : List ℕ) (adds : Adds a m) where
  -- what the code makes of an addition
  abbrev made : Added → List ℕ → Assembling
  made (Waiting n) m' = assembling (record { assembler = record { deadline = a.deadline; cid = a.cid; len = a.len; taken = n; cmd = a.cmd; seq = a.seq }; received = received.Nothing }) m'
  made Whole m' = assembling (record { assembler = none; received = received.Message a.cid a.cmd a.len }) m'
  made (Refused number) m' = assembling (record { assembler = none; received = received.Nothing }) m'

  abbrev made_of : Adding → Assembling
  made_of o = made o.answer o.message

  -- which is what the standard's receiver does
  as-collected : made_of (add_of m a.taken a.len d) ≡ assembled_of (collect (transaction_of a m) d) m
  unfolding assembled_of collect pick
  as-collected = by_size (dec_le a.len (a.taken + length d))
    where
      S : Type 0
      S = made_of (add_of m a.taken a.len d) ≡ assembled_of (collect (transaction_of a m) d) m

      long : length (take a.taken m) ≡ a.taken
      long = length-take-le a.taken m (omega (arith, adds.taken, adds.room))

      sum : length (take a.taken m ++ d) ≡ a.taken + length d
      sum = simp (length-append, long)

      by_size : Dec (a.len ≤ a.taken + length d) → S
      by_size (yes h) =
          let all : length (take a.len (take a.taken m ++ d)) ≡ a.len = length-take-le a.len (take a.taken m ++ d) (omega (arith, sum)) in
          ap made_of (add-whole m a.taken a.len d adds.taken adds.room h)
          ∙ sym (simp (le-ltb (length (take a.taken m ++ d)) a.len (omega (arith, sum)), all))
      by_size (no h) =
          ap made_of (add-waits m a.taken a.len d adds.taken adds.room (omega arith))
          ∙ sym (simp (lt-ltb (length (take a.taken m ++ d)) a.len (omega (arith, sum)))
          (ap (λ (n : ℕ). made (Waiting n) (front (take a.taken m ++ d) m)) sum))

  module _ {r : Added} (m' : List ℕ) (e : added r m' ≡ add_of m a.taken a.len d) where
    collected : made r m' ≡ assembled_of (collect (transaction_of a m) d) m
    collected = ap made_of e ∙ as-collected

    pub collected-waiting : {n : ℕ} (o : Assembled) → r ≡ Waiting n → o ≡ record { assembler = record { deadline = a.deadline; cid = a.cid; len = a.len; taken = n; cmd = a.cmd; seq = a.seq }; received = received.Nothing } → assembling o m' ≡ assembled_of (collect (transaction_of a m) d) m
    collected-waiting o is k = ap (λ (t : Assembled). assembling t m') k ∙ (ap (λ (b : Added). made b m') (sym is) ∙ collected)

    pub collected-whole : (o : Assembled) → r ≡ Whole → o ≡ record { assembler = none; received = received.Message a.cid a.cmd a.len } → assembling o m' ≡ assembled_of (collect (transaction_of a m) d) m
    collected-whole o is k = ap (λ (t : Assembled). assembling t m') k ∙ (ap (λ (b : Added). made b m') (sym is) ∙ collected)

    pub collected-refused : {number : ℕ} (o : Assembled) → r ≡ Refused number → o ≡ record { assembler = none; received = received.Nothing } → assembling o m' ≡ assembled_of (collect (transaction_of a m) d) m
    collected-refused o is k = ap (λ (t : Assembled). assembling t m') k ∙ (ap (λ (b : Added). made b m') (sym is) ∙ collected)

    -- what waits has fewer bytes than were declared
    pub waits-low : {n : ℕ} → r ≡ Waiting n → n < a.len
    waits-low {n} is = by_size (dec_le a.len (a.taken + length d))
      where
        by_size : Dec (a.len ≤ a.taken + length d) → n < a.len
        by_size (yes h) =
            let w : r ≡ Whole = ap (λ (o : Adding). o.answer) (e ∙ add-whole m a.taken a.len d adds.taken adds.room h) in
            let z : ◌≡◌ {A = ℕ} 0 1 = cc in
            absurd (omega arith)
        by_size (no h) =
            let w : r ≡ Waiting (a.taken + length d) = ap (λ (o : Adding). o.answer) (e ∙ add-waits m a.taken a.len d adds.taken adds.room (omega arith)) in
            let n-is : n ≡ a.taken + length d = cc in
            omega arith

-- ---- checks 3 to 5
module _ (a : MessageAssembler) (set : Settings) (time : ℕ) (p : Packet) (m : List ℕ) (o : Assembling) where
  pub receives-idle : a.len ≡ 0 → o ≡ assembled_of (when_idle set time p) m → o ≡ assembled_of (receive set time (receiver_of a m) p) m
  unfolding receive receiver_of pick
  receives-idle e k = simp (eq-eqb _ _ e) k

  pub receives-over : (a.len ≡ 0 → ⊥) → a.deadline ≤ time → o ≡ assembled_of (when_over set time (transaction_of a m) p) m → o ≡ assembled_of (receive set time (receiver_of a m) p) m
  unfolding receive receiver_of pick
  receives-over e h k = simp (ne_eqb _ _ e, le-leb a.deadline time h) k

  pub receives-busy : (a.len ≡ 0 → ⊥) → time < a.deadline → o ≡ assembled_of (when_busy set time (transaction_of a m) p) m → o ≡ assembled_of (receive set time (receiver_of a m) p) m
  unfolding receive receiver_of pick
  receives-busy e h k = simp (ne_eqb _ _ e, lt-leb a.deadline time h) k

-- ---- refusals

-- the test for soundness and the facts agree
module _ (a : MessageAssembler) (max : ℕ) where
  pub sound_none : a.len ≡ 0 → true ≡ is_sound a max
  unfolding is_sound pick
  sound_none z = simp (eq-eqb _ _ z)

  module _ (some : a.len ≡ 0 → ⊥) where
    pub sound-command : 127 < a.cmd → false ≡ is_sound a max
    unfolding is_sound pick
    sound-command h = simp (ne_eqb _ _ some, lt-leb a.cmd 127 h)

    pub sound-lengths : (b : Bool) → a.cmd ≤ 127 → b ≡ is_standing max a.len a.taken a.seq → b ≡ is_sound a max
    unfolding is_sound pick
    sound-lengths b h e = simp (ne_eqb _ _ some, le-leb a.cmd 127 h) e

    pub sound-is : is_sound a max ≡ true → Sound a max
    unfolding is_sound
    sound-is =
        pick_known (λ (b : Bool). b ≡ true → Sound a max) (eqb a.len 0) _ _
        (λ e h. absurd (some (eqb-true a.len 0 e)))
        (λ e h. let p = pick_true (leb a.cmd 127) _ h in record { command = leb-true a.cmd 127 p.0; lengths = stands-is max a.len a.taken a.seq p.1 })

  pub is-sound : ((a.len ≡ 0 → ⊥) → Sound a max) → is_sound a max ≡ true
  unfolding is_sound pick
  is-sound h = by-len (ℕ_discrete a.len 0)
    where
      by-len : Dec (a.len ≡ 0) → is_sound a max ≡ true
      by-len (yes z) = simp (eq-eqb _ _ z)
      by-len (no z) = simp (ne_eqb _ _ z, le-leb a.cmd 127 (h z).command) (is-standing max a.len a.taken a.seq (h z).lengths)

pub ruleset sound = (sound_none, sound-command, sound-lengths)

-- which number
module _ (a : MessageAssembler) (max time room : ℕ) where
  pub refusal-2 : room < max → 2 ≡ refusal_of a max time room
  unfolding refusal_of pick
  refusal-2 h = simp (lt-ltb room max h)

  module _ (roomy : max ≤ room) {b : Bool} (e : b ≡ is_sound a max) where
    pub refusal-3 : b ≡ false → 3 ≡ refusal_of a max time room
    unfolding refusal_of pick
    refusal-3 k = simp (le-ltb room max roomy, sym e ∙ k)

    pub refusal-4 : b ≡ true → last_time < time → 4 ≡ refusal_of a max time room
    unfolding refusal_of pick
    refusal-4 k h = simp (le-ltb room max roomy, sym e ∙ k, lt-ltb last_time time h)

    pub refusal-0 : b ≡ true → time ≤ last_time → 0 ≡ refusal_of a max time room
    unfolding refusal_of pick
    refusal-0 k h = simp (le-ltb room max roomy, sym e ∙ k, le-ltb last_time time h)

pub ruleset refusal = (refusal-2, refusal-3, refusal-4, refusal-0)

-- a packet that is refused, and one that isn't
module _ (a : MessageAssembler) (max vendor time : ℕ) (m : List ℕ) {n : ℕ} (e : n ≡ refusal_of a max time (length m)) where
  abbrev refused : ℕ → Assembling
  refused number = assembling (record { assembler = a; received = received.Refused number }) m

  pub parse-refused : (p : Packet) → (n ≡ 0 → ⊥) → refused n ≡ parsed_of a max vendor time p m
  unfolding refusal_of parsed_of
  parse-refused p some = refused-by refused (refusals a max time (length m)) (assembled_of (receive (settings_of max vendor) time (receiver_of a m) p) m) n e some

  module _ (none : n ≡ 0) where
    tests-passed : Passed (refusals a max time (length m))
    unfolding refusal_of
    tests-passed = passed (refusals a max time (length m)) refl (sym none ∙ e)

    pub parse-receives : Receives a max time m
    parse-receives =
        let room : max ≤ length m = ltb-false (length m) max tests-passed.0 in
        record {
          room = room;
          early = ltb-false last_time time tests-passed.1.1.0;
          adds = λ some.
              let u = sound-is a max some (not-false (is_sound a max) tests-passed.1.0) in
              record {
                taken = omega (arith, u.lengths.below, u.lengths.bytes);
                room = omega (arith, u.lengths.within);
                command = omega (arith, u.command);
              };
        }

    pub parse-received : (p : Packet) (o : Assembling) → o ≡ assembled_of (receive (settings_of max vendor) time (receiver_of a m) p) m → o ≡ parsed_of a max vendor time p m
    unfolding parsed_of
    parse-received p o k = k ∙ sym (none-refuse refused (refusals a max time (length m)) (assembled_of (receive (settings_of max vendor) time (receiver_of a m) p) m) tests-passed)

pub ruleset turns = (yes-turn, no-turn, reset-silent, reset-fault, goes_on, idle-first, idle-later, over_first, over-later, own_first, own-later, busy-other, busy-own, collected-waiting, collected-whole, collected-refused, receives-idle, receives-over, receives-busy, start-unknown, start-known)
