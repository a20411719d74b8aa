-- What a `return` of hearing a packet meets. Assumes nothing.
use Prim.Native.Nat.{ℕ, ◌+◌, ◌≤◌}
use native.Mathlib.Omega.{arith}
use native.Mathlib.Decide.{ℕ_discrete}
use mathlib.Core.Path.{◌≡◌, refl, sym, ap, subst, ◌∙◌}
use mathlib.Core.List.{List, [], ◌∷◌}
use mathlib.Core.Bool.{Bool, true, false, not}
use borrow.Author.Tests.{eq-eqb, ne_eqb, eqb-false, le-ltb}
use lib.Dec.{eqb}
use lib.ListN.{length, take, drop, length-append}
use lib.Seq.{length-take-le, take_at}
use Rattle.ctaphid.specs.Choice.{pick}
use Rattle.ctaphid.specs.Limits.{last_time}
use Rattle.ctaphid.specs.Errors.{ChannelBusy}
use Rattle.ctaphid.specs.Commands.{ERROR, command_of}
use Rattle.ctaphid.specs.Packets.{Packet, Bytes, read}
use Rattle.ctaphid.specs.Receiver.{Receiver, idle, busy, Reception, silent, fault, whole, Turn, channel_of, receive, still_due}
use Rattle.ctaphid.specs.Transport as standard
use Rattle.ctaphid.specs.Transport.{Transport, next, error, is_valid, not_valid, is_shut, dispatch, settle, with_receiver, serve, hear}
use Rattle.ctaphid.proofs.Tests.{pick_known}
use Rattle.ctaphid.proofs.Packets.{read-formed}
use Rattle.ctaphid.proofs.Refusing.{none-refuse}
use Rattle.ctaphid.proofs.Transport.{hear-invalid, hear-shut, hear-served}
use Rattle.ctaphid.proofs.Invariant as invariant
use Rattle.ctaphid.proofs.Listing.{receive-same}
use Rattle.ctaphid.proofs.Invariant.{Holds, Tells, Turns, holds_later, turns-valid}
use Rattle.packet.specs.Reading.{heard}
use Rattle.packet.specs.declared.ProcessedPacket.{ProcessedPacket}
use Rattle.packet.specs.declared.ProcessedPacket.TheVariants.{InitPacket, ContinuationPacket}
use Rattle.collect.specs.Adding.{front}
use Rattle.known.specs.Meaning as meant
use Rattle.receive.specs.declared.MessageAssembler.{MessageAssembler}
use Rattle.hid.specs.declared.CtapHid.{CtapHid}
use Rattle.answers.specs.declared.Answer.{Answer}
use Rattle.answers.specs.declared.Answer.TheVariants.{Nothing}
use Rattle.hid.specs.declared.Stepped.{Stepped}
use Rattle.receive.specs.declared.Received.{Received}
use Rattle.receive.specs.declared.Received.TheVariants as received
use Rattle.receive.specs.declared.Assembled.{Assembled}
use Rattle.receive.specs.Meaning.{none, transaction_of, receiver_of, assembler_of}
use Rattle.receive.specs.Assembler.{Assembling, assembling, received_of, buffer_of, buffered, assembled_of, refusals, parsed_of, Adds}
use Rattle.receive.proofs.Receiving.{same-channel, is-sound}
use Rattle.answers.specs.Replies.{answering, laid_of}
use Rattle.hid.specs.Due.{due_by, Counts}
use Rattle.hid.specs.Meaning.{settings_of, transport_of, state_of}
use Rattle.hid.specs.Soundness.{Sound}
use Rattle.hid.specs.State.{Serving, serving, served_of, keeping, having, arriving}
use Rattle.hid.specs.Commands.{Serves}
use Rattle.hid.specs.Hearing.{settled_of, Settles, Admits, Hears, Stepping, stepping, stepping_of, message_after, heard_of}
use Rattle.hid.proofs.Counting.{due-any, due-back, counts-back}
use Rattle.hid.proofs.Served.{laid}

-- ---- the state as a packet meets it
module _ (s : CtapHid) (time : ℕ) (x : CtapHid) where
  pub arriving-idle : {a : MessageAssembler} → s.assembler.len ≡ 0 → a ≡ none → x ≡ having s time a s.still_due → x ≡ arriving s time
  unfolding arriving pick
  arriving-idle e z k = simp (eq-eqb _ _ e) (k ∙ ap (λ (b : MessageAssembler). having s time b s.still_due) z)

  pub arriving-busy : (s.assembler.len ≡ 0 → ⊥) → x ≡ having s time s.assembler s.still_due → x ≡ arriving s time
  unfolding arriving pick
  arriving-busy e k = simp (ne_eqb _ _ e) k

-- ---- a sound state is one of which the standard's invariant holds
receives-is : (s : CtapHid) (wink : ℕ) (m : List ℕ) → Sound s wink → s.max ≤ length m → invariant.Receives s.max s.allocated s.last (receiver_of s.assembler m)
unfolding receiver_of
receives-is s wink m h room =
    pick_known (λ (r : Receiver). invariant.Receives s.max s.allocated s.last r) (eqb s.assembler.len 0) _ _
    (λ e. tt)
    (λ e.
    let some : s.assembler.len ≡ 0 → ⊥ = eqb-false s.assembler.len 0 e in
    let t = h.transaction some in
    let size : length (take s.assembler.taken m) ≡ s.assembler.taken = length-take-le s.assembler.taken m (omega (arith, t.lengths.below, t.lengths.bytes, t.lengths.within)) in
    record {
      command = t.command;
      most = t.lengths.within;
      below = omega (arith, t.lengths.below, t.lengths.bytes);
      bytes = size ∙ sym t.lengths.bytes;
      deadline = h.deadline;
      channel = h.channel some;
    })

pub holds-is : (s : CtapHid) (wink : ℕ) (m : List ℕ) → Sound s wink → s.max ≤ length m → Holds (transport_of s m) s.last
holds-is s wink m h room = record { count = h.count; lock = h.lock; holder = h.holder; receiver = receives-is s wink m h room }

-- what is in the state already is what the standard's would put there
same-assembler : (s : CtapHid) (wink : ℕ) (m : List ℕ) → Sound s wink → s.max ≤ length m → assembler_of (receiver_of s.assembler m) ≡ pick (eqb s.assembler.len 0) none s.assembler
unfolding receiver_of pick
same-assembler s wink m h room = by-len (ℕ_discrete s.assembler.len 0)
  where
    by-len : Dec (s.assembler.len ≡ 0) → assembler_of (receiver_of s.assembler m) ≡ pick (eqb s.assembler.len 0) none s.assembler
    by-len (yes z) = simp (eq-eqb _ _ z)
    by-len (no z) =
        let t = h.transaction z in
        let size : length (take s.assembler.taken m) ≡ s.assembler.taken = length-take-le s.assembler.taken m (omega (arith, t.lengths.below, t.lengths.bytes, t.lengths.within)) in
        let alike : assembler_of (busy (transaction_of s.assembler m)) ≡ s.assembler =
        λ i. record { deadline = s.assembler.deadline; cid = s.assembler.cid; len = s.assembler.len; taken = size i; cmd = s.assembler.cmd; seq = s.assembler.seq } in
        simp (ne_eqb _ _ z) alike

same-state : (s : CtapHid) (wink time : ℕ) (m : List ℕ) → Sound s wink → s.max ≤ length m → state_of s time (transport_of s m) ≡ arriving s time
unfolding arriving
same-state s wink time m h room = λ i. having s time (same-assembler s wink m h room i) ((due-any s.assembler m ∙ sym h.due) i)

-- ---- a transaction of a sound state can be gone on with, so no packet is refused
pub adds-of : (s : CtapHid) (m : List ℕ) → Sound s 0 → s.max ≤ length m → (s.assembler.len ≡ 0 → ⊥) → Adds s.assembler m
adds-of s m h room z =
    let t = h.transaction z in
    record { taken = omega (arith, t.lengths.below, t.lengths.bytes); room = omega (arith, t.lengths.within); command = omega (arith, t.command) }

pub parsed-is : (s : CtapHid) (time : ℕ) (p : Packet) (m : List ℕ) → Hears s time p m → parsed_of s.assembler s.max s.vendor time p m ≡ assembled_of (receive (settings_of s) time (receiver_of s.assembler m) p) m
unfolding parsed_of
parsed-is s time p m h =
    none-refuse (λ number. assembling (record { assembler = s.assembler; received = received.Refused number }) m) (refusals s.assembler s.max time (length m)) _
    (le-ltb (length m) s.max h.room, (ap not (is-sound s.assembler s.max h.sound.transaction), (le-ltb last_time time h.early, tt)))
    ∙ ap (λ (t : Turn). assembled_of t m) (receive-same (meant.settings_of s.max s.vendor) (settings_of s) (λ n. refl) refl time (receiver_of s.assembler m) p)

-- ---- the cases of what the receiver says
module _ (s : CtapHid) (c : ℕ) (b : Received) (m r : List ℕ) where
  pub settles-nothing : (x : Stepped) → b ≡ received.Nothing → x ≡ record { hid = s; answer = Nothing } → serving x r ≡ settled_of s c b m r
  settles-nothing x e k = simp (e, k)

  pub settles-refused : {n : ℕ} (x : Stepped) → b ≡ received.Refused n → x ≡ record { hid = s; answer = Nothing } → serving x r ≡ settled_of s c b m r
  settles-refused x e k = simp (e, k)

  pub settles-error : {n : ℕ} (v : Serving) → b ≡ received.Error n → v ≡ keeping s (standard.reply c ERROR (n ∷ [])) r → v ≡ settled_of s c b m r
  settles-error v e k = simp e k

  pub settles-message : {own cmd len : ℕ} (v : Serving) → b ≡ received.Message own cmd len → v ≡ served_of s s.last (dispatch (transport_of s m) s.last own (command_of cmd) (take len m)) r → v ≡ settled_of s c b m r
  settles-message v e k = simp e k

  pub settles-short : {n : ℕ} → Settles s b m r → b ≡ received.Error n → 17 ≤ length r
  settles-short h e = subst (λ (t : Received). Settles s t m r) e h

  pub settles-serves : {own cmd len : ℕ} → Settles s b m r → b ≡ received.Message own cmd len → Serves s len m r
  settles-serves h e = subst (λ (t : Received). Settles s t m r) e h

pub ruleset settling = (settles-nothing, settles-refused, settles-error, settles-message)

-- ---- checks 3 to 7: what the receiver said is what the standard's receiver said
module _ (s : CtapHid) (time : ℕ) (m r : List ℕ) (c : ℕ) (a : Assembled) (m1 : List ℕ) where
  abbrev d : Transport
  d = transport_of s m

  -- with the number that the standard's receiver has then
  abbrev next-state : Receiver → CtapHid
  next-state rcv = having s time a.assembler (still_due rcv)

  abbrev Out : Receiver → Reception → Stepping
  Out rcv b = stepping_of (served_of s time (settle (with_receiver d rcv) time c b) r) (buffer_of rcv b m)

  abbrev Is : Receiver → Reception → Type 0
  Is rcv b = assembling a m1 ≡ assembling (record { assembler = assembler_of rcv; received = received_of b }) (buffer_of rcv b m)

  is-settled : (rcv : Receiver) (b : Reception) → Tells s.max s.allocated rcv b → Is rcv b → stepping_of (settled_of (next-state rcv) c a.received m1 r) m1 ≡ Out rcv b
  unfolding served_of settle receiver_of pick
  is-settled rcv silent tells e = ap (λ (o : Assembling). stepping_of (settled_of (having s time o.assembled.assembler (still_due rcv)) c o.assembled.received o.message r) o.message) e
  is-settled rcv (fault x) tells e = ap (λ (o : Assembling). stepping_of (settled_of (having s time o.assembled.assembler (still_due rcv)) c o.assembled.received o.message r) o.message) e
  is-settled (busy t) (whole own cmd payload) tells e = absurd (omega (arith, ap is_busy tells.0))
    where
      is_busy : Receiver → ℕ
      is_busy idle = 0
      is_busy (busy u) = 1
  is-settled idle (whole own cmd payload) tells e =
      let handed : take (length payload) (front payload m) ≡ payload = take_at payload (drop (length payload) m) (length payload) refl in
      ap (λ (o : Assembling). stepping_of (settled_of (having s time o.assembled.assembler 0) c o.assembled.received o.message r) o.message) e
      ∙ ap (λ (y : List ℕ). stepping_of (served_of s time (dispatch (with_receiver d idle) time own (command_of cmd) y) r) (front payload m)) handed

  is-served : (rcv : Receiver) (b : Reception) → Sound s 0 → time ≤ 0xffff_ffff_ffff → s.max ≤ length m → 17 ≤ length r → Tells s.max s.allocated rcv b → Is rcv b → Settles (next-state rcv) a.received m1 r
  is-served rcv silent h early room short tells e = subst (λ (o : Assembling). Settles (having s time o.assembled.assembler (still_due rcv)) o.assembled.received o.message r) (sym e) tt
  is-served rcv (fault y) h early room short tells e = subst (λ (o : Assembling). Settles (having s time o.assembled.assembler (still_due rcv)) o.assembled.received o.message r) (sym e) short
  is-served (busy t) (whole own cmd payload) h early room short tells e = absurd (omega (arith, ap is_busy tells.0))
    where
      is_busy : Receiver → ℕ
      is_busy idle = 0
      is_busy (busy u) = 1
  is-served idle (whole own cmd payload) h early room short tells e =
      let size : length (front payload m) ≡ length payload + length (drop (length payload) m) = length-append payload (drop (length payload) m) in
      subst (λ (o : Assembling). Settles (having s time o.assembled.assembler 0) o.assembled.received o.message r) (sym e)
      (record {
        idle = refl;
        due = refl;
        count = h.count;
        early = early;
        room = omega (arith, size);
        short = short;
      })

-- whether a channel is valid is told without the data
pub same-valid : (n : ℕ) (p : ProcessedPacket) (x y : List ℕ) → is_valid n (heard p x) ≡ is_valid n (heard p y)
unfolding is_valid
same-valid n (InitPacket cid cmd len) x y = refl
same-valid n (ContinuationPacket cid seq) x y = refl

same_answer : (p : ProcessedPacket) (x y : List ℕ) → not_valid (heard p x) ≡ not_valid (heard p y)
same_answer (InitPacket cid cmd len) x y = refl
same_answer (ContinuationPacket cid seq) x y = refl

module _ (s : CtapHid) (time : ℕ) (p : ProcessedPacket) (field m r : List ℕ) (a : Assembled) (m1 : List ℕ)
    (asks : Hears s time (heard p field) m) (short : 17 ≤ length r) (valid : is_valid s.allocated (heard p field) ≡ true)
    (parsed : assembling a m1 ≡ parsed_of s.assembler s.max s.vendor time (heard p field) m) where
  abbrev t : Turn
  t = receive (settings_of s) time (receiver_of s.assembler m) (heard p field)

  received_is : Is s time m r (channel_of (heard p field)) a m1 t.receiver t.reception
  unfolding assembled_of
  received_is = parsed ∙ parsed-is s time (heard p field) m asks

  turned : Turns s.max s.allocated time t
  turned = turns-valid (transport_of s m) time (heard p field) (holds_later (transport_of s m) s.last time asks.later (holds-is s 0 m asks.sound asks.room)) asks.formed valid

  assembler-is : a.assembler ≡ assembler_of t.receiver
  assembler-is = ap (λ (o : Assembling). o.assembled.assembler) received_is

  pub counts_of : Counts a.assembler
  counts_of = subst Counts (sym assembler-is) (counts-back s.max s.allocated time asks.sound.maximum t.receiver turned.receives)

  -- the state after the packet has the number that goes with its assembler
  module _ {due : ℕ} (counted : due ≡ due_by a.assembler) (nx : CtapHid) (is : nx ≡ having s time a.assembler due) where
    state-is : nx ≡ next-state s time m r (channel_of (heard p field)) a m1 t.receiver
    state-is = is ∙ ap (having s time a.assembler) (counted ∙ (ap due_by assembler-is ∙ due-back s.max s.allocated time t.receiver turned.receives))

    pub serves-of : Settles nx a.received m1 r
    serves-of =
        subst (λ (y : CtapHid). Settles y a.received m1 r) (sym state-is)
        (is-served s time m r (channel_of (heard p field)) a m1 t.receiver t.reception asks.sound asks.early asks.room short turned.tells received_is)

    pub serves : {c : ℕ} (x : Stepped) (r1 : List ℕ) → c ≡ channel_of (heard p []) → serving x r1 ≡ settled_of nx c a.received m1 r
        → stepping x m1 r1 ≡ stepping_of (served_of s time (serve (transport_of s m) time (heard p field)) r) (buffered t m)
    serves {c} x r1 own h =
        ap (λ (v : Serving). stepping_of v m1)
        (h ∙ (λ i. settled_of (state-is i) ((own ∙ same-channel p [] field) i) a.received m1 r))
        ∙ is-settled s time m r (channel_of (heard p field)) a m1 t.receiver t.reception turned.tells received_is

-- ---- checks 1 and 2
module _ (s : CtapHid) (time : ℕ) (disabled : Bool) (p : ProcessedPacket) (field m r : List ℕ) (asks : Hears s time (heard p field) m) (short : 17 ≤ length r) where
  abbrev Heard : Stepping
  Heard = heard_of s time disabled (heard p field) m r

  stays_put : (nx : CtapHid) (a : standard.Answer) → nx ≡ arriving s time → keeping nx a r ≡ served_of s time (next (transport_of s m) a) r
  unfolding served_of
  stays_put nx a is = ap (λ (y : CtapHid). keeping y a r) (is ∙ sym (same-state s 0 time m asks.sound asks.room))

  pub hears-invalid : {b : Bool} (nx : CtapHid) (x : Answer) (r1 : List ℕ) → b ≡ is_valid s.allocated (heard p []) → b ≡ false → nx ≡ arriving s time → answering x r1 ≡ laid_of (not_valid (heard p [])) r
      → stepping (record { hid = nx; answer = x }) m r1 ≡ Heard
  unfolding heard_of message_after pick
  hears-invalid {b} nx x r1 test k is h =
      let off : is_valid s.allocated (heard p field) ≡ false = same-valid s.allocated p field [] ∙ (sym test ∙ k) in
      simp (off, hear-invalid (transport_of s m) time disabled (heard p field) off)
      (ap (λ (v : Serving). stepping_of v m) (laid nx (not_valid (heard p [])) r x r1 short h ∙ (ap (λ (y : standard.Answer). keeping nx y r) (same_answer p [] field) ∙ stays_put nx (not_valid (heard p field)) is)))

  module _ (on : is_valid s.allocated (heard p field) ≡ true) where
    abbrev shuts : ℕ → Bool
    shuts k = is_shut (record { holder = s.locked; until = s.lock }) time disabled k

    module _ {c : ℕ} (own : c ≡ channel_of (heard p [])) where
      same : c ≡ channel_of (heard p field)
      same = own ∙ same-channel p [] field

      pub hears-shut : {q : Bool} (nx : CtapHid) (x : Stepped) (r1 : List ℕ) → q ≡ shuts c → q ≡ true → nx ≡ arriving s time → serving x r1 ≡ keeping nx (error c ChannelBusy) r → stepping x m r1 ≡ Heard
      unfolding heard_of message_after pick
      hears-shut {q} nx x r1 k l is h =
          let off : shuts (channel_of (heard p field)) ≡ true = sym (ap shuts same) ∙ (sym k ∙ l) in
          simp (on, off, hear-shut (transport_of s m) time disabled (heard p field) on off)
          (ap (λ (v : Serving). stepping_of v m) (h ∙ (ap (λ (y : ℕ). keeping nx (error y ChannelBusy) r) same ∙ stays_put nx (error (channel_of (heard p field)) ChannelBusy) is)))

      pub hears-served : {q : Bool} (x : Stepped) (m1 r1 : List ℕ) → q ≡ shuts c → q ≡ false
          → stepping x m1 r1 ≡ stepping_of (served_of s time (serve (transport_of s m) time (heard p field)) r) (buffered (receive (settings_of s) time (receiver_of s.assembler m) (heard p field)) m)
          → stepping x m1 r1 ≡ Heard
      unfolding heard_of message_after pick
      hears-served {q} x m1 r1 k l h =
          let off : shuts (channel_of (heard p field)) ≡ false = sym (ap shuts same) ∙ (sym k ∙ l) in
          simp (on, off, hear-served (transport_of s m) time disabled (heard p field) on off) h

pub hears-valid : (n : ℕ) (p : ProcessedPacket) (field : List ℕ) {b : Bool} → b ≡ is_valid n (heard p []) → b ≡ true → is_valid n (heard p field) ≡ true
hears-valid n p field test valid = same-valid n p field [] ∙ (sym test ∙ valid)

-- ---- a packet that was read is heard
module _ (s : CtapHid) (time : ℕ) (p m : List ℕ) (q : Packet) (e : q ≡ read p) where
  pub hears-packet : Admits s time p m → Bytes p → Hears s time q m
  hears-packet asks bytes =
      subst (λ (y : Packet). Hears s time y m) (sym e)
      (record { sound = asks.sound; formed = read-formed p asks.size bytes; room = asks.room; early = asks.early; later = asks.later })

  pub heard-packet : (disabled : Bool) (r : List ℕ) (x : Stepping) → x ≡ heard_of s time disabled q m r → x ≡ heard_of s time disabled (read p) m r
  heard-packet disabled r x k = k ∙ ap (λ (y : Packet). heard_of s time disabled y m r) e

pub ruleset hearing = (arriving-idle, arriving-busy, counts_of, serves-of, serves, hears-invalid, hears-shut, hears-served, hears-valid)
