-- What a `return` of the transport's code meets: the standard's answers, laid out in the state and the short reply buffer. Assumes nothing.
use Prim.Native.Nat.{ℕ, ◌≤◌}
use mathlib.Core.Path.{◌≡◌, refl, sym, ap, ◌∙◌}
use mathlib.Core.List.{List}
use mathlib.Core.Bool.{Bool, true, false}
use lib.ListN.{length, take}
use lib.Seq.{length-take-le}
use Rattle.ctaphid.specs.Choice.{pick, is_in}
use Rattle.ctaphid.specs.Receiver.{idle, still_due}
use Rattle.ctaphid.specs.Settings.{knows}
use Rattle.ctaphid.specs.Transport as standard
use Rattle.ctaphid.specs.Transport.{Transport, Lock, Next, next, error, with_lock, with_allocated, on_init, on_lock, obey, dispatch}
use Rattle.ctaphid.specs.Commands.{Command, MSG, CBOR, INIT, PING, CANCEL, ERROR, KEEPALIVE, WINK, LOCK, VENDOR, command_of}
use Rattle.ctaphid.specs.Errors.{InvalidCmd}
use Rattle.ctaphid.proofs.Commands.{vendor-range, reads-vendor}
use Rattle.packet.specs.Numbers.{command_meant, command_case}
use Rattle.packet.specs.declared.command.CtapHidCommand.{CtapHidCommand}
use Rattle.packet.specs.declared.command.CtapHidCommand.TheVariants as command
use Rattle.known.specs.Vendor.{vendor_of}
use Rattle.receive.specs.declared.MessageAssembler.{MessageAssembler}
use Rattle.receive.specs.Meaning.{none, receiver_of, assembler_of}
use Rattle.answers.specs.declared.Answer.{Answer}
use Rattle.answers.specs.declared.Answer.TheVariants.{Nothing, Message, Echo}
use Rattle.answers.specs.Answers.{answer_of, replied}
use Rattle.answers.specs.Replies.{Answering, answering, laid_of}
use Rattle.answers.proofs.Laying.{laid-roomy}
use Rattle.channels.specs.declared.Allocated.{Allocated}
use Rattle.channels.specs.declared.Locked.{Locked}
use Rattle.channels.specs.Allocating.{Allocating, having as having_count, allocating, allocated_by, init_of}
use Rattle.channels.specs.Locking.{Locking, held, locking, locked_by, lock_of}
use Rattle.channels.proofs.Inits.{init-answered, init-any}
use Rattle.channels.proofs.Locks.{lock-answered, lock-any}
use Rattle.hid.specs.declared.CtapHid.{CtapHid}
use Rattle.hid.specs.declared.Stepped.{Stepped}
use Rattle.hid.specs.Meaning.{settings_of, transport_of}
use Rattle.hid.specs.State.{Serving, serving, served_of, keeping}
use Rattle.hid.specs.Commands.{Serves}

-- an answer that was laid out, with room for it
pub laid : (s : CtapHid) (a : standard.Answer) (r : List ℕ) (x : Answer) (r' : List ℕ) → 17 ≤ length r → answering x r' ≡ laid_of a r → serving (record { hid = s; answer = x }) r' ≡ keeping s a r
laid s a r x r' h e = ap (λ (o : Answering). serving (record { hid = s; answer = o.answer }) o.reply) (e ∙ laid-roomy a r h)

-- s with another lock, and with another count of channels
abbrev pub bolting : CtapHid → (holder until : ℕ) → CtapHid
bolting s holder until =
    record { assembler = s.assembler; lock = until; last = s.last; vendor = s.vendor; allocated = s.allocated; locked = holder; max = s.max; u2f = s.u2f; spare = s.spare; still_due = s.still_due }

abbrev pub counting : CtapHid → (allocated : ℕ) → CtapHid
counting s n =
    record { assembler = s.assembler; lock = s.lock; last = s.last; vendor = s.vendor; allocated = n; locked = s.locked; max = s.max; u2f = s.u2f; spare = s.spare; still_due = s.still_due }

-- no transaction
pub idle-is : (a : MessageAssembler) (m : List ℕ) → a ≡ none → receiver_of a m ≡ idle
unfolding receiver_of pick
idle-is a m e = ap (λ (b : MessageAssembler). receiver_of b m) e

module _ (s : CtapHid) (m r : List ℕ) (e : s.assembler ≡ none) (none-due : s.still_due ≡ 0) where
  same-assembler : assembler_of (receiver_of s.assembler m) ≡ s.assembler
  same-assembler = ap assembler_of (idle-is s.assembler m e) ∙ sym e

  same-due : still_due (receiver_of s.assembler m) ≡ s.still_due
  same-due = ap still_due (idle-is s.assembler m e) ∙ sym none-due

  -- an answer that leaves the transport as it is leaves the state as it is
  pub stays : (a : standard.Answer) → served_of s s.last (next (transport_of s m) a) r ≡ keeping s a r
  unfolding served_of
  stays a =
      λ i. serving (record {
        hid = record { assembler = same-assembler i; lock = s.lock; last = s.last; vendor = s.vendor; allocated = s.allocated; locked = s.locked; max = s.max; u2f = s.u2f; spare = s.spare; still_due = same-due i };
        answer = answer_of a;
      }) (replied a r)

  -- another lock, and another count
  pub locks : (l : Lock) (a : standard.Answer) → served_of s s.last (next (with_lock (transport_of s m) l) a) r ≡ keeping (bolting s l.holder l.until) a r
  unfolding served_of
  locks l a =
      λ i. serving (record {
        hid = record { assembler = same-assembler i; lock = l.until; last = s.last; vendor = s.vendor; allocated = s.allocated; locked = l.holder; max = s.max; u2f = s.u2f; spare = s.spare; still_due = same-due i };
        answer = answer_of a;
      }) (replied a r)

  pub allocates : (n : ℕ) (a : standard.Answer) → served_of s s.last (next (with_allocated (transport_of s m) n) a) r ≡ keeping (counting s n) a r
  unfolding served_of
  allocates n a =
      λ i. serving (record {
        hid = record { assembler = same-assembler i; lock = s.lock; last = s.last; vendor = s.vendor; allocated = n; locked = s.locked; max = s.max; u2f = s.u2f; spare = s.spare; still_due = same-due i };
        answer = answer_of a;
      }) (replied a r)

  -- what the standard does, by a law
  pub by-law : {v : Serving} {n : Next Transport} (a : standard.Answer) → n ≡ next (transport_of s m) a → v ≡ keeping s a r → v ≡ served_of s s.last n r
  by-law a law k = k ∙ (sym (stays a) ∙ ap (λ (x : Next Transport). served_of s s.last x r) (sym law))

-- ---- INIT and LOCK, for a message that is whole
module _ (s : CtapHid) (cid len : ℕ) (m r : List ℕ) (asks : Serves s len m r) where
  abbrev d : Transport
  d = transport_of s m

  abbrev payload : List ℕ
  payload = take len m

  abbrev u2f : Bool
  u2f = (settings_of s).u2f

  pub init-served : (x : Allocated) (r' : List ℕ) → allocating x r' ≡ init_of s.allocated u2f cid payload r
      → serving (record { hid = counting s x.allocated; answer = x.answer }) r' ≡ served_of s s.last (on_init d cid payload) r
  init-served x r' e =
      let n : Next Transport = on_init (having_count s.allocated u2f) cid payload in
      let is : allocating x r' ≡ allocated_by n r = e ∙ sym (init-answered s.allocated u2f cid payload r asks.short (allocated_by n r) asks.count refl) in
      ap (λ (o : Allocating). serving (record { hid = counting s o.allocated.allocated; answer = o.allocated.answer }) o.reply) is
      ∙ (sym (allocates s m r asks.idle asks.due n.state.allocated n.answer)
      ∙ ap (λ (t : Next Transport). served_of s s.last t r) (sym (init-any d cid payload)))

  pub lock-served : (x : Locked) (r' : List ℕ) → locking x r' ≡ lock_of (record { holder = s.locked; until = s.lock }) s.last cid payload r
      → serving (record { hid = bolting s x.locked x.lock; answer = x.answer }) r' ≡ served_of s s.last (on_lock d s.last cid payload) r
  lock-served x r' e =
      let n : Next Transport = on_lock (held d.lock) s.last cid payload in
      let is : locking x r' ≡ locked_by n r = e ∙ sym (lock-answered s.locked s.lock s.last cid payload r asks.short (locked_by n r) asks.early refl) in
      ap (λ (o : Locking). serving (record { hid = bolting s o.locked.locked o.locked.lock; answer = o.locked.answer }) o.reply) is
      ∙ (sym (locks s m r asks.idle asks.due n.state.lock n.answer)
      ∙ ap (λ (t : Next Transport). served_of s s.last t r) (sym (lock-any d s.last cid payload)))

-- ---- the cases of check 7
module _ (s : CtapHid) (cid n len : ℕ) (m r : List ℕ) (asks : Serves s len m r) (c : CtapHidCommand) (is : command_meant c ≡ command_of n) where
  abbrev told : Command → Next Transport
  told k = dispatch (transport_of s m) s.last cid k (take len m)

  -- the command that was read
  pub reads_as : (k : Command) (v : Serving) → command_meant c ≡ k → v ≡ served_of s s.last (told k) r → v ≡ served_of s s.last (told (command_of n)) r
  reads_as k v e h = h ∙ ap (λ (t : Command). served_of s s.last (told t) r) (sym e ∙ is)

  size : length (take len m) ≡ len
  size = length-take-le len m asks.room

  -- what is handed out
  handed : (k : Command) (x : Stepped) → told k ≡ next (transport_of s m) (standard.request cid k (take len m)) → command_meant c ≡ k → x ≡ record { hid = s; answer = Message cid (command_case k) len }
      → serving x r ≡ served_of s s.last (told (command_of n)) r
  handed k x law e h =
      reads_as k _ e
      (ap (λ (t : Stepped). serving t r) h
      ∙ (ap (λ (t : ℕ). serving (record { hid = s; answer = Message cid (command_case k) t }) r) (sym size)
      ∙ (sym (stays s m r asks.idle asks.due (standard.request cid k (take len m))) ∙ ap (λ (t : Next Transport). served_of s s.last t r) (sym law))))

  pub tells-msg : (x : Stepped) → c ≡ command.Msg → x ≡ record { hid = s; answer = Message cid command.Msg len } → serving x r ≡ served_of s s.last (told (command_of n)) r
  unfolding dispatch knows obey pick
  tells-msg x e h = handed MSG x refl (ap command_meant e) h

  pub tells-cbor : (x : Stepped) → c ≡ command.Cbor → x ≡ record { hid = s; answer = Message cid command.Cbor len } → serving x r ≡ served_of s s.last (told (command_of n)) r
  unfolding dispatch knows obey pick
  tells-cbor x e h = handed CBOR x refl (ap command_meant e) h

  pub tells-wink : (x : Stepped) → c ≡ command.Wink → x ≡ record { hid = s; answer = Message cid command.Wink len } → serving x r ≡ served_of s s.last (told (command_of n)) r
  unfolding dispatch knows obey pick
  tells-wink x e h = handed WINK x refl (ap command_meant e) h

  pub tells-ping : (x : Stepped) → c ≡ command.Ping → x ≡ record { hid = s; answer = Echo cid command.Ping len } → serving x r ≡ served_of s s.last (told (command_of n)) r
  unfolding dispatch knows obey pick
  tells-ping x e h =
      reads_as PING _ (ap command_meant e)
      (ap (λ (t : Stepped). serving t r) h
      ∙ (ap (λ (t : ℕ). serving (record { hid = s; answer = Echo cid command.Ping t }) r) (sym size) ∙ sym (stays s m r asks.idle asks.due (standard.reply cid PING (take len m)))))

  pub tells-cancel : (x : Stepped) → c ≡ command.Cancel → x ≡ record { hid = s; answer = Nothing } → serving x r ≡ served_of s s.last (told (command_of n)) r
  unfolding dispatch knows obey pick
  tells-cancel x e h = reads_as CANCEL _ (ap command_meant e) (ap (λ (t : Stepped). serving t r) h ∙ sym (stays s m r asks.idle asks.due standard.nothing))

  pub tells-error : (v : Serving) → c ≡ command.Error → v ≡ keeping s (error cid InvalidCmd) r → v ≡ served_of s s.last (told (command_of n)) r
  unfolding dispatch knows obey pick
  tells-error v e h = reads_as ERROR _ (ap command_meant e) (h ∙ sym (stays s m r asks.idle asks.due (error cid InvalidCmd)))

  pub tells-keepalive : (v : Serving) → c ≡ command.Keepalive → v ≡ keeping s (error cid InvalidCmd) r → v ≡ served_of s s.last (told (command_of n)) r
  unfolding dispatch knows obey pick
  tells-keepalive v e h = reads_as KEEPALIVE _ (ap command_meant e) (h ∙ sym (stays s m r asks.idle asks.due (error cid InvalidCmd)))

  pub tells-init : (v : Serving) → c ≡ command.Init → v ≡ served_of s s.last (on_init (transport_of s m) cid (take len m)) r → v ≡ served_of s s.last (told (command_of n)) r
  unfolding dispatch knows obey pick
  tells-init v e h = reads_as INIT _ (ap command_meant e) h

  pub tells-lock : (v : Serving) → c ≡ command.Lock → v ≡ served_of s s.last (on_lock (transport_of s m) s.last cid (take len m)) r → v ≡ served_of s s.last (told (command_of n)) r
  unfolding dispatch knows obey pick
  tells-lock v e h = reads_as LOCK _ (ap command_meant e) h

  pub tells-vendor : (k : ℕ) (v : Serving) → c ≡ command.Vendor k → v ≡ served_of s s.last (dispatch (transport_of s m) s.last cid (VENDOR k) (take len m)) r → v ≡ served_of s s.last (told (command_of n)) r
  tells-vendor k v e h = reads_as (VENDOR k) _ (ap command_meant e) h

-- its number is the vendor's
module _ (n k : ℕ) (c : CtapHidCommand) (is : command_meant c ≡ command_of n) (e : c ≡ command.Vendor k) where
  range : (64 ≤ k) × (k ≤ 127)
  range = vendor-range k (reads-vendor n k (sym (ap command_meant e) ∙ is))

  pub vendor-low : 64 ≤ k
  vendor-low = range.0

  pub vendor-high : k ≤ 127
  vendor-high = range.1

-- ---- a vendor command, by whether its bit is set
module _ (s : CtapHid) (cid k len : ℕ) (m r : List ℕ) (asks : Serves s len m r) {b : Bool} (is : b ≡ is_in k (vendor_of s.vendor)) where
  pub vendor-out : (x : Stepped) → b ≡ true → x ≡ record { hid = s; answer = Message cid (command.Vendor k) len } → serving x r ≡ served_of s s.last (dispatch (transport_of s m) s.last cid (VENDOR k) (take len m)) r
  unfolding dispatch knows obey pick
  vendor-out x t h =
      simp (sym is ∙ t)
      (ap (λ (y : Stepped). serving y r) h
      ∙ (ap (λ (y : ℕ). serving (record { hid = s; answer = Message cid (command.Vendor k) y }) r) (sym (length-take-le len m asks.room)) ∙ sym (stays s m r asks.idle asks.due (standard.request cid (VENDOR k) (take len m)))))

  pub vendor-off : (v : Serving) → b ≡ false → v ≡ keeping s (error cid InvalidCmd) r → v ≡ served_of s s.last (dispatch (transport_of s m) s.last cid (VENDOR k) (take len m)) r
  unfolding dispatch knows pick
  vendor-off v t h = simp (sym is ∙ t) (h ∙ sym (stays s m r asks.idle asks.due (error cid InvalidCmd)))

pub ruleset commands = (tells-msg, tells-cbor, tells-wink, tells-ping, tells-cancel, tells-error, tells-keepalive, tells-init, tells-lock, tells-vendor)
