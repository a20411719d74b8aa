-- No transaction of the standard's transport is on 12,673 ms after its first packet, and no lock runs beyond its seconds: two invariants over the history.
-- Assumes nothing.
use Prim.Native.Nat.{ℕ, ◌+◌, ◌*◌, ◌≤◌, ◌<◌}
use native.Mathlib.Omega.{arith}
use mathlib.Core.Path.{◌≡◌, refl, ap, sym, subst, ◌∙◌}
use mathlib.Core.List.{List, [], ◌∷◌, ◌++◌}
use mathlib.Core.Bool.{Bool, true, true≢false}
use mathlib.Core.Logic.{◌⊎◌, inl, inr, ⊎_elim}
use borrow.Author.Tests.{ltb-true, ltb-false, leb-false, eqb-true, eqb-false}
use lib.Dec.{ltb, leb, eqb}
use lib.ListN.{length, take, get_or}
use lib.Seq.{length-take-le}
use Rattle.ctaphid.specs.Choice.{pick}
use Rattle.ctaphid.specs.Packets.{Packet, initialization, continuation, read}
use Rattle.ctaphid.specs.Commands.{Command, MSG, CBOR, INIT, PING, CANCEL, ERROR, KEEPALIVE, WINK, LOCK, number, command_of, VENDOR}
use Rattle.ctaphid.specs.Errors.{Error, InvalidCmd, InvalidPar, InvalidLen, ChannelBusy, code}
use Rattle.ctaphid.specs.Settings.{Settings, knows}
use Rattle.ctaphid.specs.Receiver.{Transaction, Receiver, idle, busy, Reception, silent, fault, whole, Turn, channel_of, collect, start_known, start, when_idle, when_over, on_own, when_busy, receive, is_on}
use Rattle.ctaphid.specs.Transport.{Lock, Transport, Event, Answer, nothing, reply, request, Next, error, not_valid, is_locked, is_locked_by, on_init, lock_for, on_lock, dispatch, settle, hear, with_receiver, obey}
use Rattle.ctaphid.specs.Demands.{standard, Taken, latest, after, answer, on, Begun, Since, TransactionsEndWithin, TransactionsEnd, Locked, LocksEnd}
use Rattle.ctaphid.proofs.Tests.{pick_true, pick-both, pick_known}
use Rattle.ctaphid.proofs.Invariant.{Runs, Receives, Holds, holds_later, reads-lock, keeps-dispatch}
use Rattle.ctaphid.proofs.Histories.{settings-after, holds_after, IsFirst, first_read, read-is-first, on_read, AsksFor, asks-lock}

-- ---- the receiver

-- a transaction whose channel and start B holds of: each continuation came at most 99 ms after the packet before it
record Begins (B : ℕ → ℕ → Type 0) (t : Transaction) : Type 0 where
  start : ℕ
  begun : B t.channel start
  within : t.deadline ≤ start + 99 * t.due + 100

abbrev BeginsIn : (ℕ → ℕ → Type 0) → Receiver → Type 0
BeginsIn B idle = Unit {0}
BeginsIn B (busy t) = Begins B t

-- by a first packet that is answered by nothing at this time
abbrev Now : ℕ → Packet → Reception → ℕ → ℕ → Type 0
Now time p b c t = IsFirst p × (channel_of p ≡ c) × (b ≡ silent) × (t ≡ time)

-- before, and this packet is no first one or is told off
abbrev Before : (ℕ → ℕ → Type 0) → Packet → Reception → ℕ → ℕ → Type 0
Before B p b c t = ((IsFirst p → ⊥) ⊎ (b ≡ fault ChannelBusy)) × B c t

abbrev NowOr : (ℕ → ℕ → Type 0) → ℕ → Packet → Reception → ℕ → ℕ → Type 0
NowOr B time p b c t = Now time p b c t ⊎ Before B p b c t

-- a message that is whole is a first packet's, or has more than 57 bytes
abbrev Single : Packet → (channel command : ℕ) → List ℕ → Type 0
Single (initialization o x n field) c cmd payload = (o ≡ c) × (x ≡ cmd) × (n ≤ length field) × (payload ≡ take n field)
Single (continuation o k field) c cmd payload = ⊥

abbrev Whence : Packet → Reception → Type 0
Whence p silent = Unit {0}
Whence p (fault e) = Unit {0}
Whence p (whole c cmd payload) = Single p c cmd payload ⊎ (57 < length payload)

record Turned (B : ℕ → ℕ → Type 0) (time : ℕ) (p : Packet) (t : Turn) : Type 0 where
  begins : BeginsIn (NowOr B time p t.reception) t.receiver
  whence : Whence p t.reception

module _ (B : ℕ → ℕ → Type 0) (set : Settings) (n time : ℕ) where
  turned-start : (c cmd declared : ℕ) (field : List ℕ) → Turned B time (initialization c cmd declared field) (start set time c cmd declared field)
  unfolding start start_known collect
  turned-start c cmd declared field =
      pick-both (λ (t : Turn). Turned B time (initialization c cmd declared field) t) _ _ _
      (pick-both (λ (t : Turn). Turned B time (initialization c cmd declared field) t) _ _ _
      (record { begins = tt; whence = tt })
      (pick_known (λ (t : Turn). Turned B time (initialization c cmd declared field) t) (ltb (length field) declared) _ _
      (λ l. record { begins = record { start = time; begun = inl (tt, refl, refl, refl); within = omega arith }; whence = tt })
      (λ l. record { begins = tt; whence = inl (refl, refl, ltb-false (length field) declared l, refl) })))
      (record { begins = tt; whence = tt })

  turned-idle : (p : Packet) → Turned B time p (when_idle set time p)
  unfolding when_idle
  turned-idle (initialization c cmd declared field) = turned-start c cmd declared field
  turned-idle (continuation c k field) = record { begins = tt; whence = tt }

  turned-over : (t : Transaction) (p : Packet) → Turned B time p (when_over set time t p)
  unfolding when_over
  turned-over t (initialization c cmd declared field) = turned-idle (initialization c cmd declared field)
  turned-over t (continuation c k field) =
      pick-both (λ (x : Turn). Turned B time (continuation c k field) x) _ _ _ (record { begins = tt; whence = tt }) (turned-idle (continuation c k field))

  turned-own : (t : Transaction) (p : Packet) → Runs set.maximum n time t → Begins B t → time < t.deadline → Turned B time p (on_own set time t p)
  unfolding on_own collect
  turned-own t (initialization c cmd declared field) r b live =
      pick-both (λ (x : Turn). Turned B time (initialization c cmd declared field) x) _ _ _ (turned-start c cmd declared field) (record { begins = tt; whence = tt })
  turned-own t (continuation c k field) r b live =
      pick-both (λ (x : Turn). Turned B time (continuation c k field) x) _ _ _
      (pick_known (λ (x : Turn). Turned B time (continuation c k field) x) (ltb (length (t.collected ++ field)) t.declared) _ _
      (λ l. record { begins = record { start = b.start; begun = inr (inl (λ f. f), b.begun); within = omega (arith, b.within) }; whence = tt })
      (λ l.
      let size : length (take t.declared (t.collected ++ field)) ≡ t.declared = length-take-le t.declared (t.collected ++ field) (ltb-false _ _ l) in
      record { begins = tt; whence = inr (omega (arith, size, r.below, r.bytes)) }))
      (record { begins = tt; whence = tt })

  turned : (r : Receiver) (p : Packet) → Receives set.maximum n time r → BeginsIn B r → Turned B time p (receive set time r p)
  unfolding receive when_busy
  turned idle p r b = turned-idle p
  turned (busy t) p r b =
      pick_known (λ (x : Turn). Turned B time p x) (leb t.deadline time) _ _
      (λ e. turned-over t p)
      (λ e. pick-both (λ (x : Turn). Turned B time p x) _ _ _
      (turned-own t p r b (leb-false t.deadline time e))
      (record { begins = record { start = b.start; begun = inr (inr refl, b.begun); within = b.within }; whence = tt }))

-- ---- the transport: transactions

-- by this packet, answered so, or before it: as `Begun` says it
abbrev At : (ℕ → ℕ → Type 0) → ℕ → Packet → Answer → ℕ → ℕ → Type 0
At B time p a c t = (IsFirst p × (channel_of p ≡ c) × (a ≡ nothing) × (time ≡ t)) ⊎ ((IsFirst p → a ≡ nothing → ⊥) × B c t)

abbrev BeginsAfter : (ℕ → ℕ → Type 0) → ℕ → Packet → Next Transport → Type 0
BeginsAfter B time p x = BeginsIn (At B time p x.answer) x.state.receiver

pub some-answer : (c : ℕ) (cmd : Command) (l : List ℕ) → reply c cmd l ≡ nothing → ⊥
some-answer c cmd l e = let z : ◌≡◌ {A = ℕ} 0 1 = cc in omega arith

fault≢silent : {e : Error} → fault e ≡ silent → ⊥
fault≢silent q = let z : ◌≡◌ {A = ℕ} 0 1 = cc in omega arith

whole≢silent : {c cmd : ℕ} {l : List ℕ} → whole c cmd l ≡ silent → ⊥
whole≢silent q = let z : ◌≡◌ {A = ℕ} 0 1 = cc in omega arith

whole≢fault : {c cmd : ℕ} {l : List ℕ} {e : Error} → whole c cmd l ≡ fault e → ⊥
whole≢fault q = let z : ◌≡◌ {A = ℕ} 0 1 = cc in omega arith

-- the same transaction, where its start is told otherwise
retold : (A C : ℕ → ℕ → Type 0) (r : Receiver) → ((c t : ℕ) → A c t → C c t) → BeginsIn A r → BeginsIn C r
retold A C idle f k = tt
retold A C (busy t) f k = record { start = k.start; begun = f t.channel k.start k.begun; within = k.within }

same-receiver : (d : Transport) (time c : ℕ) (x : Command) (payload : List ℕ) → (dispatch d time c x payload).state.receiver ≡ d.receiver
same-receiver d time c x payload =
    keeps-dispatch (λ (y : Transport). y.receiver ≡ d.receiver) d time c payload refl x (λ e. refl) (λ e h. refl)

module _ (B : ℕ → ℕ → Type 0) (time : ℕ) where
  settle-begins : (d : Transport) (c : ℕ) (p : Packet) (b : Reception) → BeginsIn (NowOr B time p b) d.receiver → BeginsAfter B time p (settle d time c b)
  unfolding settle
  settle-begins d c p silent k = retold (NowOr B time p silent) (At B time p nothing) d.receiver told k
    where
      told : (o t : ℕ) → NowOr B time p silent o t → At B time p nothing o t
      told o t (inl h) = inl (h.0, h.1, refl, sym h.3)
      told o t (inr h) = ⊎_elim (λ f. inr ((λ q z. f q), h.1)) (λ f. absurd (fault≢silent (sym f))) h.0
  settle-begins d c p (fault e) k = retold (NowOr B time p (fault e)) (At B time p (error c e)) d.receiver told k
    where
      told : (o t : ℕ) → NowOr B time p (fault e) o t → At B time p (error c e) o t
      told o t (inl h) = absurd (fault≢silent h.2)
      told o t (inr h) = inr ((λ q z. some-answer c ERROR (code e ∷ []) z), h.1)
  settle-begins d c p (whole own cmd payload) k =
      subst (λ (r : Receiver). BeginsIn (At B time p (dispatch d time own (command_of cmd) payload).answer) r) (sym (same-receiver d time own (command_of cmd) payload))
      (retold (NowOr B time p (whole own cmd payload)) (At B time p (dispatch d time own (command_of cmd) payload).answer) d.receiver told k)
    where
      told : (o t : ℕ) → NowOr B time p (whole own cmd payload) o t → At B time p (dispatch d time own (command_of cmd) payload).answer o t
      told o t (inl h) = absurd (whole≢silent h.2)
      told o t (inr h) = ⊎_elim (λ f. inr ((λ q z. f q), h.1)) (λ f. absurd (whole≢fault f)) h.0

  -- nothing is altered, and a first packet gets an answer
  kept-begins : (r : Receiver) (p : Packet) (a : Answer) → (IsFirst p → a ≡ nothing → ⊥) → BeginsIn B r → BeginsIn (At B time p a) r
  kept-begins r p a f k = retold B (At B time p a) r (λ o t b. inr (f, b)) k

  hear-begins : (d : Transport) (disabled : Bool) (p : Packet) → Holds d time → BeginsIn B d.receiver → BeginsAfter B time p (hear d time disabled p)
  unfolding hear
  hear-begins d disabled p h k =
      pick-both (λ (x : Next Transport). BeginsAfter B time p x) _ _ _
      (pick-both (λ (x : Next Transport). BeginsAfter B time p x) _ _ _
      (kept-begins d.receiver p (error (channel_of p) ChannelBusy) (λ f q. some-answer (channel_of p) ERROR (6 ∷ []) q) k)
      (let t : Turn = receive d.settings time d.receiver p in
      settle-begins (with_receiver d t.receiver) (channel_of p) p t.reception
      (turned B d.settings d.allocated time d.receiver p h.receiver k).begins))
      (kept-begins d.receiver p (not_valid p) (unknown p) k)
    where
      unknown : (q : Packet) → IsFirst q → not_valid q ≡ nothing → ⊥
      unknown (initialization c cmd n field) f z = some-answer c ERROR (11 ∷ []) z
      unknown (continuation c i field) f z = f

-- the invariant: the packet by which it began, by its channel and its time
record Began (set : Settings) (past : List Event) (c t : ℕ) : Type 0 where
  first : Event
  begun : Begun standard set past first
  channel : on first ≡ c
  time : first.time ≡ t

-- `Begun` names the packet by its bytes
begun-told : (set : Settings) (past : List Event) (e : Event) (c t : ℕ) → At (Began set past) e.time (read e.packet) (answer standard set past e) c t → Began set (e ∷ past) c t
begun-told set past e c t (inl h) =
    record { first = e; begun = inl (read-is-first e h.0, h.2, refl); channel = sym (on_read e) ∙ h.1; time = h.3 }
begun-told set past e c t (inr h) =
    let b : Began set past c t = h.1 in
    record { first = b.first; begun = inr ((λ f q. h.0 (first_read e f) q), b.begun); channel = b.channel; time = b.time }

holds_at : (set : Settings) (e : Event) (past : List Event) → Taken (e ∷ past) → Holds (after standard set past) e.time
holds_at set e past taken = holds_later (after standard set past) (latest past) e.time taken.1 (holds_after set past taken.2)

begins-after : (set : Settings) (past : List Event) → Taken past → BeginsIn (Began set past) (after standard set past).receiver
begins-after set [] taken = tt
begins-after set (e ∷ past) taken =
    retold (At (Began set past) e.time (read e.packet) (answer standard set past e)) (Began set (e ∷ past)) (after standard set (e ∷ past)).receiver
    (begun-told set past e)
    (hear-begins (Began set past) e.time (after standard set past) e.disabled (read e.packet) (holds_at set e past taken) (begins-after set past taken.2))

-- at most 127 continuations come before the last one, each at most 99 ms after the packet before it
pub transactions-end-sharp : TransactionsEndWithin 12673 standard
unfolding is_on
transactions-end-sharp set large past taken time onward c live =
    ended (after standard set past).receiver (holds_after set past taken).receiver (begins-after set past taken) live
  where
    maximum : (after standard set past).settings.maximum ≡ set.maximum
    maximum = ap (λ (s : Settings). s.maximum) (settings-after set past)

    ended : (r : Receiver) → Receives (after standard set past).settings.maximum (after standard set past).allocated (latest past) r → BeginsIn (Began set past) r → is_on r c time ≡ true → Since 12673 standard set c past time
    ended idle k b l = absurd (true≢false (sym l))
    ended (busy t) k b l =
        let own : (eqb t.channel c ≡ true) × (ltb time t.deadline ≡ true) = pick_true _ _ l in
        let early : time < t.deadline = ltb-true time t.deadline own.1 in
        record {
          first = b.begun.first;
          begun = b.begun.begun;
          channel = b.begun.channel ∙ eqb-true t.channel c own.0;
          within = omega (arith, early, maximum, large.most, k.most, k.below, k.bytes, b.within, b.begun.time);
        }

pub transactions-end : TransactionsEnd standard
transactions-end set large past taken time onward c live =
    let s : Since 12673 standard set c past time = transactions-end-sharp set large past taken time onward c live in
    record { first = s.first; begun = s.begun; channel = s.channel; within = omega (arith, s.within) }

-- ---- the transport: locks

-- the lock was taken so: `L c k t` says that the last LOCK of channel c that was accepted came at t and named k seconds
record Held (L : ℕ → ℕ → ℕ → Type 0) (l : Lock) : Type 0 where
  seconds : ℕ
  start : ℕ
  locked : L l.holder seconds start
  some : 1 ≤ seconds
  most : seconds ≤ 10
  due : l.until ≡ start + 1000 * seconds

-- or is nobody's
abbrev HeldIn : (ℕ → ℕ → ℕ → Type 0) → Lock → Type 0
HeldIn L l = 1 ≤ l.until → Held L l

-- as `Locked` says it
abbrev LockAt : (ℕ → ℕ → ℕ → Type 0) → ℕ → Packet → Answer → ℕ → ℕ → ℕ → Type 0
LockAt L time p a c k t = (AsksFor c k p × (a ≡ reply c LOCK []) × (time ≡ t)) ⊎ ((a ≡ reply c LOCK [] → ⊥) × L c k t)

abbrev HeldAfter : (ℕ → ℕ → ℕ → Type 0) → ℕ → Packet → Next Transport → Type 0
HeldAfter L time p x = HeldIn (LockAt L time p x.answer) x.state.lock

abbrev pub command_in : Answer → ℕ
command_in nothing = 0
command_in (reply c cmd payload) = number cmd
command_in (request c cmd payload) = 0

-- an answer that accepts no LOCK
abbrev NoLock : Answer → Type 0
NoLock a = (c : ℕ) → a ≡ reply c LOCK [] → ⊥

no-lock : (a : Answer) → (command_in a ≡ 4 → ⊥) → NoLock a
no-lock a h c e = h (ap command_in e)

held-told : (A C : ℕ → ℕ → ℕ → Type 0) (l : Lock) → ((c k t : ℕ) → A c k t → C c k t) → HeldIn A l → HeldIn C l
held-told A C l f h u =
    let k : Held A l = h u in
    record { seconds = k.seconds; start = k.start; locked = f l.holder k.seconds k.start k.locked; some = k.some; most = k.most; due = k.due }

get_d_take : (n : ℕ) (field : List ℕ) → n ≡ 1 → get_or (take n field) 0 0 ≡ get_or field 0 0
get_d_take n field e = subst (λ (m : ℕ). get_or (take m field) 0 0 ≡ get_or field 0 0) (sym e) (by_cases field)
  where
    by_cases : (l : List ℕ) → get_or (take 1 l) 0 0 ≡ get_or l 0 0
    by_cases [] = refl
    by_cases (b ∷ l) = refl

module _ (L : ℕ → ℕ → ℕ → Type 0) (time : ℕ) where
  kept-lock : (p : Packet) (l : Lock) (a : Answer) → (command_in a ≡ 4 → ⊥) → HeldIn L l → HeldIn (LockAt L time p a) l
  kept-lock p l a f k = held-told L (LockAt L time p a) l (λ c s t h. inr (no-lock a f c, h)) k

  -- the byte of a LOCK that is whole
  single-lock : (p : Packet) (c cmd : ℕ) (payload : List ℕ) → cmd ≡ 4 → length payload ≡ 1 → Single p c cmd payload → AsksFor c (get_or payload 0 0) p
  single-lock (initialization o x n field) c cmd payload e one s =
      let size : length (take n field) ≡ n = length-take-le n field s.2 in
      let is_one : n ≡ 1 = sym size ∙ ap length (sym s.3) ∙ one in
      (s.0, s.1 ∙ e, is_one, sym (get_d_take n field is_one) ∙ ap (λ (l : List ℕ). get_or l 0 0) (sym s.3))
  single-lock (continuation o k field) c cmd payload e one s = absurd s

  lock-lock : (p : Packet) (d : Transport) (c cmd : ℕ) (payload : List ℕ) → cmd ≡ 4 → HeldIn L d.lock → Single p c cmd payload ⊎ (57 < length payload) → HeldAfter L time p (on_lock d time c payload)
  unfolding on_lock lock_for
  lock-lock p d c cmd payload e k w =
      pick_known (λ (x : Next Transport). HeldAfter L time p x) (eqb (length payload) 1) _ _
      (λ one. pick_known (λ (x : Next Transport). HeldAfter L time p x) (ltb 10 (get_or payload 0 0)) _ _
      (λ q. kept-lock p d.lock (error c InvalidPar) (λ z. omega arith) k)
      (λ q. pick_known (λ (l : Lock). HeldIn (LockAt L time p (reply c LOCK [])) l) (eqb (get_or payload 0 0) 0) _ _
      (λ z u. absurd (omega arith))
      (λ z u. record {
        seconds = get_or payload 0 0;
        start = time;
        locked =
            inl (
              ⊎_elim (λ s. single-lock p c cmd payload e (eqb-true (length payload) 1 one) s) (λ s. absurd (omega (arith, eqb-true (length payload) 1 one, s))) w,
              refl,
              refl,
            );
        some = positive (get_or payload 0 0) (eqb-false (get_or payload 0 0) 0 z);
        most = ltb-false 10 (get_or payload 0 0) q;
        due = refl;
      })))
      (λ one. kept-lock p d.lock (error c InvalidLen) (λ z. omega arith) k)
    where
      positive : (n : ℕ) → (n ≡ 0 → ⊥) → 1 ≤ n
      positive n h = omega arith

  init-lock : (p : Packet) (d : Transport) (c : ℕ) (payload : List ℕ) → HeldIn L d.lock → HeldAfter L time p (on_init d c payload)
  unfolding on_init
  init-lock p d c payload k =
      both _ _ _
      (both _ _ _ (kept-lock p d.lock (reply c INIT _) (λ z. omega arith) k) (kept-lock p d.lock (reply c INIT _) (λ z. omega arith) k))
      (kept-lock p d.lock (error c InvalidLen) (λ z. omega arith) k)
    where
      both : (b : Bool) (x y : Next Transport) → HeldAfter L time p x → HeldAfter L time p y → HeldAfter L time p (pick b x y)
      both b x y q r = pick-both (λ (n : Next Transport). HeldAfter L time p n) b x y q r

  obey-lock : (p : Packet) (d : Transport) (c cmd : ℕ) (x : Command) (payload : List ℕ) → command_of cmd ≡ x → HeldIn L d.lock → Single p c cmd payload ⊎ (57 < length payload) → HeldAfter L time p (obey d time c x payload)
  unfolding obey
  obey-lock p d c cmd MSG payload e k w = kept-lock p d.lock (request c MSG payload) (λ z. omega arith) k
  obey-lock p d c cmd CBOR payload e k w = kept-lock p d.lock (request c CBOR payload) (λ z. omega arith) k
  obey-lock p d c cmd INIT payload e k w = init-lock p d c payload k
  obey-lock p d c cmd PING payload e k w = kept-lock p d.lock (reply c PING payload) (λ z. omega arith) k
  obey-lock p d c cmd CANCEL payload e k w = kept-lock p d.lock nothing (λ z. omega arith) k
  obey-lock p d c cmd ERROR payload e k w = kept-lock p d.lock nothing (λ z. omega arith) k
  obey-lock p d c cmd KEEPALIVE payload e k w = kept-lock p d.lock nothing (λ z. omega arith) k
  obey-lock p d c cmd WINK payload e k w = kept-lock p d.lock (request c WINK payload) (λ z. omega arith) k
  obey-lock p d c cmd LOCK payload e k w = lock-lock p d c cmd payload (reads-lock cmd e) k w
  obey-lock p d c cmd (VENDOR n) payload e k w = kept-lock p d.lock (request c (VENDOR n) payload) (λ z. omega arith) k

  dispatch-lock : (p : Packet) (d : Transport) (c cmd : ℕ) (x : Command) (payload : List ℕ) → command_of cmd ≡ x → HeldIn L d.lock → Single p c cmd payload ⊎ (57 < length payload) → HeldAfter L time p (dispatch d time c x payload)
  unfolding dispatch
  dispatch-lock p d c cmd x payload e k w =
      pick-both (λ (n : Next Transport). HeldAfter L time p n) (knows d.settings x) _ _ (obey-lock p d c cmd x payload e k w) (kept-lock p d.lock (error c InvalidCmd) (λ z. omega arith) k)

  settle-lock : (p : Packet) (d : Transport) (c : ℕ) (b : Reception) → HeldIn L d.lock → Whence p b → HeldAfter L time p (settle d time c b)
  unfolding settle
  settle-lock p d c silent k w = kept-lock p d.lock nothing (λ z. omega arith) k
  settle-lock p d c (fault e) k w = kept-lock p d.lock (error c e) (λ z. omega arith) k
  settle-lock p d c (whole own cmd payload) k w = dispatch-lock p d own cmd (command_of cmd) payload refl k w

  hear-lock : (B : ℕ → ℕ → Type 0) (p : Packet) (d : Transport) (disabled : Bool) → Holds d time → BeginsIn B d.receiver → HeldIn L d.lock → HeldAfter L time p (hear d time disabled p)
  unfolding hear
  hear-lock B p d disabled h b k =
      pick-both (λ (x : Next Transport). HeldAfter L time p x) _ _ _
      (pick-both (λ (x : Next Transport). HeldAfter L time p x) _ _ _
      (kept-lock p d.lock (error (channel_of p) ChannelBusy) (λ z. omega arith) k)
      (let t : Turn = receive d.settings time d.receiver p in
      settle-lock p (with_receiver d t.receiver) (channel_of p) t.reception k
      (turned B d.settings d.allocated time d.receiver p h.receiver b).whence))
      (kept-lock p d.lock (not_valid p) (unknown p) k)
    where
      unknown : (q : Packet) → command_in (not_valid q) ≡ 4 → ⊥
      unknown (initialization c cmd n field) z = omega arith
      unknown (continuation c i field) z = omega arith

abbrev LastLock : Settings → List Event → ℕ → ℕ → ℕ → Type 0
LastLock set past c k t = Locked standard set c past k t

-- `Locked` names the packet by its bytes
lock-told : (set : Settings) (past : List Event) (e : Event) (c k t : ℕ) → LockAt (LastLock set past) e.time (read e.packet) (answer standard set past e) c k t → LastLock set (e ∷ past) c k t
lock-told set past e c k t (inl h) = inl (asks-lock c k e h.0, h.1, h.2)
lock-told set past e c k t (inr h) = inr h

held_after : (set : Settings) (past : List Event) → Taken past → HeldIn (LastLock set past) (after standard set past).lock
held_after set [] taken = λ u. absurd (omega arith)
held_after set (e ∷ past) taken =
    held-told (LockAt (LastLock set past) e.time (read e.packet) (answer standard set past e)) (LastLock set (e ∷ past)) (after standard set (e ∷ past)).lock
    (lock-told set past e)
    (hear-lock (LastLock set past) e.time (Began set past) (read e.packet) (after standard set past) e.disabled (holds_at set e past taken)
    (begins-after set past taken.2) (held_after set past taken.2))

pub locks-end : LocksEnd standard
unfolding is_locked_by
locks-end set large past taken time onward c runs =
    let l : Lock = (after standard set past).lock in
    let on : (is_locked l time ≡ true) × (eqb l.holder c ≡ true) = pick_true _ _ runs in
    let early : time < l.until = ltb-true time l.until on.0 in
    let h : Held (LastLock set past) l = held_after set past taken (omega (arith, early)) in
    record {
      seconds = h.seconds;
      start = h.start;
      locked = subst (λ (o : ℕ). LastLock set past o h.seconds h.start) (eqb-true l.holder c on.1) h.locked;
      some = h.some;
      most = h.most;
      within = omega (arith, early, h.due);
    }
