-- Who is told that the device is busy is told so because of another channel's transaction or lock; so no one is shut out for long. Assumes nothing.
use Prim.Native.Nat.{ℕ}
use native.Mathlib.Omega.{arith}
use mathlib.Core.Path.{◌≡◌, refl, ap, sym, subst, ◌∙◌}
use mathlib.Core.List.{List, [], ◌++◌}
use mathlib.Core.Bool.{Bool, true, false, not}
use mathlib.Core.Logic.{◌⊎◌, inl, inr, ⊎_elim}
use borrow.Author.Tests.{lt-ltb, leb-false, eqb-false, eq-eqb, not-true}
use lib.Dec.{leb, eqb}
use lib.ListN.{take, get_or}
use Rattle.ctaphid.specs.Choice.{pick}
use Rattle.ctaphid.specs.Packets.{Packet, initialization, continuation, read}
use Rattle.ctaphid.specs.Commands.{Command, MSG, CBOR, INIT, PING, CANCEL, ERROR, KEEPALIVE, WINK, LOCK, command_of, VENDOR}
use Rattle.ctaphid.specs.Errors.{Error, InvalidCmd, InvalidPar, InvalidLen, InvalidSeq, MsgTimeout, InvalidChannel, code}
use Rattle.ctaphid.specs.Settings.{Settings}
use Rattle.ctaphid.specs.Receiver.{Transaction, Receiver, idle, busy, Turn, channel_of, collect, start_known, start, when_idle, when_over, on_own, when_busy, receive, is_on}
use Rattle.ctaphid.specs.Transport.{Lock, Transport, Answer, nothing, reply, request, Next, error, not_valid, is_locked, is_locked_by, is_locked_against, is_shut, on_init, on_lock, dispatch, settle, settled, hear, with_receiver, obey}
use Rattle.ctaphid.specs.Demands.{AnyDevice, standard, after, on, TransactionsEnd, LocksEnd, busy_on, Against, Honest, NoneShutOut}
use Rattle.ctaphid.proofs.Tests.{pick_true, pick-both, pick_known}
use Rattle.ctaphid.proofs.Histories.{on_read}
use Rattle.ctaphid.proofs.Bounds.{command_in, transactions-end, locks-end}

-- ---- answers that tell no one so

abbrev NotBusy : Answer → Type 0
NotBusy a = (c : ℕ) → a ≡ busy_on c → ⊥

other-command : (a : Answer) → (command_in a ≡ 63 → ⊥) → NotBusy a
other-command a h c e = h (ap command_in e)

abbrev code_in : Answer → ℕ
code_in nothing = 0
code_in (reply c cmd payload) = get_or payload 0 0
code_in (request c cmd payload) = 0

other-code : (c : ℕ) (e : Error) → (code e ≡ 6 → ⊥) → NotBusy (error c e)
other-code c e h o q = h (ap code_in q)

abbrev Fine : Next Transport → Type 0
Fine x = NotBusy x.answer

fine : (b : Bool) (x y : Next Transport) → Fine x → Fine y → Fine (pick b x y)
fine b x y p q = pick-both (λ (n : Next Transport). Fine n) b x y p q

obey-fine : (d : Transport) (time c : ℕ) (x : Command) (payload : List ℕ) → Fine (obey d time c x payload)
unfolding obey on_init on_lock
obey-fine d time c MSG payload = other-command (request c MSG payload) (λ z. omega arith)
obey-fine d time c CBOR payload = other-command (request c CBOR payload) (λ z. omega arith)
obey-fine d time c INIT payload =
    fine _ _ _
    (fine _ _ _ (other-command (reply c INIT _) (λ z. omega arith)) (other-command (reply c INIT _) (λ z. omega arith)))
    (other-code c InvalidLen (λ z. omega arith))
obey-fine d time c PING payload = other-command (reply c PING payload) (λ z. omega arith)
obey-fine d time c CANCEL payload = other-command nothing (λ z. omega arith)
obey-fine d time c ERROR payload = other-command nothing (λ z. omega arith)
obey-fine d time c KEEPALIVE payload = other-command nothing (λ z. omega arith)
obey-fine d time c WINK payload = other-command (request c WINK payload) (λ z. omega arith)
obey-fine d time c LOCK payload =
    fine _ _ _
    (fine _ _ _ (other-code c InvalidPar (λ z. omega arith)) (other-command (reply c LOCK []) (λ z. omega arith)))
    (other-code c InvalidLen (λ z. omega arith))
obey-fine d time c (VENDOR n) payload = λ o q. let z : ◌≡◌ {A = ℕ} 0 1 = cc in absurd (omega arith)

dispatch-fine : (d : Transport) (time c : ℕ) (x : Command) (payload : List ℕ) → Fine (dispatch d time c x payload)
unfolding dispatch
dispatch-fine d time c x payload = fine _ _ _ (obey-fine d time c x payload) (other-code c InvalidCmd (λ z. omega arith))

module _ (d : Transport) (time c : ℕ) (set : Settings) where
  abbrev Calm : Turn → Type 0
  Calm t = Fine (settled d time c t)

  calm : (b : Bool) (x y : Turn) → Calm x → Calm y → Calm (pick b x y)
  calm b x y p q = pick-both (λ (t : Turn). Calm t) b x y p q

  collect-calm : (t : Transaction) (field : List ℕ) → Calm (collect t field)
  unfolding collect settle
  collect-calm t field =
      calm _ _ _ (other-command nothing (λ z. omega arith))
      (dispatch-fine (with_receiver d idle) time t.channel (command_of t.command) (take t.declared (t.collected ++ field)))

  start-calm : (own cmd n : ℕ) (field : List ℕ) → Calm (start set time own cmd n field)
  unfolding start start_known settle
  start-calm own cmd n field =
      calm _ _ _ (calm _ _ _ (other-code c InvalidLen (λ z. omega arith)) (collect-calm _ field)) (other-code c InvalidCmd (λ z. omega arith))

  idle-calm : (p : Packet) → Calm (when_idle set time p)
  unfolding when_idle settle
  idle-calm (initialization own cmd n field) = start-calm own cmd n field
  idle-calm (continuation own k field) = other-command nothing (λ z. omega arith)

  over-calm : (t : Transaction) (p : Packet) → Calm (when_over set time t p)
  unfolding when_over settle
  over-calm t (initialization own cmd n field) = idle-calm (initialization own cmd n field)
  over-calm t (continuation own k field) = calm _ _ _ (other-code c MsgTimeout (λ z. omega arith)) (idle-calm (continuation own k field))

  own-calm : (t : Transaction) (p : Packet) → Calm (on_own set time t p)
  unfolding on_own settle
  own-calm t (initialization own cmd n field) = calm _ _ _ (start-calm own cmd n field) (other-code c InvalidSeq (λ z. omega arith))
  own-calm t (continuation own k field) = calm _ _ _ (collect-calm _ field) (other-code c InvalidSeq (λ z. omega arith))

-- ---- those that do

-- a transaction of another channel than c is on
record Busy (r : Receiver) (c time : ℕ) : Type 0 where
  holder : ℕ
  another : holder ≡ c → ⊥
  live : is_on r holder time ≡ true

busy-or-calm : (d : Transport) (time : ℕ) (set : Settings) (r : Receiver) (p : Packet) → Busy r (channel_of p) time ⊎ Calm d time (channel_of p) set (receive set time r p)
unfolding receive when_busy is_on pick
busy-or-calm d time set idle p = inr (idle-calm d time (channel_of p) set p)
busy-or-calm d time set (busy t) p =
    pick_known (λ (x : Turn). Busy (busy t) (channel_of p) time ⊎ Calm d time (channel_of p) set x) (leb t.deadline time) _ _
    (λ e. inr (over-calm d time (channel_of p) set t p))
    (λ e. pick_known (λ (x : Turn). Busy (busy t) (channel_of p) time ⊎ Calm d time (channel_of p) set x) (eqb (channel_of p) t.channel) _ _
    (λ o. inr (own-calm d time (channel_of p) set t p))
    (λ o. inl (record {
      holder = t.channel;
      another = λ q. eqb-false (channel_of p) t.channel o (sym q);
      live = simp (eq-eqb t.channel t.channel refl, lt-ltb time t.deadline (leb-false _ _ e));
    })))

-- a lock that shuts c out is another channel's, and runs
against : (d : Transport) (c time : ℕ) → is_locked_against d.lock c time ≡ true → Against standard d c time
unfolding is_locked_against is_locked_by pick
against d c time h =
    let l : Lock = d.lock in
    let k : (is_locked l time ≡ true) × (not (eqb l.holder c) ≡ true) = pick_true (is_locked l time) (not (eqb l.holder c)) h in
    record {
      holder = l.holder;
      another = eqb-false l.holder c (not-true (eqb l.holder c) k.1);
      holds = inr (simp (k.0, eq-eqb l.holder l.holder refl));
    }

enabled-shut : (l : Lock) (time c : ℕ) → is_locked_against l c time ≡ is_shut l time false c
unfolding is_shut pick
enabled-shut l time c = refl

abbrev Told : Transport → ℕ → Packet → Next Transport → Type 0
Told d time p x = x.answer ≡ busy_on (channel_of p) → Against standard d (channel_of p) time

hear-honest : (d : Transport) (time : ℕ) (p : Packet) → Told d time p (hear d time false p)
unfolding hear
hear-honest d time p =
    pick-both (λ (x : Next Transport). Told d time p x) _ _ _
    (pick_known (λ (x : Next Transport). Told d time p x) (is_shut d.lock time false (channel_of p)) _ _
    (λ s q. against d (channel_of p) time (enabled-shut d.lock time (channel_of p) ∙ s))
    (λ s q. ⊎_elim
    (λ b. record { holder = b.holder; another = b.another; holds = inl b.live })
    (λ f. absurd (f (channel_of p) q))
    (busy-or-calm d time d.settings d.receiver p)))
    (λ q. absurd (unknown p q))
  where
    unknown : (q : Packet) → not_valid q ≡ busy_on (channel_of q) → ⊥
    unknown (initialization c cmd n field) z = other-code c InvalidChannel (λ k. omega arith) c z
    unknown (continuation c k field) z = other-command nothing (λ n. omega arith) c z

pub honest : Honest standard
honest set large past e taken enabled told =
    let d : Transport = after standard set past in
    let p : Packet = read e.packet in
    let said : (hear d e.time e.disabled p).answer ≡ busy_on (channel_of p) = told ∙ ap busy_on (sym (on_read e)) in
    subst (λ (c : ℕ). Against standard d c e.time) (on_read e)
    (hear-honest d e.time p (subst (λ (b : Bool). (hear d e.time b p).answer ≡ busy_on (channel_of p)) enabled said))

-- what the three say together, of any device
pub all_three : (D : AnyDevice) → TransactionsEnd D → LocksEnd D → Honest D → NoneShutOut D
all_three D ends locks truth set large past e taken enabled told =
    let a : Against D (after D set past) (on e) e.time = truth set large past e taken enabled told in
    record {
      holder = a.holder;
      another = a.another;
      holds =
          ⊎_elim
          (λ l. inl (ends set large past taken.2 e.time taken.1 a.holder l))
          (λ l. inr (locks set large past taken.2 e.time taken.1 a.holder l))
          a.holds;
    }

pub none-shut-out : NoneShutOut standard
none-shut-out = all_three standard transactions-end locks-end honest
