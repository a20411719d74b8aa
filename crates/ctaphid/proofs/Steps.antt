-- What a step of the standard's transport does to a message that is on its way, and to packets of other channels. Assumes nothing.
use Prim.Native.Nat.{ℕ, ◌+◌, ◌≤◌, ◌<◌}
use native.Mathlib.Omega.{arith}
use mathlib.Core.Path.{◌≡◌, refl, ap, sym, subst, ◌∙◌}
use mathlib.Core.List.{List, ◌++◌}
use mathlib.Core.Bool.{Bool, true, false, not, true≢false}
use borrow.Author.Tests.{lt-ltb, le-ltb, le-leb, lt-leb, eq-eqb, ne_eqb, eqb-false, ltb-true, ltb-false, leb-true}
use lib.Dec.{leb, eqb}
use lib.ListN.{length, take}
use Rattle.ctaphid.specs.Choice.{pick, is_in}
use Rattle.ctaphid.specs.Packets.{Packet, initialization, continuation}
use Rattle.ctaphid.specs.Commands.{Command, VENDOR, number, is_vendor, among, command_of}
use Rattle.ctaphid.specs.Errors.{Error, ChannelBusy, InvalidChannel}
use Rattle.ctaphid.specs.Limits.{timeout}
use Rattle.ctaphid.specs.Settings.{Settings, knows}
use Rattle.ctaphid.specs.Receiver.{Transaction, Receiver, idle, busy, silent, fault, whole, Turn, turn, channel_of, collect, start, when_idle, when_over, on_own, when_busy, receive, is_on}
use Rattle.ctaphid.specs.Transport.{Lock, Transport, Next, next, error, broadcast, is_allocated, is_valid, not_valid, is_locked, is_locked_by, is_locked_against, is_shut, with_receiver, dispatch, settle, settled, serve, hear, obey, request}
use Rattle.ctaphid.specs.Demands.{Message, aPing, aMsg, aWink, aCbor, number_of, handed_out, HandsOut, Allowed, Permitted, aVendor}
use Rattle.ctaphid.proofs.Commands.{is-vendor, vendor-read}
use Rattle.ctaphid.proofs.Tests.{pick_true, pick-both, pick_known}
use Rattle.ctaphid.proofs.Transport.{hear-served}

-- ---- the receiver

-- a transaction with a further data field, at a time
abbrev pub grown : Transaction → (time : ℕ) → List ℕ → Transaction
grown t time field =
    record {
      channel = t.channel;
      command = t.command;
      declared = t.declared;
      collected = t.collected ++ field;
      due = t.due + 1;
      deadline = time + timeout;
    }

module _ (set : Settings) (time : ℕ) (t : Transaction) (live : time < t.deadline) where
  pub receive_other : (p : Packet) → (channel_of p ≡ t.channel → ⊥) → receive set time (busy t) p ≡ turn (busy t) (fault ChannelBusy)
  unfolding receive when_busy pick
  receive_other p h = simp (lt-leb _ _ live, ne_eqb _ _ h)

  pub receive-more : (field : List ℕ) → length (t.collected ++ field) < t.declared → receive set time (busy t) (continuation t.channel t.due field) ≡ turn (busy (grown t time field)) silent
  unfolding receive when_busy on_own collect pick
  receive-more field h = simp (lt-leb _ _ live, eq-eqb t.channel t.channel refl, eq-eqb t.due t.due refl, lt-ltb _ _ h)

  pub receive-last : (field : List ℕ) → t.declared ≤ length (t.collected ++ field) → receive set time (busy t) (continuation t.channel t.due field) ≡ turn idle (whole t.channel t.command (take t.declared (t.collected ++ field)))
  unfolding receive when_busy on_own collect pick
  receive-last field h = simp (lt-leb _ _ live, eq-eqb t.channel t.channel refl, eq-eqb t.due t.due refl, le-ltb _ _ h)

-- to a first packet a receiver with no live transaction is idle
pub receive-free : (set : Settings) (time : ℕ) (r : Receiver) (c cmd n : ℕ) (field : List ℕ) → ((o : ℕ) → is_on r o time ≡ false) → receive set time r (initialization c cmd n field) ≡ start set time c cmd n field
unfolding receive is_on when_over when_idle pick
receive-free set time idle c cmd n field h = refl
receive-free set time (busy t) c cmd n field h =
    simp (le-leb _ _ (ltb-false time t.deadline (simp (eq-eqb t.channel t.channel refl) at (h t.channel))))

-- ---- channels and locks

pub allocated-most : (n c : ℕ) → is_allocated n c ≡ true → c ≤ n
unfolding is_allocated
allocated-most n c h = leb-true c n (pick_true (leb 1 c) (leb c n) h).1

pub allocated-valid : (n : ℕ) (p : Packet) → channel_of p < broadcast → is_allocated n (channel_of p) ≡ true → is_valid n p ≡ true
unfolding is_valid pick
allocated-valid n (initialization c cmd declared field) small h = simp (ne_eqb c broadcast (λ e. omega arith)) h
allocated-valid n (continuation c k field) small h = simp (ne_eqb c broadcast (λ e. omega arith)) h

-- where no other channel's lock runs, none runs against c
pub unlocked-for : (l : Lock) (c time : ℕ) → ((o : ℕ) → (o ≡ c → ⊥) → is_locked_by l o time ≡ false) → is_locked_against l c time ≡ false
unfolding is_locked_by is_locked_against pick
unlocked-for l c time h =
    pick_known (λ (x : Bool). x ≡ false) (is_locked l time) _ _ (λ runs. which runs (eqb l.holder c) refl) (λ e. refl)
  where
    which : is_locked l time ≡ true → (b : Bool) → eqb l.holder c ≡ b → not b ≡ false
    which runs true e = refl
    which runs false e = absurd (true≢false (simp (runs, eq-eqb l.holder l.holder refl) at (h l.holder (eqb-false l.holder c e))))

-- a lock that doesn't run doesn't run later
pub still-unlocked : (l : Lock) (c now time : ℕ) → now ≤ time → is_locked_against l c now ≡ false → is_locked_against l c time ≡ false
unfolding is_locked_against pick
still-unlocked l c now time h k =
    pick_known (λ (x : Bool). x ≡ false) (is_locked l time) _ _
    (λ runs. simp (lt-ltb now l.until (omega (arith, ltb-true time l.until runs))) at k) (λ e. refl)

-- ---- the transport

pub let_through : (d : Transport) (time : ℕ) (p : Packet) → is_valid d.allocated p ≡ true → is_locked_against d.lock (channel_of p) time ≡ false → hear d time false p ≡ serve d time p
unfolding is_shut pick
let_through d time p v u = hear-served d time false p v u

pub served : (d : Transport) (time : ℕ) (p : Packet) (t : Turn) → receive d.settings time d.receiver p ≡ t → serve d time p ≡ settled d time (channel_of p) t
served d time p t e = ap (λ (x : Turn). settled d time (channel_of p) x) e

-- a message that is handed out, and whose number is the vendor's if it is one of the vendor's
abbrev pub Handed : Settings → Message → Type 0
Handed set aPing = Unit {0}
Handed set aMsg = Unit {0}
Handed set aWink = Unit {0}
Handed set aCbor = Unit {0}
Handed set (aVendor n) = (is_in n set.vendor ≡ true) × (is_vendor n ≡ true)

pub handed : (set : Settings) → Permitted set → (m : Message) → Allowed set m → Handed set m
handed set permitted aPing a = tt
handed set permitted aMsg a = tt
handed set permitted aWink a = tt
handed set permitted aCbor a = tt
handed set permitted (aVendor n) a = let range = permitted.vendor n a in (a, is-vendor n range.0 range.1)

-- its command is one that the device knows
pub handed-known : (set : Settings) (m : Message) → Handed set m → knows set (command_of (number_of m)) ≡ true
unfolding is_vendor knows among pick
handed-known set aPing a = refl
handed-known set aMsg a = refl
handed-known set aWink a = refl
handed-known set aCbor a = refl
handed-known set (aVendor n) a = ap (knows set) (sym (vendor-read n a.1)) ∙ a.0

vendor-dispatched : (d : Transport) (time c n : ℕ) (payload : List ℕ) → Handed d.settings (aVendor n) → dispatch d time c (command_of n) payload ≡ next d (request c (VENDOR n) payload)
unfolding dispatch knows obey pick
vendor-dispatched d time c n payload a = ap (λ (k : Command). dispatch d time c k payload) (sym (vendor-read n a.1)) ∙ simp a.0

pub dispatched : (d : Transport) (time c : ℕ) (m : Message) (payload : List ℕ) → Handed d.settings m → dispatch d time c (command_of (number_of m)) payload ≡ next d (handed_out m c payload)
unfolding is_vendor dispatch knows obey among pick
dispatched d time c aPing payload a = refl
dispatched d time c aMsg payload a = refl
dispatched d time c aWink payload a = refl
dispatched d time c aCbor payload a = refl
dispatched d time c (aVendor n) payload a = vendor-dispatched d time c n payload a

-- an error hands nothing out
pub error-hands : (c : ℕ) (e : Error) → HandsOut (error c e) → ⊥
error-hands c e h = let z : ◌≡◌ {A = ℕ} 63 1 = ap number h in omega arith

-- while a transaction is live, a packet of another channel alters nothing and hands nothing out
pub record Same (d : Transport) (n : Next Transport) : Type 0 where
  pub state : n.state ≡ d
  pub hushed : HandsOut n.answer → ⊥

pub other-same : (d : Transport) (time : ℕ) (disabled : Bool) (p : Packet) (t : Transaction) → d.receiver ≡ busy t → time < t.deadline → (channel_of p ≡ t.channel → ⊥) → Same d (hear d time disabled p)
unfolding hear settle
other-same d time disabled p t r live h =
    pick-both (λ (n : Next Transport). Same d n) _ _ _
    (pick-both (λ (n : Next Transport). Same d n) _ _ _ (record { state = refl; hushed = error-hands (channel_of p) ChannelBusy })
    (subst (λ (n : Next Transport). Same d n)
    (sym (served d time p (turn (busy t) (fault ChannelBusy)) (simp r (receive_other d.settings time t live p h))))
    (record { state = ap (λ (x : Receiver). with_receiver d x) (sym r); hushed = error-hands (channel_of p) ChannelBusy })))
    (invalid p)
  where
    invalid : (q : Packet) → Same d (next d (not_valid q))
    invalid (initialization c cmd n field) = record { state = refl; hushed = error-hands c InvalidChannel }
    invalid (continuation c k field) = record { state = refl; hushed = λ k. k }
