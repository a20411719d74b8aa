-- Of the list of vendor commands only what is in it counts. Assumes nothing.
use Prim.Native.Nat.{ℕ}
use mathlib.Core.Path.{◌≡◌, refl, sym, ap, ◌∙◌}
use mathlib.Core.List.{List, [], ◌∷◌}
use mathlib.Core.Bool.{Bool}
use lib.Dec.{ltb, leb, eqb}
use lib.ListN.{length, get_or}
use Rattle.ctaphid.specs.Choice.{pick, is_in}
use Rattle.ctaphid.specs.Packets.{Packet, initialization, continuation, read}
use Rattle.ctaphid.specs.Commands.{Command, MSG, CBOR, INIT, PING, CANCEL, ERROR, KEEPALIVE, WINK, LOCK, VENDOR, number, command_of}
use Rattle.ctaphid.specs.Errors.{InvalidCmd, InvalidSeq, ChannelBusy}
use Rattle.ctaphid.specs.Settings.{Settings, listing, knows}
use Rattle.ctaphid.specs.Receiver.{Transaction, Receiver, idle, busy, Reception, silent, fault, whole, Turn, turn, channel_of, start_known, start, when_idle, when_over, on_own, when_busy, receive}
use Rattle.ctaphid.specs.Transport.{Transport, fresh, Event, Answer, nothing, reply, request, Next, next, error, broadcast, is_valid, is_shut, obey, dispatch, on_init, on_lock, with_receiver, settle, settled, hear, step, answers_of, afterwards, run}
use Rattle.ctaphid.specs.Device.{Device, device, set_up, on_wink, on_msg, on_request, answered, device_step, OnlyMembersCount}
use Rattle.ctaphid.specs.Demands.{standard, after, answer}
use Rattle.ctaphid.proofs.Tests.{both-pick}
use Rattle.ctaphid.proofs.Device.{same-transport}
use Rattle.ctaphid.proofs.Invariant.{same-settings}
use Rattle.ctaphid.proofs.Histories.{settings-after}

-- ---- what is known goes by the list's members, and what a receiver makes of a packet by them and the maximum: U2F makes no difference
module _ (a b : Settings) (same : (n : ℕ) → is_in n a.vendor ≡ is_in n b.vendor) where
  pub knows_same : (k : Command) → knows a k ≡ knows b k
  unfolding knows
  knows_same MSG = refl
  knows_same CBOR = refl
  knows_same INIT = refl
  knows_same PING = refl
  knows_same CANCEL = refl
  knows_same ERROR = refl
  knows_same KEEPALIVE = refl
  knows_same WINK = refl
  knows_same LOCK = refl
  knows_same (VENDOR n) = same n

  module _ (max : a.maximum ≡ b.maximum) (time : ℕ) where
    start-same : (c cmd n : ℕ) (field : List ℕ) → start a time c cmd n field ≡ start b time c cmd n field
    unfolding start
    start-same c cmd n field = λ i. pick (knows_same (command_of cmd) i) (start_known (max i) time c cmd n field) (turn idle (fault InvalidCmd))

    idle-same : (p : Packet) → when_idle a time p ≡ when_idle b time p
    unfolding when_idle
    idle-same (initialization c cmd n field) = start-same c cmd n field
    idle-same (continuation c k field) = refl

    over-same : (t : Transaction) (p : Packet) → when_over a time t p ≡ when_over b time t p
    unfolding when_over when_idle
    over-same t (initialization c cmd n field) = idle-same (initialization c cmd n field)
    over-same t (continuation c k field) = refl

    own_same : (t : Transaction) (p : Packet) → on_own a time t p ≡ on_own b time t p
    unfolding on_own
    own_same t (initialization c cmd n field) = λ i. pick (eqb cmd (number INIT)) (start-same c cmd n field i) (turn idle (fault InvalidSeq))
    own_same t (continuation c k field) = refl

    busy-same : (t : Transaction) (p : Packet) → when_busy a time t p ≡ when_busy b time t p
    unfolding when_busy
    busy-same t p = λ i. pick (eqb (channel_of p) t.channel) (own_same t p i) (turn (busy t) (fault ChannelBusy))

    pub receive-same : (r : Receiver) (p : Packet) → receive a time r p ≡ receive b time r p
    unfolding receive
    receive-same idle p = idle-same p
    receive-same (busy t) p = λ i. pick (leb t.deadline time) (over-same t p i) (busy-same t p i)

-- ---- a list in place of another
module _ (l : List ℕ) where
  -- a transport, and where a step leads, with that list
  abbrev pub relisted : Transport → Transport
  relisted d = record { settings = listing l d.settings; allocated = d.allocated; lock = d.lock; receiver = d.receiver }

  abbrev pub relisted_next : Next Transport → Next Transport
  relisted_next n = next (relisted n.state) n.answer

  abbrev Alike : Next Transport → Next Transport → Type 0
  Alike x y = x ≡ relisted_next y

  obey-alike : (d : Transport) (time c : ℕ) (k : Command) (payload : List ℕ) → obey (relisted d) time c k payload ≡ relisted_next (obey d time c k payload)
  unfolding obey on_init on_lock
  obey-alike d time c MSG payload = refl
  obey-alike d time c CBOR payload = refl
  obey-alike d time c INIT payload =
      both-pick Alike (eqb (length payload) 8) _ _ _ _ (λ e. both-pick Alike (eqb c broadcast) _ _ _ _ (λ b. refl) (λ b. refl)) (λ e. refl)
  obey-alike d time c PING payload = refl
  obey-alike d time c CANCEL payload = refl
  obey-alike d time c ERROR payload = refl
  obey-alike d time c KEEPALIVE payload = refl
  obey-alike d time c WINK payload = refl
  obey-alike d time c LOCK payload =
      both-pick Alike (eqb (length payload) 1) _ _ _ _ (λ e. both-pick Alike (ltb 10 (get_or payload 0 0)) _ _ _ _ (λ b. refl) (λ b. refl)) (λ e. refl)
  obey-alike d time c (VENDOR n) payload = refl

  -- ---- a packet
  module _ (d : Transport) (same : (n : ℕ) → is_in n l ≡ is_in n d.settings.vendor) where
    dispatch-alike : (time c : ℕ) (k : Command) (payload : List ℕ) → dispatch (relisted d) time c k payload ≡ relisted_next (dispatch d time c k payload)
    unfolding dispatch
    dispatch-alike time c k payload =
        ap (λ (b : Bool). pick b (obey (relisted d) time c k payload) (next (relisted d) (error c InvalidCmd))) (knows_same (listing l d.settings) d.settings same k)
        ∙ both-pick Alike (knows d.settings k) _ _ _ _ (λ e. obey-alike d time c k payload) (λ e. refl)

  settle-alike : (d : Transport) → ((n : ℕ) → is_in n l ≡ is_in n d.settings.vendor) → (time c : ℕ) (b : Reception) → settle (relisted d) time c b ≡ relisted_next (settle d time c b)
  unfolding settle
  settle-alike d same time c silent = refl
  settle-alike d same time c (fault e) = refl
  settle-alike d same time c (whole own cmd payload) = dispatch-alike d same time own (command_of cmd) payload

  pub hear-alike : (d : Transport) → ((n : ℕ) → is_in n l ≡ is_in n d.settings.vendor) → (time : ℕ) (disabled : Bool) (p : Packet) → hear (relisted d) time disabled p ≡ relisted_next (hear d time disabled p)
  unfolding hear
  hear-alike d same time disabled p =
      let t : Turn = receive d.settings time d.receiver p in
      both-pick Alike (is_valid d.allocated p) _ _ _ _
      (λ v. both-pick Alike (is_shut d.lock time disabled (channel_of p)) _ _ _ _ (λ e. refl)
      (λ e.
      ap (λ (x : Turn). settled (relisted d) time (channel_of p) x) (receive-same (listing l d.settings) d.settings same refl time d.receiver p)
      ∙ settle-alike (with_receiver d t.receiver) same time (channel_of p) t.reception))
      (λ v. refl)

  -- ---- the device

  abbrev pub relisted_device : Device → Device
  relisted_device o = device (relisted o.transport) o.wink

  abbrev pub relisted_leads : Next Device → Next Device
  relisted_leads n = next (relisted_device n.state) n.answer

  abbrev LeadAlike : Next Device → Next Device → Type 0
  LeadAlike x y = x ≡ relisted_leads y

  answered-alike : (time wink : ℕ) (d : Transport) (a : Answer) → answered time wink (relisted d) a ≡ relisted_leads (answered time wink d a)
  unfolding answered on_request on_wink on_msg
  answered-alike time wink d nothing = refl
  answered-alike time wink d (reply c cmd payload) = refl
  answered-alike time wink d (request c cmd payload) =
      both-pick LeadAlike (eqb (number cmd) 8) _ _ _ _ (λ w. both-pick LeadAlike (eqb (length payload) 0) _ _ _ _ (λ e. refl) (λ e. refl))
      (λ w. both-pick LeadAlike (eqb (number cmd) 3) _ _ _ _ (λ m. both-pick LeadAlike d.settings.u2f _ _ _ _ (λ e. refl) (λ e. refl)) (λ m. refl))

-- ---- runs: where each step goes through a function of states, so do the answers of any run, and the state after it
answers-through : {S : Type 0} (f : S → Event → Next S) (g : S → S) (Fits : S → Type 0) → ((s : S) (e : Event) → Fits s → f (g s) e ≡ next (g (f s e).state) (f s e).answer) → ((s : S) (e : Event) → Fits s → Fits (f s e).state)
    → (s : S) → Fits s → (events : List Event) → answers_of f (g s) events ≡ answers_of f s events
answers-through f g Fits steps keeps s fits [] = refl
answers-through f g Fits steps keeps s fits (e ∷ rest) =
    ap (λ (n : Next _). n.answer ∷ answers_of f n.state rest) (steps s e fits)
    ∙ ap (λ (others : List Answer). (f s e).answer ∷ others) (answers-through f g Fits steps keeps (f s e).state (keeps s e fits) rest)

after-through : {S : Type 0} (f : S → Event → Next S) (g : S → S) (Fits : S → Type 0) → ((s : S) (e : Event) → Fits s → f (g s) e ≡ next (g (f s e).state) (f s e).answer) → ((s : S) (e : Event) → Fits s → Fits (f s e).state)
    → (s : S) → Fits s → (events : List Event) → afterwards f (g s) events ≡ g (afterwards f s events)
after-through f g Fits steps keeps s fits [] = refl
after-through f g Fits steps keeps s fits (e ∷ rest) =
    ap (λ (n : Next _). afterwards f n.state rest) (steps s e fits) ∙ after-through f g Fits steps keeps (f s e).state (keeps s e fits) rest

-- these settings have the list's members
abbrev pub Lists : List ℕ → Settings → Type 0
Lists l set = (n : ℕ) → is_in n l ≡ is_in n set.vendor

lists-as : (l : List ℕ) (a b : Settings) → b ≡ a → Lists l a → Lists l b
lists-as l a b e same n = same n ∙ ap (λ (set : Settings). is_in n set.vendor) (sym e)

pub lists-on : (l : List ℕ) (d : Transport) (e : Event) → Lists l d.settings → Lists l (step d e).state.settings
lists-on l d e same = lists-as l _ _ (same-settings d e.time e.disabled (read e.packet)) same

pub step-alike : (l : List ℕ) (d : Transport) (e : Event) → Lists l d.settings → step (relisted l d) e ≡ relisted_next l (step d e)
step-alike l d e h = hear-alike l d h e.time e.disabled (read e.packet)

pub run-alike : (set : Settings) (l : List ℕ) → Lists l set → (events : List Event) → run (fresh (listing l set)) events ≡ run (fresh set) events
run-alike set l same events =
    answers-through step (relisted l) (λ d. Lists l d.settings) (λ d e h. step-alike l d e h) (λ d e h. lists-on l d e h) (fresh set) same events

pub run-receiver-alike : (set : Settings) (l : List ℕ) → Lists l set → (events : List Event) → (afterwards step (fresh (listing l set)) events).receiver ≡ (afterwards step (fresh set) events).receiver
run-receiver-alike set l same events =
    ap (λ (d : Transport). d.receiver)
    (after-through step (relisted l) (λ d. Lists l d.settings) (λ d e h. step-alike l d e h) (λ d e h. lists-on l d e h) (fresh set) same events)

pub after-alike : (set : Settings) (l : List ℕ) → Lists l set → (past : List Event) → after standard (listing l set) past ≡ relisted l (after standard set past)
after-alike set l same [] = refl
after-alike set l same (e ∷ past) =
    let d : Transport = after standard set past in
    ap (λ (x : Transport). (step x e).state) (after-alike set l same past)
    ∙ ap (λ (n : Next Transport). n.state) (hear-alike l d (lists-as l _ _ (settings-after set past) same) e.time e.disabled (read e.packet))

-- and each answer after any history
pub answer-alike : (set : Settings) (l : List ℕ) → Lists l set → (past : List Event) (e : Event) → answer standard (listing l set) past e ≡ answer standard set past e
answer-alike set l same past e =
    let d : Transport = after standard set past in
    ap (λ (x : Transport). (step x e).answer) (after-alike set l same past)
    ∙ ap (λ (n : Next Transport). n.answer) (hear-alike l d (lists-as l _ _ (settings-after set past) same) e.time e.disabled (read e.packet))

-- ---- and the device
device-stays : (o : Device) (e : Event) → (device_step o e).state.transport ≡ (step o.transport e).state
device-stays o e = same-transport e.time o.wink (step o.transport e).state (step o.transport e).answer

module _ (l : List ℕ) where
  pub leads : (o : Device) (e : Event) → Lists l o.transport.settings → device_step (relisted_device l o) e ≡ relisted_leads l (device_step o e)
  leads o e h =
      ap (λ (n : Next Transport). answered e.time o.wink n.state n.answer) (step-alike l o.transport e h)
      ∙ answered-alike l e.time o.wink (step o.transport e).state (step o.transport e).answer

  pub leads-on : (o : Device) (e : Event) → Lists l o.transport.settings → Lists l (device_step o e).state.transport.settings
  leads-on o e h = lists-as l _ _ (ap (λ (d : Transport). d.settings) (device-stays o e)) (lists-on l o.transport e h)

pub only-members-count : OnlyMembersCount
only-members-count set l same events =
    answers-through device_step (relisted_device l) (λ o. Lists l o.transport.settings) (λ o e h. leads l o e h) (λ o e h. leads-on l o e h) (set_up set) same events

pub device-receiver-alike : (set : Settings) (l : List ℕ) → Lists l set → (events : List Event) → (afterwards device_step (set_up (listing l set)) events).transport.receiver ≡ (afterwards device_step (set_up set) events).transport.receiver
device-receiver-alike set l same events =
    ap (λ (o : Device). o.transport.receiver)
    (after-through device_step (relisted_device l) (λ o. Lists l o.transport.settings) (λ o e h. leads l o e h) (λ o e h. leads-on l o e h) (set_up set) same events)
