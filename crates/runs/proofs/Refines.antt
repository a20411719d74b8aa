-- The code's steps refine the standard's, and keep the state sound. Assumes nothing.
use Prim.Native.Nat.{ℕ, ◌+◌, ◌≤◌, ◌<◌}
use native.Mathlib.Omega.{arith}
use mathlib.Core.Path.{◌≡◌, refl, sym, ap, subst, ◌∙◌}
use mathlib.Core.List.{List, []}
use mathlib.Core.Bool.{Bool, true, false, not, cond, true≢false}
use borrow.Author.Tests.{eq-eqb, ne_eqb, eqb-false, le-ltb}
use lib.Dec.{eqb, ltb}
use lib.ListN.{length, take, drop, get_or, length-append, length-drop}
use lib.Seq.{length-take-le, take_at}
use Rattle.ctaphid.specs.Choice.{pick}
use Rattle.ctaphid.specs.Limits.{last_time, packet_size}
use Rattle.ctaphid.specs.Commands.{Command, MSG, CBOR, INIT, PING, CANCEL, ERROR, KEEPALIVE, WINK, LOCK, VENDOR, number, command_of}
use Rattle.ctaphid.specs.Packets.{Packet, initialization, continuation, read, Formed}
use Rattle.ctaphid.specs.Settings.{Settings, listing, knows}
use Rattle.ctaphid.specs.Receiver.{Receiver, idle, busy, Reception, silent, fault, whole, Turn, channel_of, receive}
use Rattle.ctaphid.specs.Transport as standard
use Rattle.ctaphid.specs.Transport.{Transport, Event, Next, nothing, reply, request, is_valid, not_valid, is_shut, on_init, on_lock, obey, dispatch, settle, with_receiver, serve, hear, step, fresh}
use Rattle.ctaphid.specs.Demands.{Permitted}
use Rattle.ctaphid.specs.Device.{Device, device, on_wink, on_msg, on_request, answered as answered_above, device_step}
use Rattle.ctaphid.proofs.Tests.{pick_known, pick-both, both-pick}
use Rattle.ctaphid.proofs.Refusing.{none-refuse, Passed}
use Rattle.ctaphid.proofs.Packets.{read-formed}
use Rattle.ctaphid.proofs.Device.{same-transport}
use Rattle.ctaphid.proofs.Listing.{Lists}
use Rattle.ctaphid.proofs.Invariant as invariant
use Rattle.ctaphid.proofs.Invariant.{Holds, Tells, turns-valid, holds_later, holds-hear, keeps-dispatch, same-settings}
use Rattle.packet.specs.Numbers.{command_case}
use Rattle.packet.proofs.Numbers.{meant-case}
use Rattle.collect.specs.Adding.{front}
use Rattle.receive.specs.Meaning.{transaction_of, receiver_of, assembler_of}
use Rattle.receive.specs.Assembler as receive
use Rattle.receive.specs.Assembler.{buffer_of, buffered}
use Rattle.answers.specs.declared.Answer.TheVariants.{Refused, Echo, Reply}
use Rattle.answers.specs.Answers.{is_echo, answer_of, replied, answered, said}
use Rattle.hid.specs.declared.CtapHid.{CtapHid}
use Rattle.hid.specs.declared.MainHid.{MainHid}
use Rattle.hid.specs.Meaning.{settings_of, transport_of, device_of, state_of}
use Rattle.hid.specs.Soundness.{Placed, Sound}
use Rattle.known.specs.Vendor.{vendor_of, all_vendor, bits_of}
use Rattle.hid.specs.declared.Ready.TheVariants as ready
use Rattle.hid.specs.declared.MainReady.TheVariants as main_ready
use Rattle.hid.specs.SetUp.{set_up_refusals, new_of, main_new_of}
use Rattle.hid.specs.State.{served_of}
use Rattle.hid.specs.Hearing.{Stepping, stepping, message_after, heard_of}
use Rattle.hid.specs.Refusals.{refusals}
use Rattle.hid.specs.Transport.{admitted_of}
use Rattle.hid.specs.MainHid.{MainStepping, main_stepping, main_heard_of, main_step_of}
use Rattle.known.proofs.Bits.{all-vendor-of, leaves-just-the-list}
use Rattle.hid.proofs.Counting.{due-0, due-back}
use Rattle.hid.proofs.Sound.{is-sound}
use Rattle.hid.proofs.Heard.{holds-is}
use Rattle.hid.proofs.Finishing.{replied-long}
use Rattle.runs.specs.Steps.{Buffers, from_settings, main_from_settings, on_event, main_on_event, Refines, MainRefines, Comes, Roomy, StepRefines, SoundStays, MainStepRefines, MainSoundStays, SetUpTaken}

-- ---- the meaning of the numbers for a receiver is that receiver, where its bytes stand in the buffer
abbrev Stands : Receiver → List ℕ → Type 0
Stands idle m = Unit {0}
Stands (busy t) m = (0 < t.declared) × (take (length t.collected) m ≡ t.collected)

receiver-back : (rcv : Receiver) (m : List ℕ) → Stands rcv m → receiver_of (assembler_of rcv) m ≡ rcv
unfolding receiver_of pick
receiver-back idle m h = refl
receiver-back (busy t) m h =
    let back : busy (transaction_of (assembler_of (busy t)) m) ≡ busy t =
    λ i. busy (record { channel = t.channel; command = t.command; declared = t.declared; collected = h.1 i; due = t.due; deadline = t.deadline }) in
    simp (ne_eqb t.declared 0 (λ z. absurd (omega (arith, h.0)))) back

-- payloads stand at the front
at_front : (payload m : List ℕ) → take (length payload) (front payload m) ≡ payload
at_front payload m = take_at payload (drop (length payload) m) (length payload) refl

stands-buffered : (max n time : ℕ) (rcv : Receiver) (b : Reception) (m : List ℕ) → invariant.Receives max n time rcv → Stands rcv (buffer_of rcv b m)
stands-buffered max n time idle b m h = tt
stands-buffered max n time (busy t) b m h = (omega (arith, h.below), at_front t.collected m)

-- what a sound state means stands there already
stands-already : (s : CtapHid) (wink : ℕ) (m : List ℕ) → Sound s wink → s.max ≤ length m → Stands (receiver_of s.assembler m) m
unfolding receiver_of
stands-already s wink m h room =
    pick_known (λ (r : Receiver). Stands r m) (eqb s.assembler.len 0) _ _
    (λ e. tt)
    (λ e.
    let t = h.transaction (eqb-false s.assembler.len 0 e) in
    let size : length (take s.assembler.taken m) ≡ s.assembler.taken = length-take-le s.assembler.taken m (omega (arith, t.lengths.below, t.lengths.bytes, t.lengths.within)) in
    (omega (arith, t.lengths.long), ap (λ (n : ℕ). take n m) size))

-- ---- an answer's payload is where the code says, and no longer than the maximum

-- so of a payload that is echoed or handed out
abbrev pub Carried : (P : List ℕ → Type 0) → standard.Answer → Type 0
Carried P nothing = Unit {0}
Carried P (reply c k payload) = is_echo k ≡ true → P payload
Carried P (request c k payload) = P payload

abbrev pub Lies : (max : ℕ) → (m payload : List ℕ) → Type 0
Lies max m payload = (take (length payload) m ≡ payload) × (length payload ≤ max)

pub said-back : (max : ℕ) (a : standard.Answer) (m r : List ℕ) → Carried (Lies max m) a → said (answer_of a) m (replied a r) ≡ answered a
said-back max nothing m r h = refl
said-back max (reply c k payload) m r h = by_kind (is_echo k) h
  where
    by_kind : (b : Bool) → (b ≡ true → Lies max m payload)
        → said (cond b (Echo c (command_case k) (length payload)) (Reply c (command_case k) (length payload))) m (cond b r (front payload r)) ≡ answered (reply c k payload)
    by_kind true f = rw (meant-case k) (ap (λ (y : List ℕ). answered (reply c k y)) (f refl).0)
    by_kind false f = rw (meant-case k) (ap (λ (y : List ℕ). answered (reply c k y)) (at_front payload r))
said-back max (request c k payload) m r h = rw (meant-case k) (ap (λ (y : List ℕ). answered (request c k y)) h.0)

pub no-echo : {A : Type 0} → false ≡ true → A
no-echo e = absurd (true≢false (sym e))

-- what holds of a whole message holds of what is carried
module _ (P : List ℕ → Type 0) where
  abbrev Carries : {S : Type 0} → Next S → Type 0
  Carries n = Carried P n.answer

  carried-obey : (d : Transport) (time c : ℕ) (k : Command) (payload : List ℕ) → P payload → Carries (obey d time c k payload)
  unfolding obey on_init on_lock
  carried-obey d time c MSG payload h = h
  carried-obey d time c CBOR payload h = h
  carried-obey d time c INIT payload h = pick-both Carries (eqb (length payload) 8) _ _ (pick-both Carries (eqb c 0xffff_ffff) _ _ no-echo no-echo) no-echo
  carried-obey d time c PING payload h = λ e. h
  carried-obey d time c CANCEL payload h = tt
  carried-obey d time c ERROR payload h = tt
  carried-obey d time c KEEPALIVE payload h = tt
  carried-obey d time c WINK payload h = h
  carried-obey d time c LOCK payload h = pick-both Carries (eqb (length payload) 1) _ _ (pick-both Carries (ltb 10 (get_or payload 0 0)) _ _ no-echo no-echo) no-echo
  carried-obey d time c (VENDOR n) payload h = h

  carried-dispatch : (d : Transport) (time c : ℕ) (k : Command) (payload : List ℕ) → P payload → Carries (dispatch d time c k payload)
  unfolding dispatch
  carried-dispatch d time c k payload h = pick-both Carries (knows d.settings k) _ _ (carried-obey d time c k payload h) no-echo

  carried-not-valid : (p : Packet) → Carried P (not_valid p)
  carried-not-valid (initialization c cmd n field) = no-echo
  carried-not-valid (continuation c k field) = tt

  pub carried-above : (time wink : ℕ) (d : Transport) (a : standard.Answer) → P [] → Carried P a → Carried P (answered_above time wink d a).answer
  unfolding answered_above on_request on_wink on_msg
  carried-above time wink d nothing empty h = tt
  carried-above time wink d (reply c k payload) empty h = h
  carried-above time wink d (request c k payload) empty h =
      pick-both Carries (eqb (number k) 8) _ _ (pick-both Carries (eqb (length payload) 0) _ _ (λ e. empty) no-echo) (pick-both Carries (eqb (number k) 3) _ _ (pick-both Carries d.settings.u2f _ _ h no-echo) h)

carried-settle : (d : Transport) (max n time c : ℕ) (rcv : Receiver) (b : Reception) (m : List ℕ) → Tells max n rcv b → Carried (Lies max (buffer_of rcv b m)) (settle (with_receiver d rcv) time c b).answer
unfolding settle
carried-settle d max n time c rcv silent m h = tt
carried-settle d max n time c rcv (fault e) m h = no-echo
carried-settle d max n time c idle (whole own cmd payload) m h = carried-dispatch (Lies max (front payload m)) (with_receiver d idle) time own (command_of cmd) payload (at_front payload m, h.1)
carried-settle d max n time c (busy t) (whole own cmd payload) m h = absurd (omega (arith, ap is_busy h.0))
  where
    is_busy : Receiver → ℕ
    is_busy idle = 0
    is_busy (busy u) = 1

-- serving a message leaves the receiver as it is
same-receiver : (d : Transport) (time c : ℕ) (b : Reception) → (settle d time c b).state.receiver ≡ d.receiver
unfolding settle
same-receiver d time c silent = refl
same-receiver d time c (fault e) = refl
same-receiver d time c (whole own cmd payload) =
    keeps-dispatch (λ (y : Transport). y.receiver ≡ d.receiver) d time own payload refl (command_of cmd) (λ e. refl) (λ e h. refl)

-- ---- both, for a packet that is heard
module _ (s : CtapHid) (wink time : ℕ) (disabled : Bool) (p : Packet) (m : List ℕ) (sound : Sound s wink) (room : s.max ≤ length m) (later : s.last ≤ time) (formed : Formed p) where
  abbrev d : Transport
  d = transport_of s m

  holds : Holds d time
  holds = holds_later d s.last time later (holds-is s wink m sound room)

  abbrev Right : Next Transport → List ℕ → Type 0
  Right n m' = Stands n.state.receiver m' × Carried (Lies s.max m') n.answer

  served-right : is_valid s.allocated p ≡ true → Right (serve d time p) (buffered (receive (settings_of s) time (receiver_of s.assembler m) p) m)
  served-right valid =
      let t : Turn = receive (settings_of s) time (receiver_of s.assembler m) p in
      let ts = turns-valid d time p holds formed valid in (
        subst (λ (y : Receiver). Stands y (buffered t m)) (sym (same-receiver (with_receiver d t.receiver) time (channel_of p) t.reception)) (stands-buffered s.max s.allocated time t.receiver t.reception m ts.receives),
        carried-settle d s.max s.allocated time (channel_of p) t.receiver t.reception m ts.tells,
      )

  pub heard-right : Right (hear d time disabled p) (message_after s time disabled p m)
  unfolding hear message_after
  heard-right =
      both-pick Right (is_valid s.allocated p) _ _ _ _
      (λ valid. both-pick Right (is_shut d.lock time disabled (channel_of p)) _ _ _ _ (λ e. (already, no-echo)) (λ e. served-right valid))
      (λ valid. (already, carried-not-valid (Lies s.max m) p))
    where
      already : Stands d.receiver m
      already = stands-already s wink m sound room

  -- the state means what the standard's step leads to
  state-back : transport_of (state_of s time (hear d time disabled p).state) (message_after s time disabled p m) ≡ (hear d time disabled p).state
  state-back =
      let n : Transport = (hear d time disabled p).state in
      let set : settings_of s ≡ n.settings = sym (same-settings d time disabled p) in
      let back : receiver_of (assembler_of n.receiver) (message_after s time disabled p m) ≡ n.receiver = receiver-back n.receiver (message_after s time disabled p m) heard-right.0 in
      λ i. record { settings = set i; allocated = n.allocated; lock = n.lock; receiver = back i }

  -- and is sound
  abbrev SoundAs : (rcv : Receiver) (max n : ℕ) → Type 0
  SoundAs rcv max n =
      ((assembler_of rcv).deadline ≤ time + 100)
      × (((assembler_of rcv).len ≡ 0 → ⊥) → receive.Sound (assembler_of rcv) max)
      × (((assembler_of rcv).len ≡ 0 → ⊥) → Placed n (assembler_of rcv))

  sound-of : (rcv : Receiver) (max n : ℕ) → invariant.Receives max n time rcv → SoundAs rcv max n
  sound-of idle max n h = (omega arith, λ z. absurd (z refl), λ z. absurd (z refl))
  sound-of (busy t) max n h = (
    h.deadline,
    λ z. record {
      command = h.command;
      lengths = record { long = omega (arith, h.below, h.bytes); within = h.most; below = omega (arith, h.below, h.bytes); bytes = sym h.bytes };
    },
    λ z. h.channel,
  )

  state-sound : (until : ℕ) → time ≤ 0xffff_ffff_ffff → until ≤ time + 5000 → Sound (state_of s time (hear d time disabled p).state) until
  state-sound until early winks =
      let n : Transport = (hear d time disabled p).state in
      let h : Holds n time = holds-hear d time disabled p holds formed in
      let k = sound-of n.receiver n.settings.maximum n.allocated h.receiver in
      record {
        maximum = sound.maximum;
        count = h.count;
        last = early;
        deadline = k.0;
        lock = h.lock;
        wink = winks;
        holder = h.holder;
        transaction = subst (λ (x : Settings). ((assembler_of n.receiver).len ≡ 0 → ⊥) → receive.Sound (assembler_of n.receiver) x.maximum) (same-settings d time disabled p) k.1;
        due = sym (due-back n.settings.maximum n.allocated time n.receiver h.receiver);
        channel = k.2;
      }

-- ---- the step
module _ (s : CtapHid) (wink : ℕ) (e : Event) (b : Buffers) (sound : Sound s wink) (comes : Comes s.last e) (roomy : Roomy s b) where
  none-refuses : Passed (refusals s wink e.time (length e.packet) (length b.message) (length b.short))
  none-refuses = (
    ap not (eq-eqb (length e.packet) packet_size comes.size),
    (
      le-ltb (length b.message) s.max roomy.message,
      (
        le-ltb (length b.short) 17 roomy.short,
        (
          ap not (is-sound s wink sound),
          (
            le-ltb last_time e.time comes.early,
            (
              le-ltb e.time s.last comes.later,
              tt,
            ),
          ),
        ),
      ),
    ),
  )

  formed : Formed (read e.packet)
  formed = read-formed e.packet comes.size comes.bytes

module _ (s : CtapHid) (e : Event) (b : Buffers) (sound : Sound s 0) (comes : Comes s.last e) (roomy : Roomy s b) where
  abbrev p : Packet
  p = read e.packet

  abbrev m : List ℕ
  m = b.message

  abbrev Heard : Stepping
  Heard = heard_of s e.time e.disabled p m b.short

  pub step_is : on_event s e b ≡ Heard
  unfolding admitted_of
  step_is = none-refuse (λ n. stepping (record { hid = s; answer = Refused n }) m b.short) (refusals s 0 e.time (length e.packet) (length m) (length b.short)) Heard (none-refuses s 0 e b sound comes roomy)

  refined : Refines Heard (step (transport_of s m) e)
  unfolding heard_of served_of
  refined = record {
    state = state-back s 0 e.time e.disabled p m sound roomy.message comes.later (formed s 0 e b sound comes roomy);
    answer = said-back s.max (step (transport_of s m) e).answer (message_after s e.time e.disabled p m) b.short (heard-right s 0 e.time e.disabled p m sound roomy.message comes.later (formed s 0 e b sound comes roomy)).1;
  }

  pub stays-sound : Sound Heard.stepped.hid 0
  unfolding heard_of served_of
  stays-sound = state-sound s 0 e.time e.disabled p m sound roomy.message comes.later (formed s 0 e b sound comes roomy) 0 comes.early (omega arith)

pub step-refines : StepRefines
step-refines s e b sound comes roomy = subst (λ (x : Stepping). Refines x (step (transport_of s b.message) e)) (sym (step_is s e b sound comes roomy)) (refined s e b sound comes roomy)

pub sound-stays : SoundStays
sound-stays s e b sound comes roomy = subst (λ (x : Stepping). Sound x.stepped.hid 0) (sym (step_is s e b sound comes roomy)) (stays-sound s e b sound comes roomy)

-- ---- set-up

-- the settings that a state means: those of set-up, with the list's members in their order
abbrev pub meant : Settings → Settings
meant set = listing (vendor_of (bits_of set.vendor)) set

pub fresh-means : (set : Settings) (m : List ℕ) → transport_of (from_settings set) m ≡ fresh (meant set)
unfolding receiver_of pick
fresh-means set m = ap (λ (b : Bool). fresh (record { maximum = set.maximum; u2f = b; vendor = vendor_of (bits_of set.vendor) })) (flag set.u2f)
  where
    flag : (b : Bool) → not (eqb (cond b 1 0) 0) ≡ b
    flag true = refl
    flag false = refl

pub permitted-all : (set : Settings) → Permitted set → all_vendor set.vendor ≡ true
permitted-all set p = all-vendor-of set.vendor p.vendor

pub same-members : (set : Settings) → Permitted set → Lists (vendor_of (bits_of set.vendor)) set
same-members set p = (leaves-just-the-list set.vendor (permitted-all set p)).members

set-up-sound : (set : Settings) → Permitted set → Sound (from_settings set) 0
set-up-sound set p =
    record {
      maximum = p.most;
      count = omega arith;
      last = omega arith;
      deadline = omega arith;
      lock = omega arith;
      wink = omega arith;
      holder = λ l. absurd (omega arith);
      transaction = λ z. absurd (z refl);
      due = due-0 (from_settings set).assembler refl;
      channel = λ z. absurd (z refl);
    }

pub set-up-taken : SetUpTaken
unfolding new_of main_new_of
set-up-taken set p =
    let none : Passed (set_up_refusals set.maximum set.vendor) = (le-ltb 7609 set.maximum p.most, (ap not (permitted-all set p), tt)) in
    record {
      transport = none-refuse ready.Refused (set_up_refusals set.maximum set.vendor) (ready.Hid (from_settings set)) none;
      device = none-refuse main_ready.Refused (set_up_refusals set.maximum set.vendor) (main_ready.Hid (main_from_settings set)) none;
      sound = set-up-sound set p;
    }

-- ---- the device's step
wink-bound : (time wink : ℕ) (d : Transport) (a : standard.Answer) → wink ≤ time + 5000 → (answered_above time wink d a).state.wink ≤ time + 5000
unfolding answered_above on_request on_wink on_msg
wink-bound time wink d nothing h = h
wink-bound time wink d (reply c k payload) h = omega arith
wink-bound time wink d (request c k payload) h =
    pick-both Right (eqb (number k) 8) _ _ (pick-both Right (eqb (length payload) 0) _ _ (omega arith) (omega arith)) (pick-both Right (eqb (number k) 3) _ _ (pick-both Right d.settings.u2f _ _ (omega arith) (omega arith)) (omega arith))
  where
    Right : Next Device → Type 0
    Right n = n.state.wink ≤ time + 5000

module _ (o : MainHid) (e : Event) (b : Buffers) (sound : Sound o.hid o.wink) (comes : Comes o.hid.last e) (roomy : Roomy o.hid b) where
  abbrev q : Packet
  q = read e.packet

  abbrev l : List ℕ
  l = b.message

  abbrev below : Next Transport
  below = step (transport_of o.hid l) e

  abbrev led : Next Device
  led = device_step (device_of o l) e

  abbrev kept : List ℕ
  kept = message_after o.hid e.time e.disabled q l

  abbrev MainHeard : MainStepping
  MainHeard = main_heard_of o e.time e.disabled q l b.short

  pub main-step-is : main_on_event o e b ≡ MainHeard
  unfolding main_step_of
  main-step-is = none-refuse (λ n. main_stepping (record { hid = o; answer = Refused n }) l b.short) (refusals o.hid o.wink e.time (length e.packet) (length l) (length b.short)) MainHeard (none-refuses o.hid o.wink e b sound comes roomy)

  same-below : led.state.transport ≡ below.state
  same-below = same-transport e.time o.wink below.state below.answer

  main-refined : MainRefines MainHeard led
  unfolding main_heard_of
  main-refined =
      let formed-is = formed o.hid o.wink e b sound comes roomy in
      let back : transport_of (state_of o.hid e.time led.state.transport) kept ≡ led.state.transport =
      ap (λ (x : Transport). transport_of (state_of o.hid e.time x) kept) same-below
      ∙ (state-back o.hid o.wink e.time e.disabled q l sound roomy.message comes.later formed-is ∙ sym same-below) in
      let right = (heard-right o.hid o.wink e.time e.disabled q l sound roomy.message comes.later formed-is).1 in
      record {
        state = λ i. device (back i) led.state.wink;
        answer = said-back o.hid.max led.answer kept b.short (carried-above (Lies o.hid.max kept) e.time o.wink below.state below.answer (refl, omega arith) right);
      }

  pub main-stays-sound : Sound MainHeard.stepped.hid.hid MainHeard.stepped.hid.wink
  unfolding main_heard_of
  main-stays-sound =
      subst (λ (x : Transport). Sound (state_of o.hid e.time x) led.state.wink) (sym same-below)
      (state-sound o.hid o.wink e.time e.disabled q l sound roomy.message comes.later (formed o.hid o.wink e b sound comes roomy) led.state.wink comes.early
      (wink-bound e.time o.wink below.state below.answer (omega (arith, sound.wink, comes.later))))

pub main-step-refines : MainStepRefines
main-step-refines o e b sound comes roomy =
    subst (λ (x : MainStepping). MainRefines x (device_step (device_of o b.message) e)) (sym (main-step-is o e b sound comes roomy)) (main-refined o e b sound comes roomy)

pub main-sound-stays : MainSoundStays
main-sound-stays o e b sound comes roomy =
    subst (λ (x : MainStepping). Sound x.stepped.hid.hid x.stepped.hid.wink) (sym (main-step-is o e b sound comes roomy)) (main-stays-sound o e b sound comes roomy)

-- ---- what a step leaves for the next

-- neither buffer gets shorter
front_long : (payload m : List ℕ) → length m ≤ length (front payload m)
front_long payload m = simp (length-append, length-drop) (omega arith)

buffered-long : (rcv : Receiver) (b : Reception) (m : List ℕ) → length m ≤ length (buffer_of rcv b m)
buffered-long (busy t) b m = front_long t.collected m
buffered-long idle silent m = omega arith
buffered-long idle (fault x) m = omega arith
buffered-long idle (whole c cmd payload) m = front_long payload m

pub kept-long : (s : CtapHid) (time : ℕ) (disabled : Bool) (p : Packet) (m : List ℕ) → length m ≤ length (message_after s time disabled p m)
unfolding message_after
kept-long s time disabled p m =
    pick-both Long (is_valid s.allocated p) _ _ (pick-both Long (is_shut (transport_of s m).lock time disabled (channel_of p)) _ _ (omega arith) (buffered-long t.receiver t.reception m)) (omega arith)
  where
    Long : List ℕ → Type 0
    Long x = length m ≤ length x

    t : Turn
    t = receive (settings_of s) time (receiver_of s.assembler m) p

pub record Leaves (s : CtapHid) (e : Event) (b : Buffers) (x : Stepping) : Type 0 where
  pub last : x.stepped.hid.last ≡ e.time
  pub max : x.stepped.hid.max ≡ s.max
  pub message : length b.message ≤ length x.message
  pub short : length b.short ≤ length x.reply

module _ (s : CtapHid) (e : Event) (b : Buffers) (sound : Sound s 0) (comes : Comes s.last e) (roomy : Roomy s b) where
  heard-leaves : Leaves s e b (Heard s e b sound comes roomy)
  unfolding heard_of served_of
  heard-leaves = record {
    last = refl;
    max = refl;
    message = kept-long s e.time e.disabled (read e.packet) b.message;
    short = replied-long (step (transport_of s b.message) e).answer b.short;
  }

  pub leaves : Leaves s e b (on_event s e b)
  leaves = subst (Leaves s e b) (sym (step_is s e b sound comes roomy)) heard-leaves

pub main-last : (o : MainHid) (e : Event) (b : Buffers) → Sound o.hid o.wink → Comes o.hid.last e → Roomy o.hid b → (main_on_event o e b).stepped.hid.hid.last ≡ e.time
unfolding main_heard_of
main-last o e b sound comes roomy = ap (λ (x : MainStepping). x.stepped.hid.hid.last) (main-step-is o e b sound comes roomy)
