-- The number of continuation packets still due is what is outstanding: by induction over the events, with the state, the transaction and the data fields still
-- to come held general. Assumes nothing.
use Prim.Native.Nat.{ℕ, suc, ◌+◌, ◌*◌, ◌≤◌, ◌<◌}
use native.Mathlib.Omega.{arith}
use mathlib.Core.Path.{◌≡◌, refl, ap, sym, subst, ◌∙◌}
use mathlib.Core.List.{List, [], ◌∷◌, ◌++◌, flatten, append_assoc, append-nil}
use mathlib.Core.Bool.{true, false, true≢false}
use mathlib.Core.Logic.{◌⊎◌, inl, inr, ⊎_elim}
use lib.ListN.{length, take, length-append}
use Rattle.ctaphid.specs.Packets.{Packet, continuation, read, written}
use Rattle.ctaphid.specs.Messages.{numbered}
use Rattle.ctaphid.specs.Limits.{timeout}
use Rattle.ctaphid.specs.Settings.{Settings}
use Rattle.ctaphid.specs.Receiver.{Transaction, idle, busy, Reception, whole, Turn, channel_of, receive, still_due}
use Rattle.ctaphid.specs.Transport.{Transport, Event, Answer, nothing, Next, next, broadcast, is_allocated, is_valid, is_locked_against, is_shut, with_receiver, settle, settled, hear, step, afterwards}
use Rattle.ctaphid.specs.Demands.{standard, latest, after, on, Sent, Hushed, Ends, Message, number_of, handed_out}
use Rattle.ctaphid.specs.StillDue.{Fields, due_next, completed, AllHushed, DueIsOutstanding, DueStays}
use Rattle.ctaphid.proofs.Tests.{pick_known, pick-both}
use Rattle.ctaphid.proofs.Packets.{read-written}
use Rattle.ctaphid.proofs.Transport.{hear-invalid}
use Rattle.ctaphid.proofs.Invariant.{Receives, Runs, Holds}
use Rattle.ctaphid.proofs.Steps.{grown, receive-more, receive-last, allocated-most, allocated-valid, unlocked-for, still-unlocked, let_through, served, Handed, handed, dispatched, Same, other-same}
use Rattle.ctaphid.proofs.Histories.{on_read, settings-after, holds_after}

-- ---- what holds of a device in the midst of a transaction, at a time
pub record Midst (d : Transport) (t : Transaction) (now : ℕ) : Type 0 where
  pub busied : d.receiver ≡ busy t
  pub small : t.channel < broadcast
  pub allocated : is_allocated d.allocated t.channel ≡ true
  pub unlocked : is_locked_against d.lock t.channel now ≡ false
  pub bytes : length t.collected ≡ 57 + 59 * t.due
  pub below : length t.collected < t.declared
  pub large : t.declared ≤ 7609

still : (d : Transport) (t : Transaction) (now time : ℕ) → now ≤ time → Midst d t now → Midst d t time
still d t now time onward k =
    record {
      busied = k.busied;
      small = k.small;
      allocated = k.allocated;
      unlocked = still-unlocked d.lock t.channel now time onward k.unlocked;
      bytes = k.bytes;
      below = k.below;
      large = k.large;
    }

-- ---- the events, one at a time

-- the next event has the packet that is due, or another channel's
record IsDue (t : Transaction) (field : List ℕ) (e : Event) : Type 0 where
  packet : e.packet ≡ written (continuation t.channel t.due field)
  enabled : e.disabled ≡ false
  live : e.time < t.deadline

abbrev Own : Transaction → List ℕ → List (List ℕ) → Event → List Event → Type 0
Own t field rest e events = IsDue t field e × Sent t.channel (e.time + timeout) e.time (due_next (grown t e.time field) rest) events

abbrev Another : Transaction → List (List ℕ) → Event → List Event → Type 0
Another t fields e events = (on e ≡ t.channel → ⊥) × Sent t.channel t.deadline e.time (due_next t fields) events

abbrev Comes : Transaction → (now : ℕ) → List (List ℕ) → List Event → Type 0
Comes t now fields events = Sent t.channel t.deadline now (due_next t fields) events

first-comes : (t : Transaction) (now : ℕ) (field : List ℕ) (rest : List (List ℕ)) (e : Event) (events : List Event) → Comes t now (field ∷ rest) (e ∷ events) → (now ≤ e.time) × (Own t field rest e events ⊎ Another t (field ∷ rest) e events)
unfolding numbered
first-comes t now field rest e events w =
    (w.1, ⊎_elim (λ o. inl (record { packet = o.0; enabled = o.1; live = o.2 }, o.3)) inr w.2)

-- where packets are to come there are events, and where there are events packets are to come
pub none-due : (t : Transaction) (now : ℕ) (fields : List (List ℕ)) → Comes t now fields [] → length fields ≡ 0
unfolding numbered
none-due t now [] w = refl
none-due t now (field ∷ rest) w = let z : ◌≡◌ {A = ℕ} 0 1 = cc in absurd (omega arith)

pub some-due : (t : Transaction) (now : ℕ) (fields : List (List ℕ)) (e : Event) (events : List Event) → Comes t now fields (e ∷ events) → 0 < length fields
unfolding numbered
some-due t now [] e events w = absurd w
some-due t now (field ∷ rest) e events w = omega arith

-- while a packet is still to come, the deadline is not reached
soon : (t : Transaction) (now : ℕ) (field : List ℕ) (rest : List (List ℕ)) (events : List Event) → Comes t now (field ∷ rest) events → now < t.deadline
soon t now field rest [] w = absurd (omega (arith, none-due t now (field ∷ rest) w))
soon t now field rest (e ∷ events) w =
    let s = first-comes t now field rest e events w in
    ⊎_elim (λ o. omega (arith, s.0, o.0.live)) (λ o. omega (arith, s.0, soon t e.time field rest events o.1)) s.1

-- ---- one event

-- a packet that is due, and not the last, is taken: nothing is said, and one fewer is due
record Goes (d : Transport) (t : Transaction) (e : Event) (field : List ℕ) : Type 0 where
  stepped : step d e ≡ next (with_receiver d (busy (grown t e.time field))) nothing
  one_less : still_due (busy (grown t e.time field)) + 1 ≡ still_due (busy t)
  midst : Midst (with_receiver d (busy (grown t e.time field))) (grown t e.time field) e.time

module _ (d : Transport) (t : Transaction) (now : ℕ) (k : Midst d t now) (e : Event) (onward : now ≤ e.time) where
  module _ (field : List ℕ) (size : length field ≡ 59) (o : IsDue t field e) where
    abbrev p : Packet
    p = continuation t.channel t.due field

    sum : length (t.collected ++ field) ≡ 57 + 59 * t.due + 59
    sum = simp (length-append, k.bytes, size)

    reads : read e.packet ≡ p
    reads = ap read o.packet ∙ read-written p (omega (arith, k.small), omega (arith, k.bytes, k.below, k.large), size)

    own-step : (x : Turn) → receive d.settings e.time (busy t) p ≡ x → step d e ≡ settled d e.time t.channel x
    own-step x q =
        simp (o.enabled, reads)
        (let_through d e.time p (allocated-valid d.allocated p k.small k.allocated) (still-unlocked d.lock t.channel now e.time onward k.unlocked)
        ∙ served d e.time p x (simp k.busied q))

    -- the last
    last_step : still_due (busy t) ≡ 1 → step d e ≡ settle (with_receiver d idle) e.time t.channel (whole t.channel t.command (take t.declared (t.collected ++ field)))
    last_step h = own-step _ (receive-last d.settings e.time t o.live field (omega (arith, sum, h, k.bytes)))

    -- one that is not the last
    due-step : 1 < still_due (busy t) → Goes d t e field
    unfolding settle
    due-step h =
        let more : length (t.collected ++ field) < t.declared = omega (arith, sum, h) in
        record {
          stepped = own-step _ (receive-more d.settings e.time t o.live field more);
          one_less = omega (arith, h);
          midst = record {
            busied = refl;
            small = k.small;
            allocated = k.allocated;
            unlocked = still-unlocked d.lock t.channel now e.time onward k.unlocked;
            bytes = omega (arith, sum);
            below = more;
            large = k.large;
          };
        }

  -- a packet of another channel
  others : (on e ≡ t.channel → ⊥) → e.time < t.deadline → Same d (step d e)
  others h live = other-same d e.time e.disabled (read e.packet) t k.busied live (λ o. h (sym (on_read e) ∙ o))

pub hush-nothing : (c : ℕ) (e : Event) → Hushed c e nothing
hush-nothing c e = record { own = λ i. refl; other = λ i a. a }

hush-other : (c : ℕ) (e : Event) → (on e ≡ c → ⊥) → {d : Transport} {n : Next Transport} → Same d n → Hushed c e n.answer
hush-other c e h same = record { own = λ i. absurd (h i); other = λ i. same.hushed }

-- ---- fewer than are due

-- from a state on: all events are hushed, and then so many fewer are due than were
abbrev Waits : (channel due fewer : ℕ) → List Event → Transport → Type 0
Waits c due fewer events d = AllHushed d c events × (still_due (afterwards step d events).receiver + fewer ≡ due)

fewer : (events : List Event) (d : Transport) (t : Transaction) (now : ℕ) (fields : List (List ℕ)) → Midst d t now → Fields fields → Comes t now fields events
    → length fields < still_due (busy t) → Waits t.channel (still_due (busy t)) (length fields) events d
fewer [] d t now [] k sizes w h = (tt, simp k.busied (omega arith))
fewer [] d t now (field ∷ rest) k sizes w h = absurd (omega (arith, none-due t now (field ∷ rest) w))
fewer (e ∷ events) d t now [] k sizes w h = absurd (omega (arith, some-due t now [] e events w))
fewer (e ∷ events) d t now (field ∷ rest) k sizes w h =
    let s = first-comes t now field rest e events w in
    ⊎_elim
    (λ (o : Own t field rest e events).
    let more : 1 < still_due (busy t) = omega arith in
    let is = due-step d t now k e s.0 field sizes.0 o.0 more in
    let q = fewer events _ (grown t e.time field) e.time rest is.midst sizes.1 o.1 (omega (arith, is.one_less)) in
    subst (λ (n : Next Transport). (Hushed t.channel e n.answer × AllHushed n.state t.channel events) × (still_due (afterwards step n.state events).receiver + suc (length rest) ≡ still_due (busy t)))
    (sym is.stepped) ((hush-nothing t.channel e, q.0), omega (arith, q.1, is.one_less)))
    (λ (o : Another t (field ∷ rest) e events).
    let same : Same d (step d e) = others d t now k e s.0 o.0 (soon t e.time field rest events o.1) in
    let q = subst (Waits t.channel (still_due (busy t)) (suc (length rest)) events) (sym same.state) (fewer events d t e.time (field ∷ rest) (still d t now e.time s.0 k) sizes o.1 h) in
    ((hush-other t.channel e o.0 same, q.0), q.1))
    s.1

-- ---- as many as are due

-- a data field more of the transaction, or the first of those to come
completed-grown : (t : Transaction) (time : ℕ) (field : List ℕ) (rest : List (List ℕ)) → completed (grown t time field) rest ≡ completed t (field ∷ rest)
unfolding flatten
completed-grown t time field rest = ap (take t.declared) (append_assoc t.collected field (flatten rest))

completed-last : (t : Transaction) (field : List ℕ) → take t.declared (t.collected ++ field) ≡ completed t (field ∷ [])
unfolding flatten
completed-last t field = ap (λ (l : List ℕ). take t.declared (t.collected ++ l)) (sym (append-nil field))

-- a step, and what is to be shown of it and of the events after it
abbrev pub Then : ℕ → Answer → Event → Event → List Event → Next Transport → Type 0
Then c a e f events n = Hushed c e n.answer × Ends standard n.state c a (f ∷ events)

module _ (m : Message) where
  -- the last packet
  last : (d : Transport) (t : Transaction) (now : ℕ) → Midst d t now → Handed d.settings m → t.command ≡ number_of m → (e : Event) → now ≤ e.time → (field : List ℕ) → length field ≡ 59 → IsDue t field e
      → still_due (busy t) ≡ 1 → (step d e).answer ≡ handed_out m t.channel (completed t (field ∷ []))
  unfolding settle
  last d t now k ok command e onward field size o h =
      let told : whole t.channel t.command (take t.declared (t.collected ++ field)) ≡ whole t.channel (number_of m) (completed t (field ∷ [])) =
      (λ i. whole t.channel (command i) (completed-last t field i)) in
      ap (λ (n : Next Transport). n.answer)
      (last_step d t now k e onward field size o h
      ∙ ap (λ (b : Reception). settle (with_receiver d idle) e.time t.channel b) told
      ∙ dispatched (with_receiver d idle) e.time t.channel m (completed t (field ∷ [])) ok)

  abbrev Goal : Transport → Transaction → List (List ℕ) → List Event → Type 0
  Goal d t fields events = Ends standard d t.channel (handed_out m t.channel (completed t fields)) events

  pub all : (events : List Event) (d : Transport) (t : Transaction) (now : ℕ) (fields : List (List ℕ)) → Midst d t now → Handed d.settings m → t.command ≡ number_of m → Fields fields → Comes t now fields events
      → length fields ≡ still_due (busy t) → Goal d t fields events
  all events d t now [] k ok command sizes w h = absurd (omega (arith, h, k.bytes, k.below))
  all [] d t now (field ∷ rest) k ok command sizes w h = absurd (omega (arith, none-due t now (field ∷ rest) w))
  all (e ∷ []) d t now (field ∷ []) k ok command sizes w h =
      let s = first-comes t now field [] e [] w in
      ⊎_elim (λ (o : Own t field [] e []). last d t now k ok command e s.0 field sizes.0 o.0 (sym h)) (λ (o : Another t (field ∷ []) e []). absurd (omega (arith, none-due t e.time (field ∷ []) o.1))) s.1
  all (e ∷ []) d t now (field ∷ (g ∷ rest)) k ok command sizes w h =
      let s = first-comes t now field (g ∷ rest) e [] w in
      ⊎_elim (λ (o : Own t field (g ∷ rest) e []). absurd (omega (arith, none-due (grown t e.time field) e.time (g ∷ rest) o.1))) (λ (o : Another t (field ∷ (g ∷ rest)) e []). absurd (omega (arith, none-due t e.time (field ∷ (g ∷ rest)) o.1))) s.1
  all (e ∷ (f ∷ events)) d t now (field ∷ rest) k ok command sizes w h =
      let s = first-comes t now field rest e (f ∷ events) w in
      ⊎_elim
      (λ (o : Own t field rest e (f ∷ events)).
      let more : 1 < still_due (busy t) = omega (arith, h, some-due (grown t e.time field) e.time rest f events o.1) in
      let is = due-step d t now k e s.0 field sizes.0 o.0 more in
      let q = all (f ∷ events) _ (grown t e.time field) e.time rest is.midst ok command sizes.1 o.1 (omega (arith, h, is.one_less)) in
      subst (λ (n : Next Transport). Then t.channel (handed_out m t.channel (completed t (field ∷ rest))) e f events n) (sym is.stepped)
      (hush-nothing t.channel e, subst (λ (l : List ℕ). Ends standard (with_receiver d (busy (grown t e.time field))) t.channel (handed_out m t.channel l) (f ∷ events)) (completed-grown t e.time field rest) q))
      (λ (o : Another t (field ∷ rest) e (f ∷ events)).
      let same : Same d (step d e) = others d t now k e s.0 o.0 (soon t e.time field rest (f ∷ events) o.1) in
      let q = all (f ∷ events) d t e.time (field ∷ rest) (still d t now e.time s.0 k) ok command sizes o.1 h in
      (hush-other t.channel e o.0 same, subst (λ (x : Transport). Goal x t (field ∷ rest) (f ∷ events)) (sym same.state) q))
      s.1

-- ---- after any history
pub due-is-outstanding : DueIsOutstanding
due-is-outstanding set permitted past taken t under fields sizes events sent =
    let d : Transport = after standard set past in
    let same : d.settings ≡ set = settings-after set past in
    let holds : Holds d (latest past) = holds_after set past taken in
    let runs : Runs d.settings.maximum d.allocated (latest past) t = subst (Receives d.settings.maximum d.allocated (latest past)) under.busied holds.receiver in
    let k : Midst d t (latest past) =
    record {
      busied = under.busied;
      small = omega (arith, allocated-most d.allocated t.channel under.allocated, holds.count);
      allocated = under.allocated;
      unlocked = unlocked-for d.lock t.channel (latest past) under.unlocked;
      bytes = runs.bytes;
      below = runs.below;
      large = omega (arith, runs.most, ap (λ (x : Settings). x.maximum) same, permitted.most);
    } in
    record {
      some = omega (arith, k.bytes, k.below);
      all = λ h m allowed command. all m events d t (latest past) fields k (simp same (handed set permitted m allowed)) command sizes sent h;
      fewer = λ h. let w = fewer events d t (latest past) fields k sizes sent h in (w.0, omega (arith, w.1));
    }

-- ---- what leaves it as it is
pub due-stays : (d : Transport) (e : Event) → DueStays d e
unfolding hear
due-stays d e =
    record {
      other = λ t r live h. ap (λ (x : Transport). still_due x.receiver) (other-same d e.time e.disabled (read e.packet) t r live (λ o. h (sym (on_read e) ∙ o))).state;
      invalid = λ off. ap (λ (n : Next Transport). still_due n.state.receiver) (hear-invalid d e.time e.disabled (read e.packet) off);
      shut = λ on. pick-both (λ (n : Next Transport). still_due n.state.receiver ≡ still_due d.receiver) (is_valid d.allocated (read e.packet)) _ _
          (pick_known (λ (n : Next Transport). still_due n.state.receiver ≡ still_due d.receiver) (is_shut d.lock e.time e.disabled (channel_of (read e.packet))) _ _ (λ q. refl) (λ q. absurd (true≢false (sym on ∙ q))))
          refl;
    }
