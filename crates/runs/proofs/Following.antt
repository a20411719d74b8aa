-- The code follows the standard through a call, whichever buffers are lent for it. Assumes nothing.
use Prim.Native.Nat.{ℕ, ◌≤◌}
use native.Mathlib.Omega.{arith}
use native.Mathlib.Decide.{dec_le}
use mathlib.Core.Path.{◌≡◌, refl, sym, ap, subst, ◌∙◌}
use mathlib.Core.List.{List}
use borrow.Author.Tests.{le-leb, lt-leb, eqb-false}
use lib.Dec.{eqb}
use lib.ListN.{take}
use Rattle.ctaphid.specs.Choice.{pick}
use Rattle.ctaphid.specs.Packets.{read}
use Rattle.ctaphid.specs.Receiver.{Receiver, busy, still_due}
use Rattle.ctaphid.specs.Transport.{Transport, Event, Answer, Next, with_receiver, step}
use Rattle.ctaphid.specs.Device.{Device, answered as answered_above, above, device_step}
use Rattle.ctaphid.proofs.Tests.{both-pick}
use Rattle.ctaphid.proofs.Device.{Like, same-transport, by-settings}
use Rattle.ctaphid.proofs.Forgetting.{forgetting, forgotten, forgotten-later, forgetting-due, Alike, hears-alike}
use Rattle.receive.specs.Meaning.{transaction_of, receiver_of}
use Rattle.answers.specs.Answers.{answered}
use Rattle.hid.specs.declared.CtapHid.{CtapHid}
use Rattle.hid.specs.declared.MainHid.{MainHid}
use Rattle.hid.specs.Meaning.{transport_of}
use Rattle.hid.specs.Soundness.{Sound}
use Rattle.hid.specs.Hearing.{Stepping}
use Rattle.hid.specs.MainHid.{MainStepping}
use Rattle.hid.proofs.Counting.{due-any}
use Rattle.runs.specs.Steps.{Buffers, on_event, main_on_event, said_by, main_said_by, Comes}
use Rattle.runs.specs.Lending.{Lends}
use Rattle.runs.proofs.Refines.{step-refines, sound-stays, main-step-refines, main-sound-stays, leaves, main-last}

-- s and the message buffer as it was left mean d, but for the bytes of a transaction whose time is over
abbrev pub Means : (time : ℕ) → CtapHid → (message : List ℕ) → Transport → Type 0
Means time s m d = forgotten time (transport_of s m) ≡ forgotten time d

-- a buffer that is lent as it must be means the same as the one that was left
module _ (s : CtapHid) (time : ℕ) (left : List ℕ) (b : Buffers) (lends : Lends s time left b) where
  abbrev busied : (message : List ℕ) → Receiver
  busied m = busy (transaction_of s.assembler m)

  begun : (s.assembler.len ≡ 0 → ⊥) → forgetting time (busied b.message) ≡ forgetting time (busied left)
  unfolding forgetting pick
  begun some = by-time (dec_le s.assembler.deadline time)
    where
      by-time : Dec (s.assembler.deadline ≤ time) → forgetting time (busied b.message) ≡ forgetting time (busied left)
      by-time (yes over) = simp (le-leb s.assembler.deadline time over)
      by-time (no live) =
          let same : take s.assembler.taken b.message ≡ take s.assembler.taken left = lends.kept (record { begun = some; live = omega arith }) in
          simp (lt-leb s.assembler.deadline time (omega arith))
          (λ i. busy (record { channel = s.assembler.cid; command = s.assembler.cmd; declared = s.assembler.len; collected = same i; due = s.assembler.seq; deadline = s.assembler.deadline }))

  same-receiver : forgetting time (receiver_of s.assembler b.message) ≡ forgetting time (receiver_of s.assembler left)
  unfolding receiver_of
  same-receiver =
      both-pick (λ (x y : Receiver). forgetting time x ≡ forgetting time y) (eqb s.assembler.len 0) _ _ _ _
      (λ e. refl)
      (λ e. begun (eqb-false s.assembler.len 0 e))

  same-meaning : Means time s b.message (transport_of s left)
  same-meaning = ap (with_receiver (transport_of s left)) same-receiver

-- and tells the same number of packets still due, whatever was forgotten
pub due-tells : (s : CtapHid) (wink time : ℕ) (m : List ℕ) (d : Transport) → Sound s wink → Means time s m d → s.still_due ≡ still_due d.receiver
due-tells s wink time m d sound means =
    sound.due ∙ (sym (due-any s.assembler m)
    ∙ (sym (forgetting-due time (receiver_of s.assembler m)) ∙ (ap (λ (x : Transport). still_due x.receiver) means ∙ forgetting-due time d.receiver)))

-- so at the time of the call the standard's transport is meant
lent-means : (s : CtapHid) (e : Event) (left : List ℕ) (b : Buffers) (d : Transport) → Means s.last s left d → Comes s.last e → Lends s e.time left b → Means e.time s b.message d
lent-means s e left b d means comes lends =
    same-meaning s e.time left b lends ∙ forgotten-later s.last e.time (transport_of s left) d comes.later means

-- ---- the transport
pub record Follows (s : CtapHid) (left : List ℕ) (d : Transport) : Type 0 where
  pub sound : Sound s 0
  pub means : Means s.last s left d

pub due-follows : (s : CtapHid) (left : List ℕ) (d : Transport) → Follows s left d → s.still_due ≡ still_due d.receiver
due-follows s left d f = due-tells s 0 s.last left d f.sound f.means

module _ (s : CtapHid) (left : List ℕ) (d : Transport) (e : Event) (b : Buffers) (f : Follows s left d) (comes : Comes s.last e) (lends : Lends s e.time left b) where
  abbrev x : Stepping
  x = on_event s e b

  pub alike : Alike e.time (step (transport_of s b.message) e) (step d e)
  alike = hears-alike e.time e.disabled (transport_of s b.message) d (read e.packet) (lent-means s e left b d f.means comes lends)

  pub answers-alike : said_by x ≡ answered (step d e).answer
  answers-alike = (step-refines s e b f.sound comes lends.roomy).answer ∙ ap answered alike.0

  pub follows_on : Follows x.stepped.hid x.message (step d e).state
  follows_on =
      let means : Means e.time x.stepped.hid x.message (step d e).state = ap (forgotten e.time) (step-refines s e b f.sound comes lends.roomy).state ∙ alike.1 in
      record {
        sound = sound-stays s e b f.sound comes lends.roomy;
        means = subst (λ (t : ℕ). Means t x.stepped.hid x.message (step d e).state) (sym (leaves s e b f.sound comes lends.roomy).last) means;
      }

-- ---- the device
pub record MainFollows (o : MainHid) (left : List ℕ) (d : Device) : Type 0 where
  pub sound : Sound o.hid o.wink
  pub means : Means o.hid.last o.hid left d.transport
  pub wink : o.wink ≡ d.wink

pub main-due-follows : (o : MainHid) (left : List ℕ) (d : Device) → MainFollows o left d → o.hid.still_due ≡ still_due d.transport.receiver
main-due-follows o left d f = due-tells o.hid o.wink o.hid.last left d.transport f.sound f.means

module _ (o : MainHid) (left : List ℕ) (d : Device) (e : Event) (b : Buffers) (f : MainFollows o left d) (comes : Comes o.hid.last e) (lends : Lends o.hid e.time left b) where
  abbrev y : MainStepping
  y = main_on_event o e b

  abbrev mine : Next Transport
  mine = step (transport_of o.hid b.message) e

  abbrev theirs : Next Transport
  theirs = step d.transport e

  main-alike : Alike e.time mine theirs
  main-alike = hears-alike e.time e.disabled (transport_of o.hid b.message) d.transport (read e.packet) (lent-means o.hid e left b d.transport f.means comes lends)

  -- the outer layers meet answers that are alike with settings that are
  like : Like (above e.time o.wink mine) (device_step d e)
  like =
      subst (λ (w : ℕ). Like (above e.time o.wink mine) (above e.time w theirs)) f.wink
      (subst (λ (a : Answer). Like (above e.time o.wink mine) (answered_above e.time o.wink theirs.state a)) main-alike.0
      (by-settings e.time o.wink mine.state theirs.state mine.answer (ap (λ (t : Transport). t.settings) main-alike.1)))

  pub main-answers-alike : main_said_by y ≡ answered (device_step d e).answer
  main-answers-alike = (main-step-refines o e b f.sound comes lends.roomy).answer ∙ ap answered like.0

  pub main-follows-on : MainFollows y.stepped.hid y.message (device_step d e).state
  main-follows-on =
      let is = (main-step-refines o e b f.sound comes lends.roomy).state in
      let means : Means e.time y.stepped.hid.hid y.message (device_step d e).state.transport =
      ap (λ (u : Device). forgotten e.time u.transport) is
      ∙ (ap (forgotten e.time) (same-transport e.time o.wink mine.state mine.answer)
      ∙ (main-alike.1 ∙ sym (ap (forgotten e.time) (same-transport e.time d.wink theirs.state theirs.answer)))) in
      record {
        sound = main-sound-stays o e b f.sound comes lends.roomy;
        means = subst (λ (t : ℕ). Means t y.stepped.hid.hid y.message (device_step d e).state.transport) (sym (main-last o e b f.sound comes lends.roomy)) means;
        wink = ap (λ (u : Device). u.wink) is ∙ like.1;
      }
