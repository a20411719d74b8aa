-- What a transport is asked about a transaction whose time is over doesn't depend on the bytes that it had collected. Assumes nothing.
use Prim.Native.Nat.{ℕ, ◌≤◌}
use native.Mathlib.Omega.{arith}
use mathlib.Core.Path.{◌≡◌, refl, sym, ap, ◌∙◌}
use mathlib.Core.List.{[]}
use mathlib.Core.Bool.{Bool}
use borrow.Author.Tests.{le-leb, leb-true}
use lib.Dec.{leb}
use Rattle.ctaphid.specs.Choice.{pick}
use Rattle.ctaphid.specs.Packets.{Packet, initialization, continuation}
use Rattle.ctaphid.specs.Settings.{Settings}
use Rattle.ctaphid.specs.Receiver.{Transaction, Receiver, idle, busy, Turn, channel_of, when_over, when_busy, receive, is_on, still_due}
use Rattle.ctaphid.specs.Transport.{Transport, Next, is_valid, is_shut, settled, with_receiver, hear}
use Rattle.ctaphid.proofs.Tests.{pick-both, pick_known, both-pick}

abbrev emptied : Transaction → Transaction
emptied t =
    record { channel = t.channel; command = t.command; declared = t.declared; collected = []; due = t.due; deadline = t.deadline }

-- a receiver, and a transport, without the bytes of a transaction whose time is over
unfoldable pub forgetting : (time : ℕ) → Receiver → Receiver
forgetting time idle = idle
forgetting time (busy t) = pick (leb t.deadline time) (busy (emptied t)) (busy t)

abbrev pub forgotten : (time : ℕ) → Transport → Transport
forgotten time d = with_receiver d (forgetting time d.receiver)

-- ---- as time goes on
pub forgetting-later : (time later : ℕ) (r : Receiver) → time ≤ later → forgetting later (forgetting time r) ≡ forgetting later r
unfolding forgetting pick
forgetting-later time later idle h = refl
forgetting-later time later (busy t) h =
    pick_known (λ (r : Receiver). forgetting later r ≡ forgetting later (busy t)) (leb t.deadline time) _ _
    (λ e. simp (le-leb t.deadline later (omega (arith, leb-true t.deadline time e))))
    (λ e. refl)

pub forgotten-later : (time later : ℕ) (d e : Transport) → time ≤ later → forgotten time d ≡ forgotten time e → forgotten later d ≡ forgotten later e
forgotten-later time later d e h k =
    sym (ap (with_receiver d) (forgetting-later time later d.receiver h))
    ∙ (ap (forgotten later) k ∙ ap (with_receiver e) (forgetting-later time later e.receiver h))

-- ---- what is still due doesn't go by them
pub forgetting-due : (time : ℕ) (r : Receiver) → still_due (forgetting time r) ≡ still_due r
unfolding forgetting
forgetting-due time idle = refl
forgetting-due time (busy t) = pick-both (λ (r : Receiver). still_due r ≡ still_due (busy t)) (leb t.deadline time) _ _ refl refl

-- ---- no answer depends on them
over-forgets : (set : Settings) (time : ℕ) (t : Transaction) (p : Packet) → when_over set time (emptied t) p ≡ when_over set time t p
unfolding when_over
over-forgets set time t (initialization c cmd n field) = refl
over-forgets set time t (continuation c k field) = refl

receive-forgets : (set : Settings) (time : ℕ) (r : Receiver) (p : Packet) → receive set time (forgetting time r) p ≡ receive set time r p
unfolding receive forgetting pick
receive-forgets set time idle p = refl
receive-forgets set time (busy t) p =
    pick_known (λ (r : Receiver). receive set time r p ≡ receive set time (busy t) p) (leb t.deadline time) _ _
    (λ e. ap (λ (x : Turn). pick (leb t.deadline time) x (when_busy set time (emptied t) p)) (over-forgets set time t p) ∙ simp e)
    (λ e. refl)

-- two steps that answer alike and lead to what is alike
abbrev pub Alike : (time : ℕ) → Next Transport → Next Transport → Type 0
Alike time n o = (n.answer ≡ o.answer) × (forgotten time n.state ≡ forgotten time o.state)

hear-forgets : (time : ℕ) (disabled : Bool) (d : Transport) (p : Packet) → Alike time (hear (forgotten time d) time disabled p) (hear d time disabled p)
unfolding hear
hear-forgets time disabled d p =
    both-pick (Alike time) (is_valid d.allocated p) _ _ _ _
    (λ v. both-pick (Alike time) (is_shut d.lock time disabled (channel_of p)) _ _ _ _
    (λ s. (refl, same))
    (λ s. let e = receive-forgets d.settings time d.receiver p in (ap (λ (t : Turn). (settled d time (channel_of p) t).answer) e, ap (λ (t : Turn). forgotten time (settled d time (channel_of p) t).state) e)))
    (λ v. (refl, same))
  where
    same : forgotten time (forgotten time d) ≡ forgotten time d
    same = ap (with_receiver d) (forgetting-later time time d.receiver (omega arith))

pub hears-alike : (time : ℕ) (disabled : Bool) (d e : Transport) (p : Packet) → forgotten time d ≡ forgotten time e → Alike time (hear d time disabled p) (hear e time disabled p)
hears-alike time disabled d e p k =
    let x = hear-forgets time disabled d p in
    let y = hear-forgets time disabled e p in (
      sym x.0 ∙ (ap (λ (t : Transport). (hear t time disabled p).answer) k ∙ y.0),
      sym x.1 ∙ (ap (λ (t : Transport). forgotten time (hear t time disabled p).state) k ∙ y.1),
    )

pub is-on-forgets : (now time c : ℕ) (r : Receiver) → is_on (forgetting now r) c time ≡ is_on r c time
unfolding forgetting is_on
is-on-forgets now time c idle = refl
is-on-forgets now time c (busy t) = pick_known (λ (r : Receiver). is_on r c time ≡ is_on (busy t) c time) (leb t.deadline now) _ _ (λ e. refl) (λ e. refl)
