-- A device whose lock never ends, one whose lock ends a millisecond late, one whose transaction lives by other channels' packets, and one that tells an unknown command only
-- when it is whole do not satisfy the demands. Assumes nothing.
use Prim.Native.Nat.{ℕ, zero, suc, ◌+◌, ◌*◌, ◌≤◌}
use native.Mathlib.Omega.{arith}
use mathlib.Core.Path.{◌≡◌, refl, ap, sym, ◌∙◌}
use mathlib.Core.List.{List, [], ◌∷◌, ◌++◌}
use mathlib.Core.Bool.{true, true≢false}
use mathlib.Core.Logic.{inl, inr, ⊎_elim}
use borrow.Author.Tests.{le-ltb, lt-leb}
use lib.ListN.{replicate}
use Rattle.ctaphid.specs.Choice.{pick, is_in}
use Rattle.ctaphid.specs.Packets.{channel_in, declared_in, read}
use Rattle.ctaphid.specs.Commands.{among, LOCK, is_vendor}
use Rattle.ctaphid.specs.Settings.{Settings, knows}
use Rattle.ctaphid.specs.Receiver.{busy, collect, start_known, start, when_idle, when_busy, receive, is_on}
use Rattle.ctaphid.specs.Transport.{Transport, free, Event, nothing, reply, Next, next, is_allocated, is_valid, is_locked_by, is_locked_against, is_shut, next_channel, on_init, lock_for, on_lock, dispatch, settle, hear, obey}
use Rattle.ctaphid.specs.Demands.{AnyDevice, Taken, latest, after, answer, Begun, Since, TransactionsEnd, Locked, Holding, LocksEnd, busy_on, HeldBy, NoneShutOut, IsKnown, UnknownToldAtOnce, HeldByKnown, NoneShutOutByUnknown}
use Rattle.ctaphid.specs.WrongBounds.{forever_locked, locked_too_long, any_packet_is_life, told_when_whole}
use Rattle.ctaphid.proofs.InstancesBounds.{at, all_bytes, proper, channel, ping, begin, lock, settings, permitted, two, two-taken, begun, begun-taken, locked, locked-taken}

-- what a history tells of came no later than its latest event
begun-start : (D : AnyDevice) (set : Settings) (past : List Event) (first : Event) → Taken past → Begun D set past first → first.time ≤ latest past
begun-start D set [] first taken b = absurd b
begun-start D set (e ∷ past) first taken (inl b) = let same : e.time ≡ first.time = ap (λ (x : Event). x.time) b.2 in omega (arith, same)
begun-start D set (e ∷ past) first taken (inr b) = omega (arith, begun-start D set past first taken.2 b.1, taken.1)

locked-start : (D : AnyDevice) (set : Settings) (c : ℕ) (past : List Event) (k t : ℕ) → Taken past → Locked D set c past k t → t ≤ latest past
locked-start D set c [] k t taken b = absurd b
locked-start D set c (e ∷ past) k t taken (inl b) = omega (arith, b.2)
locked-start D set c (e ∷ past) k t taken (inr b) = omega (arith, locked-start D set c past k t taken.2 b.1, taken.1)

-- ---- a lock that never ends

-- by any device, the lock of 1 s that is taken at 5 is over at 50,000
holding-ends : (D : AnyDevice) (c : ℕ) → Holding D settings c locked 50000 → ⊥
holding-ends D c h = omega (arith, locked-start D settings c locked h.seconds h.start locked-taken h.locked, h.most, h.within)

still-locked : forever_locked.is_locked_by (after forever_locked settings locked) 1 50000 ≡ true
unfolding read channel_in declared_in hear is_shut settle dispatch knows obey is_vendor among on_init on_lock lock_for next_channel is_allocated is_valid is_locked_by is_locked_against receive when_idle start start_known collect pick
still-locked = refl

pub forever-locked-caught : LocksEnd forever_locked → ⊥
forever-locked-caught ends = holding-ends forever_locked 1 (ends settings permitted locked locked-taken 50000 (omega arith) 1 still-locked)

-- the same with no question asked
still-busy : answer forever_locked settings locked (at 50000 (ping 2)) ≡ busy_on 2
unfolding read channel_in declared_in hear is_shut settle dispatch knows obey is_vendor among on_init on_lock lock_for next_channel is_allocated is_valid is_locked_against receive when_idle start start_known collect pick
still-busy = refl

pub forever-locked-shuts-out : NoneShutOut forever_locked → ⊥
unfolding all_bytes pick
forever-locked-shuts-out none =
    let h : HeldBy forever_locked settings locked 2 50000 =
    none settings permitted locked (at 50000 (ping 2)) (proper (at 50000 (ping 2)) refl refl (omega arith), omega arith, locked-taken) refl still-busy in
    ⊎_elim
    (λ s. omega (arith, begun-start forever_locked settings locked s.first locked-taken s.begun, s.within))
    (λ k. holding-ends forever_locked h.holder k)
    h.holds

-- ---- a lock that runs for a millisecond more

lock-accepted : answer locked_too_long settings two (at 5 (lock 1)) ≡ reply 1 LOCK []
unfolding read channel_in declared_in hear is_shut settle dispatch knows obey is_vendor among on_init on_lock lock_for next_channel is_allocated is_valid is_locked_against receive when_idle start start_known collect pick
lock-accepted = refl

-- the lock taken at 5 was for 1 s
locked-for : (k t : ℕ) → Locked locked_too_long settings 1 locked k t → t + 1000 * k ≡ 1005
locked-for k t (inl b) = omega (arith, b.0.seconds, b.2)
locked-for k t (inr b) = absurd (b.0 lock-accepted)

locked-at-1005 : locked_too_long.is_locked_by (after locked_too_long settings locked) 1 1005 ≡ true
unfolding read channel_in declared_in hear is_shut settle dispatch knows obey is_vendor among on_init on_lock lock_for next_channel is_allocated is_valid is_locked_by is_locked_against receive when_idle start start_known collect pick
locked-at-1005 = refl

pub locked-too-long-caught : LocksEnd locked_too_long → ⊥
locked-too-long-caught ends =
    let h : Holding locked_too_long settings 1 locked 1005 = ends settings permitted locked locked-taken 1005 (omega arith) 1 locked-at-1005 in
    omega (arith, h.within, locked-for h.seconds h.start h.locked)

-- ---- a transaction that lives by other channels' packets

-- channel 1 begins at 5, and then channel 2 pings every 99 ms
abbrev pinged : ℕ → List Event
pinged zero = begun
pinged (suc n) = at (5 + 99 * suc n) (ping 2) ∷ pinged n

pinged-latest : (n : ℕ) → latest (pinged n) ≡ 5 + 99 * n
pinged-latest zero = refl
pinged-latest (suc n) = refl

pinged-taken : (n : ℕ) → n ≤ 1000 → Taken (pinged n)
unfolding all_bytes pick
pinged-taken zero h = begun-taken
pinged-taken (suc n) h = (
  proper (at (5 + 99 * suc n) (ping 2)) refl refl (omega arith),
  omega (arith, pinged-latest n),
  pinged-taken n (omega arith),
)

abbrev midst : ℕ → Transport
midst n =
    record {
      settings = settings;
      allocated = 2;
      lock = free;
      receiver =
          busy
          (record { channel = 1; command = 0x10; declared = 60; collected = replicate 57 7; due = 0; deadline = 5 + 99 * n + 100 });
    }

ping-is-life : (n : ℕ) → any_packet_is_life.step (midst n) (at (5 + 99 * suc n) (ping 2)) ≡ next (midst (suc n)) (busy_on 2)
unfolding read channel_in declared_in hear is_shut settle is_allocated is_valid is_locked_against receive when_busy pick
ping-is-life n = simp (le-ltb (5 + 99 * suc n) 0 (omega arith), lt-leb (5 + 99 * n + 100) (5 + 99 * suc n) (omega arith))

pinged-after : (n : ℕ) → after any_packet_is_life settings (pinged n) ≡ midst n
unfolding read channel_in declared_in hear is_shut settle dispatch knows obey is_vendor among on_init next_channel is_allocated is_valid is_locked_against receive when_idle start start_known collect pick
pinged-after zero = refl
pinged-after (suc n) =
    ap (λ (d : Transport). (any_packet_is_life.step d (at (5 + 99 * suc n) (ping 2))).state) (pinged-after n)
    ∙ ap (λ (x : Next Transport). x.state) (ping-is-life n)

pinged-answer : (n : ℕ) → answer any_packet_is_life settings (pinged n) (at (5 + 99 * suc n) (ping 2)) ≡ busy_on 2
pinged-answer n =
    ap (λ (d : Transport). (any_packet_is_life.step d (at (5 + 99 * suc n) (ping 2))).answer) (pinged-after n)
    ∙ ap (λ (x : Next Transport). x.answer) (ping-is-life n)

begins-silent : answer any_packet_is_life settings two (at 5 begin) ≡ nothing
unfolding read channel_in declared_in hear is_shut settle dispatch knows obey is_vendor among on_init next_channel is_allocated is_valid is_locked_against receive when_idle start start_known collect pick
begins-silent = refl

busy≢nothing : {c : ℕ} → busy_on c ≡ nothing → ⊥
busy≢nothing e = let z : ◌≡◌ {A = ℕ} 0 1 = cc in omega arith

-- the transaction began at 5
pinged-begun : (n : ℕ) (first : Event) → Begun any_packet_is_life settings (pinged n) first → first.time ≡ 5
pinged-begun zero first (inl b) = sym (ap (λ (e : Event). e.time) b.2)
pinged-begun zero first (inr b) = absurd (b.0 (omega arith) begins-silent)
pinged-begun (suc n) first (inl b) = absurd (busy≢nothing (sym (pinged-answer n) ∙ b.1))
pinged-begun (suc n) first (inr b) = pinged-begun n first b.1

still-on : any_packet_is_life.is_on (after any_packet_is_life settings (pinged 130)) 1 12875 ≡ true
unfolding is_on pick
still-on = ap (λ (d : Transport). is_on d.receiver 1 12875) (pinged-after 130)

pub any-packet-is-life-caught : TransactionsEnd any_packet_is_life → ⊥
any-packet-is-life-caught ends =
    let s : Since 12800 any_packet_is_life settings 1 (pinged 130) 12875 =
    ends settings permitted (pinged 130) (pinged-taken 130 (omega arith)) 12875 (omega (arith, pinged-latest 130)) 1 still-on in
    omega (arith, s.within, pinged-begun 130 s.first s.begun)

-- no event of that run is a LOCK
pinged-unlocked : (c n k t : ℕ) → Locked any_packet_is_life settings c (pinged n) k t → ⊥
pinged-unlocked c zero k t (inl b) = omega (arith, b.0.command)
pinged-unlocked c zero k t (inr (q, inl b)) = omega (arith, b.0.command)
pinged-unlocked c zero k t (inr (q, inr (r, inl b))) = omega (arith, b.0.command)
pinged-unlocked c zero k t (inr (q, inr (r, inr b))) = b.1
pinged-unlocked c (suc n) k t (inl b) = omega (arith, b.0.command)
pinged-unlocked c (suc n) k t (inr b) = pinged-unlocked c n k t b.1

-- the same with no question asked
pub any-packet-is-life-shuts-out : NoneShutOut any_packet_is_life → ⊥
any-packet-is-life-shuts-out none =
    let h : HeldBy any_packet_is_life settings (pinged 130) 2 12974 =
    none settings permitted (pinged 130) (at (5 + 99 * suc 130) (ping 2)) (pinged-taken 131 (omega arith)) refl (pinged-answer 130) in
    ⊎_elim
    (λ s. omega (arith, s.within, pinged-begun 130 s.first s.begun))
    (λ l. pinged-unlocked h.holder 130 l.seconds l.start l.locked)
    h.holds

-- ---- an unknown command that is told when it is whole

-- the first packet of a message of 60 bytes with command 2, on channel 1
abbrev unknown : Event
unknown = at 5 (channel 1 ++ (0x82 ∷ 0 ∷ 60 ∷ []))

unknown-taken : Taken (unknown ∷ two)
unfolding all_bytes pick
unknown-taken = (proper unknown refl refl (omega arith), omega arith, two-taken)

unknown-silent : answer told_when_whole settings two unknown ≡ nothing
unfolding read channel_in declared_in is_shut settle dispatch knows obey is_vendor among on_init next_channel is_allocated is_valid is_locked_against receive when_idle start start_known collect pick
unknown-silent = refl

busy-by-unknown : answer told_when_whole settings (unknown ∷ two) (at 6 (ping 2)) ≡ busy_on 2
unfolding read channel_in declared_in is_shut settle dispatch knows obey is_vendor among on_init next_channel is_allocated is_valid is_locked_against receive when_idle when_busy start start_known collect pick
busy-by-unknown = refl

not_known : IsKnown settings unknown → ⊥
unfolding is_in pick
not_known h = true≢false (sym h)

pub told-when-whole-caught : UnknownToldAtOnce told_when_whole → ⊥
told-when-whole-caught told = not_known (told settings permitted two unknown unknown-taken (omega arith) unknown-silent)

pub told-when-whole-shuts-out : NoneShutOutByUnknown told_when_whole → ⊥
unfolding all_bytes pick
told-when-whole-shuts-out none =
    let h : HeldByKnown told_when_whole settings (unknown ∷ two) 2 6 =
    none settings permitted (unknown ∷ two) (at 6 (ping 2)) (proper (at 6 (ping 2)) refl refl (omega arith), omega arith, unknown-taken) refl busy-by-unknown in
    not_known (h.known unknown (inl (omega arith, unknown-silent, refl)))
