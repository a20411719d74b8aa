-- The longest transaction: 12,673 ms is the least bound. Assumes nothing.
use Prim.Native.Nat.{ℕ, zero, suc, ◌+◌, ◌*◌, ◌≤◌, ◌<◌}
use native.Mathlib.Omega.{arith}
use native.Mathlib.Numerals.{add-one}
use mathlib.Core.Path.{◌≡◌, refl, sym, ap, ◌∙◌}
use mathlib.Core.List.{List, [], ◌∷◌, ◌++◌}
use mathlib.Core.Bool.{true, false}
use mathlib.Core.Logic.{inl, inr}
use borrow.Author.Tests.{lt-ltb, le-ltb, lt-leb}
use lib.Dec.{ltb}
use lib.ListN.{length, take, replicate, length-replicate, replicate-append-replicate}
use lib.Seq.{take_all}
use Rattle.ctaphid.specs.Choice.{pick}
use Rattle.ctaphid.specs.Packets.{Packet, continuation, channel_in, declared_in, read}
use Rattle.ctaphid.specs.Commands.{PING, among, is_vendor}
use Rattle.ctaphid.specs.Settings.{knows}
use Rattle.ctaphid.specs.Receiver.{Transaction, idle, busy, silent, whole, Turn, turn, collect, start_known, start, when_idle, receive, is_on}
use Rattle.ctaphid.specs.Transport.{Transport, free, Event, nothing, reply, Next, is_allocated, is_valid, is_locked_against, is_shut, next_channel, on_init, dispatch, settle, serve, hear, step, obey}
use Rattle.ctaphid.specs.Demands.{standard, Taken, latest, after, answer, Begun, Since, TransactionsEndWithin}
use Rattle.ctaphid.proofs.Steps.{grown, receive-more, receive-last, let_through, served}
use Rattle.ctaphid.proofs.InstancesBounds.{at, all_bytes, proper, channel, settings, permitted, two, two-taken}

-- the continuation numbered n, its data all 0, comes 99 ms after the packet before it
abbrev time : ℕ → ℕ
time n = 5 + 99 * suc n

abbrev numbered : ℕ → Event
numbered n = at (time n) (channel 1 ++ (n ∷ []))

abbrev packet : ℕ → Packet
packet n = continuation 1 n (replicate 59 0)

-- a PING of 7,609 bytes on channel 1 begins at 5, and n continuations follow
abbrev opens : Event
opens = at 5 (channel 1 ++ (0x81 ∷ 0x1d ∷ 0xb9 ∷ []))

abbrev pub longest : ℕ → List Event
longest zero = opens ∷ two
longest (suc n) = numbered n ∷ longest n

longest-latest : (n : ℕ) → latest (longest n) ≡ 5 + 99 * n
longest-latest zero = refl
longest-latest (suc n) = refl

pub longest-taken : (n : ℕ) → n ≤ 128 → Taken (longest n)
unfolding all_bytes pick
longest-taken zero h = (proper opens refl refl (omega arith), omega arith, two-taken)
longest-taken (suc n) h = (
  proper (numbered n) refl (simp (lt-ltb n 0x100 (omega arith))) (omega arith),
  omega (arith, longest-latest n),
  longest-taken n (omega arith),
)

-- ---- the transport in the midst of it, when n continuations have come

abbrev bytes : ℕ → List ℕ
bytes n = replicate (57 + 59 * n) 0

abbrev begun : ℕ → Transaction
begun n = record { channel = 1; command = 1; declared = 7609; collected = bytes n; due = n; deadline = 5 + 99 * n + 100 }

abbrev midway : ℕ → Transport
midway n = record { settings = settings; allocated = 2; lock = free; receiver = busy (begun n) }

-- 59 bytes more
bytes-more : (n : ℕ) → bytes n ++ replicate 59 0 ≡ bytes (suc n)
bytes-more n =
    let sum : 57 + 59 * n + 59 ≡ 57 + 59 * suc n = omega arith in
    replicate-append-replicate (57 + 59 * n) 59 0 ∙ ap (λ (k : ℕ). replicate k 0) sum

bytes-length : (n : ℕ) → length (bytes n ++ replicate 59 0) ≡ 57 + 59 * suc n
bytes-length n = ap length (bytes-more n) ∙ length-replicate (57 + 59 * suc n) 0

module _ (n : ℕ) (h : n ≤ 127) where
  reads : read (numbered n).packet ≡ packet n
  unfolding read channel_in pick
  reads = simp (lt-leb 0x80 n (omega arith))

  -- it is let through to the receiver
  let-in : step (midway n) (numbered n) ≡ serve (midway n) (time n) (packet n)
  unfolding is_valid is_allocated is_locked_against pick
  let-in = ap (hear (midway n) (time n) false) reads ∙ let_through (midway n) (time n) (packet n) refl (simp (le-ltb (time n) 0 (omega arith)))

  -- and taken, before the last
  goes_on : n < 127 → (step (midway n) (numbered n)).state ≡ midway (suc n)
  unfolding settle
  goes_on more =
      let t : Turn = turn (busy (grown (begun n) (time n) (replicate 59 0))) silent in
      ap (λ (x : Next Transport). x.state)
      (let-in ∙ served (midway n) (time n) (packet n) t (receive-more settings (time n) (begun n) (omega arith) (replicate 59 0) (omega (arith, bytes-length n))))
      ∙ (λ i. record {
        settings = settings;
        allocated = 2;
        lock = free;
        receiver = busy (record { channel = 1; command = 1; declared = 7609; collected = bytes-more n i; due = add-one n i; deadline = time n + 100 });
      })

-- two channels are allocated, and its first packet begins it
begins : after standard settings (longest 0) ≡ midway 0
unfolding read channel_in declared_in hear is_shut settle dispatch knows obey is_vendor among on_init next_channel is_allocated is_valid is_locked_against receive when_idle start start_known collect pick
begins = refl

longest-after : (n : ℕ) → n ≤ 127 → after standard settings (longest n) ≡ midway n
longest-after zero h = begins
longest-after (suc n) h = ap (λ (d : Transport). (step d (numbered n)).state) (longest-after n (omega arith)) ∙ goes_on n (omega arith) (omega arith)

-- with all but the last continuation it is on 12,672 ms after its first packet, and no longer
on-at : (t : ℕ) → standard.is_on (after standard settings (longest 127)) 1 t ≡ ltb t 12678
unfolding is_on pick
on-at t = ap (λ (d : Transport). is_on d.receiver 1 t) (longest-after 127 (omega arith))

pub longest-on : standard.is_on (after standard settings (longest 127)) 1 12677 ≡ true
longest-on = on-at 12677

pub longest-off : standard.is_on (after standard settings (longest 127)) 1 12678 ≡ false
longest-off = on-at 12678

-- by its last one, 99 ms later, it is whole
pub longest-whole : answer standard settings (longest 127) (numbered 127) ≡ reply 1 PING (replicate 7609 0)
unfolding settle dispatch knows obey is_vendor among pick
longest-whole =
    let all : take 7609 (bytes 127 ++ replicate 59 0) ≡ replicate 7609 0 = ap (take 7609) (bytes-more 127) ∙ take_all 7609 (replicate 7609 0) (omega (arith, length-replicate {A = ℕ} 7609 0)) in
    let t : Turn = turn idle (whole 1 1 (take 7609 (bytes 127 ++ replicate 59 0))) in
    ap (λ (d : Transport). (step d (numbered 127)).answer) (longest-after 127 (omega arith))
    ∙ (ap (λ (x : Next Transport). x.answer)
    (let-in 127 (omega arith) ∙ served (midway 127) (time 127) (packet 127) t (receive-last settings (time 127) (begun 127) (omega arith) (replicate 59 0) (omega (arith, bytes-length 127))))
    ∙ ap (reply 1 PING) all)

-- its first packet is answered by nothing
begins-silent : answer standard settings two opens ≡ nothing
unfolding read channel_in declared_in hear is_shut settle dispatch knows obey is_vendor among on_init next_channel is_allocated is_valid is_locked_against receive when_idle start start_known collect pick
begins-silent = refl

-- and so it began at 5, and at no other time
pub longest-begun : (n : ℕ) → n ≤ 128 → Begun standard settings (longest n) opens
longest-begun zero h = inl (omega arith, begins-silent, refl)
longest-begun (suc n) h = inr ((λ f q. omega (arith, f)), longest-begun n (omega arith))

longest-start : (n : ℕ) (first : Event) → n ≤ 128 → Begun standard settings (longest n) first → first.time ≡ 5
longest-start zero first h (inl b) = sym (ap (λ (e : Event). e.time) b.2)
longest-start zero first h (inr b) = absurd (b.0 (omega arith) begins-silent)
longest-start (suc n) first h (inl b) = absurd (omega (arith, b.0))
longest-start (suc n) first h (inr b) = longest-start n first (omega arith) b.1

-- so no smaller bound holds
pub sharp : (bound : ℕ) → bound ≤ 12672 → TransactionsEndWithin bound standard → ⊥
sharp bound small ends =
    let s : Since bound standard settings 1 (longest 127) 12677 = ends settings permitted (longest 127) (longest-taken 127 (omega arith)) 12677 (omega (arith, longest-latest 127)) 1 longest-on in
    omega (arith, s.within, longest-start 127 s.first (omega arith) s.begun)
