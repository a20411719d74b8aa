-- Delivery of the standard's transport: the first packet begins a transaction, and then as many come as are due. Assumes nothing.
use Prim.Native.Nat.{ℕ, zero, suc, ◌+◌, ◌-◌, ◌≤◌, ◌<◌}
use native.Mathlib.Omega.{arith}
use mathlib.Core.Path.{◌≡◌, refl, ap, sym, subst, ◌∙◌}
use mathlib.Core.List.{List, [], ◌∷◌, ◌++◌, map, flatten}
use mathlib.Core.Bool.{true, false}
use native.Mathlib.Decide.{dec_le}
use borrow.Author.Tests.{lt-ltb, le-ltb}
use lib.Dec.{lit<}
use lib.ListN.{length, take, drop, get_or, replicate, length-append, length-drop, length-replicate, length-map}
use lib.Seq.{take_all, take-append_seam, length-take-le}
use Rattle.ctaphid.specs.Choice.{pick}
use Rattle.ctaphid.specs.Packets.{Packet, initialization, read, written}
use Rattle.ctaphid.specs.Messages.{later, chunks, padded, fields, packets, wire}
use Rattle.ctaphid.specs.Limits.{timeout}
use Rattle.ctaphid.specs.Settings.{Settings}
use Rattle.ctaphid.specs.Receiver.{Transaction, idle, busy, silent, whole, Turn, turn, collect, start_known, start, is_on, still_due}
use Rattle.ctaphid.specs.Transport.{Transport, Event, nothing, Next, next, broadcast, is_allocated, is_locked_against, with_receiver, settle, settled, step}
use Rattle.ctaphid.specs.Demands.{standard, latest, after, Sent, Ends, Message, aPing, aMsg, aWink, aCbor, aVendor, number_of, handed_out, Delivery}
use Rattle.ctaphid.specs.StillDue.{Fields, due_next, completed}
use Rattle.ctaphid.proofs.Splitting.{padded-full, later-length, fields-flatten}
use Rattle.ctaphid.proofs.Packets.{read-written}
use Rattle.ctaphid.proofs.Commands.{vendor-range}
use Rattle.ctaphid.proofs.Invariant.{Holds}
use Rattle.ctaphid.proofs.Steps.{receive-free, allocated-most, allocated-valid, unlocked-for, let_through, served, Handed, handed, handed-known, dispatched}
use Rattle.ctaphid.proofs.Histories.{settings-after, holds_after}
use Rattle.ctaphid.proofs.StillDue.{Midst, Then, hush-nothing, none-due, some-due, all}

-- ---- data fields

-- the data field of n bytes for what is left
abbrev filled : ℕ → List ℕ → List ℕ
filled n left = padded n (take n left)

filled-short : (n : ℕ) (left : List ℕ) → length left ≤ n → filled n left ≡ left ++ replicate (n - length left) 0
unfolding padded
filled-short n left h = ap (λ (l : List ℕ). l ++ replicate (n - length l) 0) (take_all n left h)

filled-length : (n : ℕ) (left : List ℕ) → length (filled n left) ≡ n
filled-length n left = by_size (dec_le n (length left))
  where
    by_size : Dec (n ≤ length left) → length (filled n left) ≡ n
    by_size (yes h) = ap length (padded-full n (take n left) (length-take-le n left h)) ∙ length-take-le n left h
    by_size (no h) =
        let short : length left ≤ n = omega arith in
        ap length (filled-short n left short) ∙ simp (length-append, length-replicate) (omega arith)

-- a data field that has all of a payload, cut where that ends
cut-back : (n : ℕ) (payload : List ℕ) → length payload ≤ n → take (length payload) (filled n payload) ≡ payload
cut-back n payload h = rw (filled-short n payload h) (take-append_seam payload _)

-- ---- the packets of a message

-- the data fields of its continuation packets
abbrev later_fields : List ℕ → List (List ℕ)
later_fields payload = map (padded 59) (later 59 (length payload) (drop 57 payload))

-- they have 59 bytes each
sized : (most : ℕ) (bytes : List ℕ) → Fields (map (padded 59) (later 59 most bytes))
unfolding later
sized zero bytes = tt
sized (suc most) [] = tt
sized (suc most) (b ∷ bytes) = (filled-length 59 (b ∷ bytes), sized most (drop 59 (b ∷ bytes)))

-- a transaction as its first packet leaves it
abbrev begun : (time channel : ℕ) → Message → List ℕ → Transaction
begun time c m payload =
    record { channel = c; command = number_of m; declared = length payload; collected = filled 57 payload; due = 0; deadline = time + timeout }

-- what is due then are the others
wire-is : (c : ℕ) (m : Message) (payload : List ℕ) (time : ℕ) → wire c (number_of m) payload ≡ written (initialization c (number_of m) (length payload) (filled 57 payload)) ∷ due_next (begun time c m payload) (later_fields payload)
unfolding packets fields chunks
wire-is c m payload time = refl

as_many : (time c : ℕ) (m : Message) (payload : List ℕ) → length (later_fields payload) ≡ still_due (busy (begun time c m payload))
as_many time c m payload =
    length-map (later 59 (length payload) (drop 57 payload)) (padded 59)
    ∙ later-length 59 (lit< tt) (length payload) (drop 57 payload) (simp length-drop (omega arith))
    ∙ simp length-drop (omega arith)

entire : (time c : ℕ) (m : Message) (payload : List ℕ) → completed (begun time c m payload) (later_fields payload) ≡ payload
unfolding fields chunks flatten
entire time c m payload = fields-flatten 57 59 (lit< tt) payload

-- ---- the first packet

number_small : (set : Settings) (m : Message) → Handed set m → number_of m < 0x80
number_small set aPing ok = omega arith
number_small set aMsg ok = omega arith
number_small set aWink ok = omega arith
number_small set aCbor ok = omega arith
number_small set (aVendor n) ok = omega (arith, (vendor-range n ok.1).1)

abbrev opening : ℕ → Message → List ℕ → Packet
opening c m payload = initialization c (number_of m) (length payload) (filled 57 payload)

module _ (d : Transport) (c : ℕ) (m : Message) (ok : Handed d.settings m) (payload : List ℕ) (small : c < broadcast) (fits : length payload ≤ d.settings.maximum) (large : d.settings.maximum ≤ 7609) (e : Event) (enabled : e.disabled ≡ false) (opened : e.packet ≡ written (opening c m payload)) (allocated : is_allocated d.allocated c ≡ true) (quiet : (o : ℕ) → is_on d.receiver o e.time ≡ false) (unlocked : is_locked_against d.lock c e.time ≡ false) where
  reads_first : read e.packet ≡ opening c m payload
  reads_first = ap read opened ∙ read-written (opening c m payload) (omega arith, number_small d.settings m ok, omega arith, filled-length 57 payload)

  starts : (x : Turn) → start_known d.settings.maximum e.time c (number_of m) (length payload) (filled 57 payload) ≡ x → step d e ≡ settled d e.time c x
  unfolding start pick
  starts x q =
      simp (enabled, reads_first)
      (let_through d e.time (opening c m payload) (allocated-valid d.allocated (opening c m payload) small allocated) unlocked
      ∙ served d e.time (opening c m payload) x (receive-free d.settings e.time d.receiver c (number_of m) (length payload) (filled 57 payload) quiet ∙ simp (handed-known d.settings m ok) q))

  short : length payload ≤ 57 → (step d e).answer ≡ handed_out m c payload
  unfolding start_known collect pick settle
  short h =
      let q : length payload ≤ length (filled 57 payload) = simp (filled-length 57 payload) h in
      ap (λ (n : Next Transport). n.answer)
      (starts (turn idle (whole c (number_of m) payload)) (simp (le-ltb _ _ fits, le-ltb _ _ q, cut-back 57 payload h))
      ∙ dispatched (with_receiver d idle) e.time c m payload ok)

  long : 57 < length payload → step d e ≡ next (with_receiver d (busy (begun e.time c m payload))) nothing
  unfolding start_known collect pick settle
  long h =
      let q : length (filled 57 payload) < length payload = simp (filled-length 57 payload) h in
      starts (turn (busy (begun e.time c m payload)) silent) (simp (le-ltb _ _ fits, lt-ltb _ _ q))

  midst-first : 57 < length payload → Midst (with_receiver d (busy (begun e.time c m payload))) (begun e.time c m payload) e.time
  midst-first h =
      record {
        busied = refl;
        small = small;
        allocated = allocated;
        unlocked = unlocked;
        bytes = simp (filled-length 57 payload) (omega arith);
        below = simp (filled-length 57 payload) h;
        large = omega arith;
      }

  abbrev Following : List Event → Type 0
  Following rest = Sent c (e.time + timeout) e.time (due_next (begun e.time c m payload) (later_fields payload)) rest

  abbrev Delivered : List Event → Type 0
  Delivered rest = Ends standard d c (handed_out m c payload) (e ∷ rest)

  delivered-long : 57 < length payload → (rest : List Event) → Following rest → Delivered rest
  delivered-long h [] w = absurd (omega (arith, none-due (begun e.time c m payload) e.time (later_fields payload) w, as_many e.time c m payload))
  delivered-long h (f ∷ rest) w =
      let t : Transaction = begun e.time c m payload in
      let q = all m (f ∷ rest) (with_receiver d (busy t)) t e.time (later_fields payload) (midst-first h) ok refl (sized (length payload) (drop 57 payload)) w (as_many e.time c m payload) in
      subst (λ (n : Next Transport). Then c (handed_out m c payload) e f rest n) (sym (long h))
      (hush-nothing c e, subst (λ (l : List ℕ). Ends standard (with_receiver d (busy t)) c (handed_out m c l) (f ∷ rest)) (entire e.time c m payload) q)

  delivered-short : length payload ≤ 57 → (rest : List Event) → Following rest → Delivered rest
  delivered-short h [] w = short h
  delivered-short h (f ∷ rest) w = absurd (omega (arith, some-due (begun e.time c m payload) e.time (later_fields payload) f rest w, as_many e.time c m payload))

  delivered : (rest : List Event) → Following rest → Delivered rest
  delivered rest w = by_size (dec_le (length payload) 57)
    where
      by_size : Dec (length payload ≤ 57) → Delivered rest
      by_size (yes h) = delivered-short h rest w
      by_size (no h) = delivered-long (omega arith) rest w

-- the head and the tail of a list of packets
abbrev rest_of : List (List ℕ) → List (List ℕ)
rest_of [] = []
rest_of (p ∷ ps) = ps

pub delivery : Delivery standard
delivery set permitted past taken c m allowed payload fits e rest is_open sending =
    let d : Transport = after standard set past in
    let same : d.settings ≡ set = settings-after set past in
    let holds : Holds d (latest past) = holds_after set past taken in
    let most : c ≤ d.allocated = allocated-most d.allocated c is_open.allocated in
    let cut : written (opening c m payload) ∷ due_next (begun e.time c m payload) (later_fields payload) ≡ e.packet ∷ sending.following =
    sym (wire-is c m payload e.time) ∙ sending.cut in
    delivered d c m (simp same (handed set permitted m allowed)) payload (omega (arith, holds.count)) (simp same fits) (simp same permitted.most) e sending.enabled
    (sym (ap (λ (ps : List (List ℕ)). get_or ps 0 []) cut)) is_open.allocated is_open.quiet
    (unlocked-for d.lock c e.time is_open.unlocked) rest
    (subst (λ (ps : List (List ℕ)). Sent c (e.time + timeout) e.time ps rest) (sym (ap rest_of cut)) sending.followed)
