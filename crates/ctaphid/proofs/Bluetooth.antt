-- A message in fragments: how many, which stands at an index, and that it is given back where it is read. Assumes nothing.
use Prim.Native.Nat.{ℕ, zero, suc, ◌+◌, ◌-◌, ◌*◌, ◌/◌, ◌%◌, ◌≤◌, ◌<◌}
use native.Mathlib.Omega.{arith}
use native.Mathlib.Decide.{dec_le}
use mathlib.Core.Path.{◌≡◌, refl, sym, ap, ◌∙◌}
use mathlib.Core.List.{List, [], ◌∷◌, ◌++◌}
use borrow.Author.Tests.{lt-ltb, le-ltb, le-leb, lt-leb, eq-eqb, ne_eqb}
use lib.ListN.{length, take, drop, get_or, length-append, length-take, get_or-eq_default}
use lib.Seq.{take-length, length-take-le}
use Rattle.ctaphid.specs.Choice.{pick}
use Rattle.ctaphid.specs.Packets.{byte}
use Rattle.ctaphid.specs.Messages.{chunks, count, framed}
use Rattle.ctaphid.specs.Host.{Begun, Collection, none, collecting}
use Rattle.ctaphid.specs.Bluetooth.{Fragment, initialization, continuation, written, too_short, fragment, read, fragments, fragments_written, CutsOverBluetooth, Told, refused, waiting, message, Taken, taken, gather, begin, on_fragment, on_read, hear, next, answer, Sendable, RoundTrip, RoundTrips}
use Rattle.ctaphid.proofs.Splitting.{chunks-framed, framed-length, framed-first, framed-later, count-least, chunks-full, chunks-first, chunks-later, count_next}
use Rattle.ctaphid.proofs.Reassembling.{Reads, reads_chunks}

-- ---- a fragment read
pub read_first : (cmd high low : ℕ) (field : List ℕ) → 0x80 ≤ cmd → read (cmd ∷ high ∷ low ∷ field) ≡ fragment (initialization cmd (high * 0x100 + low) field)
unfolding read pick
read_first cmd high low field h = simp (le-leb 0x80 cmd h)

pub read-later : (k : ℕ) (field : List ℕ) → k < 0x80 → read (k ∷ field) ≡ fragment (continuation k field)
unfolding read pick
read-later k field h = simp (lt-leb 0x80 k h)

-- the same by a fragment's length
pub read_none : (bytes : List ℕ) → length bytes < 1 → read bytes ≡ too_short
unfolding read
read_none [] h = refl
read_none (k ∷ rest) h = absurd (omega arith)

pub read_short : (bytes : List ℕ) → length bytes < 3 → 0x80 ≤ byte bytes 0 → read bytes ≡ too_short
unfolding read pick
read_short [] h k = refl
read_short (cmd ∷ []) h k = simp (le-leb 0x80 cmd k)
read_short (cmd ∷ (high ∷ [])) h k = simp (le-leb 0x80 cmd k)
read_short (cmd ∷ (high ∷ (low ∷ field))) h k = absurd (omega arith)

pub read-begins : (bytes : List ℕ) → 3 ≤ length bytes → 0x80 ≤ byte bytes 0 → read bytes ≡ fragment (initialization (byte bytes 0) (byte bytes 1 * 0x100 + byte bytes 2) (drop 3 bytes))
read-begins [] h k = absurd (omega arith)
read-begins (cmd ∷ []) h k = absurd (omega arith)
read-begins (cmd ∷ (high ∷ [])) h k = absurd (omega arith)
read-begins (cmd ∷ (high ∷ (low ∷ field))) h k = read_first cmd high low field k

pub read-follows : (bytes : List ℕ) → 1 ≤ length bytes → byte bytes 0 < 0x80 → read bytes ≡ fragment (continuation (byte bytes 0) (drop 1 bytes))
read-follows [] h k = absurd (omega arith)
read-follows (number ∷ field) h k = read-later number field k

-- the ranges of its parts
abbrev pub Formed : Fragment → Type 0
Formed (initialization cmd n field) = 0x80 ≤ cmd
Formed (continuation k field) = k < 0x80

pub read-written : (f : Fragment) → Formed f → read (written f) ≡ fragment f
unfolding written
read-written (initialization cmd n field) h =
    let declared : n / 0x100 * 0x100 + n % 0x100 ≡ n = omega arith in
    read_first cmd (n / 0x100) (n % 0x100) field h ∙ ap (λ (m : ℕ). fragment (initialization cmd m field)) declared
read-written (continuation k field) h = read-later k field h

-- ---- a fragment heard
module _ (size space : ℕ) (s : Collection) (bytes : List ℕ) where
  pub hear-over : size < length bytes → hear size space s bytes ≡ taken s (refused 15)
  unfolding hear pick
  hear-over h = simp (lt-ltb size (length bytes) h)

  pub hear-read : length bytes ≤ size → hear size space s bytes ≡ on_read space s (read bytes)
  unfolding hear pick
  hear-read h = simp (le-ltb size (length bytes) h)

  pub hear-is : (f : Fragment) → length bytes ≤ size → read bytes ≡ fragment f → hear size space s bytes ≡ on_fragment space s f
  hear-is f h e = hear-read h ∙ ap (on_read space s) e

  pub hear-none : length bytes ≤ size → read bytes ≡ too_short → hear size space s bytes ≡ taken s (refused 15)
  hear-none h e = hear-read h ∙ ap (on_read space s) e

module _ (s : Collection) (b : Begun) (field : List ℕ) where
  sum : length (b.collected ++ field) ≡ length b.collected + length field
  sum = length-append b.collected field

  pub gather-over : b.declared < length b.collected + length field → gather s b field ≡ taken s (refused 18)
  unfolding gather pick
  gather-over h = simp (lt-ltb b.declared (length (b.collected ++ field)) (omega (arith, sum)))

  pub gather-waits : length b.collected + length field < b.declared
      → gather s b field ≡ taken (collecting (record { command = b.command; declared = b.declared; collected = b.collected ++ field; due = b.due })) waiting
  unfolding gather pick
  gather-waits h =
      simp (le-ltb b.declared (length (b.collected ++ field)) (omega (arith, sum)), lt-ltb (length (b.collected ++ field)) b.declared (omega (arith, sum)))

  pub gather-whole : b.declared ≡ length b.collected + length field → gather s b field ≡ taken none (message b.command (b.collected ++ field))
  unfolding gather pick
  gather-whole h =
      let all : take b.declared (b.collected ++ field) ≡ b.collected ++ field = rw (h ∙ sym sum) (take-length (b.collected ++ field)) in
      simp (le-ltb b.declared (length (b.collected ++ field)) (omega (arith, sum)), le-ltb (length (b.collected ++ field)) b.declared (omega (arith, sum)))
      (ap (λ (t : List ℕ). taken none (message b.command t)) all)

-- the fragment that is due
pub on-due : (space : ℕ) (b : Begun) (k : ℕ) (field : List ℕ) → k ≡ b.due
    → on_fragment space (collecting b) (continuation k field)
    ≡ gather (collecting b) (record { command = b.command; declared = b.declared; collected = b.collected; due = (b.due + 1) % 128 }) field
unfolding on_fragment pick
on-due space b k field e = simp (eq-eqb _ _ e)

pub on-first : (space cmd n : ℕ) (field : List ℕ) → n ≤ space
    → on_fragment space none (initialization cmd n field) ≡ gather none (record { command = cmd; declared = n; collected = []; due = 0 }) field
unfolding on_fragment begin pick
on-first space cmd n field h = simp (le-ltb space n h)

pub on-long : (space cmd n : ℕ) (field : List ℕ) → space < n → on_fragment space none (initialization cmd n field) ≡ taken none (refused 17)
unfolding on_fragment begin pick
on-long space cmd n field h = simp (lt-ltb space n h)

pub on-inside : (space : ℕ) (b : Begun) (cmd n : ℕ) (field : List ℕ) → on_fragment space (collecting b) (initialization cmd n field) ≡ taken (collecting b) (refused 16)
unfolding on_fragment
on-inside space b cmd n field = refl

pub on_none : (space k : ℕ) (field : List ℕ) → on_fragment space none (continuation k field) ≡ taken none (refused 16)
unfolding on_fragment
on_none space k field = refl

pub on-another : (space : ℕ) (b : Begun) (k : ℕ) (field : List ℕ) → (k ≡ b.due → ⊥) → on_fragment space (collecting b) (continuation k field) ≡ taken (collecting b) (refused 16)
unfolding on_fragment pick
on-another space b k field e = simp (ne_eqb _ _ e)

-- ---- the fragments of a message
module _ (size cmd : ℕ) (payload : List ℕ) where
  abbrev n : ℕ
  n = length payload

  -- the fragments' bytes, by the chunk that each has
  abbrev pub first : List ℕ → List ℕ
  first chunk = written (initialization cmd n chunk)

  abbrev pub later : ℕ → List ℕ → List ℕ
  later i chunk = written (continuation (i % 128) chunk)

  abbrev wire : List (List ℕ)
  wire = fragments_written size cmd payload

  pub wire-framed : wire ≡ framed first later (chunks (size - 3) (size - 1) payload)
  unfolding fragments
  wire-framed = chunks-framed (initialization cmd n) (λ i. continuation (i % 128)) (size - 3) (size - 1) payload written

  pub wire-first : get_or wire 0 [] ≡ first (take (size - 3) payload)
  wire-first = ap (λ (l : List (List ℕ)). get_or l 0 []) wire-framed ∙ framed-first first later (size - 3) (size - 1) payload []

  module _ (smallest : 20 ≤ size) where
    pub wire-count : length wire ≡ count (size - 3) (size - 1) n
    wire-count = ap length wire-framed ∙ framed-length first later (size - 3) (size - 1) payload (omega arith)

    pub wire-length : length wire ≡ 1 + (n + 1) / (size - 1)
    wire-length =
        let g : size - 1 ≡ 2 + (size - 3) = omega arith in
        wire-count ∙ rw g (count_next (size - 3) n)

    pub wire-later : (i : ℕ) → 1 + i < length wire → get_or wire (suc i) [] ≡ later i (take (size - 1) (drop (size - 3 + (size - 1) * i) payload))
    wire-later i h =
        ap (λ (l : List (List ℕ)). get_or l (suc i) []) wire-framed ∙ framed-later first later (size - 3) (size - 1) payload (omega arith) i [] (omega (arith, wire-count))

    -- a fragment's bytes, counted: its head and its chunk
    first-long : length (get_or wire 0 []) ≡ 3 + length (get_or (chunks (size - 3) (size - 1) payload) 0 [])
    unfolding written
    first-long = rw (wire-first, chunks-first (size - 3) (size - 1) (omega arith) payload) (omega arith)

    later-long : (i : ℕ) → 1 + i < length wire → length (get_or wire (suc i) []) ≡ 1 + length (get_or (chunks (size - 3) (size - 1) payload) (suc i) [])
    unfolding written
    later-long i h = rw (wire-later i h, chunks-later (size - 3) (size - 1) (omega arith) payload i) (omega arith)

    -- as many as there are bytes in a data field, at most
    first_short : length (get_or (chunks (size - 3) (size - 1) payload) 0 []) ≤ size - 3
    first_short = rw (chunks-first (size - 3) (size - 1) (omega arith) payload) (simp length-take (omega arith))

    later-short : (i : ℕ) → length (get_or (chunks (size - 3) (size - 1) payload) (suc i) []) ≤ size - 1
    later-short i = rw (chunks-later (size - 3) (size - 1) (omega arith) payload i) (simp length-take (omega arith))

    some_bytes : (i : ℕ) → i < length wire → 1 ≤ length (get_or wire i [])
    some_bytes zero h = omega (arith, first-long)
    some_bytes (suc i) h = omega (arith, later-long i (omega arith))

    most_bytes : (i : ℕ) → length (get_or wire i []) ≤ size
    most_bytes zero = omega (arith, first-long, first_short)
    most_bytes (suc i) = by_place (dec_le (length wire) (suc i))
      where
        by_place : Dec (length wire ≤ suc i) → length (get_or wire (suc i) []) ≤ size
        by_place (yes p) = rw (get_or-eq_default wire [] p) (omega arith)
        by_place (no p) = omega (arith, later-long i (omega arith), later-short i)

    full-bytes : (i : ℕ) → 1 + i < length wire → length (get_or wire i []) ≡ size
    full-bytes zero h = omega (arith, first-long, chunks-full (size - 3) (size - 1) (omega arith) payload 0 (omega (arith, wire-count)))
    full-bytes (suc i) h =
        omega (arith, later-long i (omega arith), chunks-full (size - 3) (size - 1) (omega arith) payload (suc i) (omega (arith, wire-count)))

    pub cuts-over-bluetooth : CutsOverBluetooth size cmd payload
    cuts-over-bluetooth = record {
      formula = wire-length;
      some = some_bytes;
      most = most_bytes;
      full = full-bytes;
      fewest = λ k h. rw wire-count (count-least (size - 3) (size - 1) n (omega arith) k h);
    }

-- ---- the round trip
module _ (size cmd : ℕ) (payload : List ℕ) (space : ℕ) (can : Sendable size cmd payload space) where
  abbrev Goes : Collection → List ℕ → Told → Collection → Type 0
  Goes s bytes a t = (answer size space s bytes ≡ a) × (next size space s bytes ≡ t)

  goes : (s : Collection) (f : Fragment) (a : Told) (t : Collection) → Formed f → length (written f) ≤ size → on_fragment space s f ≡ taken t a → Goes s (written f) a t
  goes s f a t formed fits e =
      let k = hear-is size space s (written f) f fits (read-written f formed) ∙ e in
      (ap (λ (x : Taken). x.answer) k, ap (λ (x : Taken). x.collection) k)

  -- the number that is due after so many continuation fragments
  abbrev begun : List ℕ → ℕ → Collection
  begun had k = collecting (record { command = cmd; declared = n size cmd payload; collected = had; due = k % 128 })

  takes : (k : ℕ) (had chunk : List ℕ) (a : Told) (t : Collection) → length chunk ≤ size - 1
      → gather (begun had k) (record { command = cmd; declared = n size cmd payload; collected = had; due = (k + 1) % 128 }) chunk ≡ taken t a
      → Goes (begun had k) (later size cmd payload k chunk) a t
  unfolding written
  takes k had chunk a t short e =
      let up : (k % 128 + 1) % 128 ≡ (k + 1) % 128 = omega arith in
      goes (begun had k) (continuation (k % 128) chunk) a t (omega arith) (omega (arith, can.smallest)) (on-due space _ (k % 128) chunk refl ∙ rw up e)

  takes-full : (k : ℕ) (had bytes : List ℕ) → k < 65536 → size - 1 < length bytes → n size cmd payload ≡ length had + length bytes
      → Goes (begun had k) (later size cmd payload k (take (size - 1) bytes)) waiting (begun (had ++ take (size - 1) bytes) (k + 1))
  takes-full k had bytes low long is =
      let m : length (take (size - 1) bytes) ≡ size - 1 = length-take-le (size - 1) bytes (omega arith) in
      takes k had (take (size - 1) bytes) _ _ (omega arith) (gather-waits _ _ _ (omega arith))

  takes-last : (k : ℕ) (had bytes : List ℕ) → k < 65536 → length bytes ≤ size - 1 → n size cmd payload ≡ length had + length bytes
      → Goes (begun had k) (later size cmd payload k bytes) (message cmd (had ++ bytes)) none
  takes-last k had bytes low short is = takes k had bytes _ _ short (gather-whole _ _ _ is)

  begins : (chunk : List ℕ) (a : Told) (t : Collection) → length chunk ≤ size - 3
      → gather none (record { command = cmd; declared = n size cmd payload; collected = []; due = 0 }) chunk ≡ taken t a → Goes none (first size cmd payload chunk) a t
  unfolding written
  begins chunk a t short e =
      goes none (initialization cmd (n size cmd payload) chunk) a t can.command (omega (arith, can.smallest)) (on-first space cmd (n size cmd payload) chunk can.fits ∙ e)

  begins-full : size - 3 < n size cmd payload → Goes none (first size cmd payload (take (size - 3) payload)) waiting (begun (take (size - 3) payload) 0)
  begins-full long =
      let m : length (take (size - 3) payload) ≡ size - 3 = length-take-le (size - 3) payload (omega arith) in
      begins (take (size - 3) payload) _ _ (omega arith) (gather-waits _ _ _ (omega arith))

  begins-last : n size cmd payload ≤ size - 3 → Goes none (first size cmd payload payload) (message cmd payload) none
  begins-last short = begins payload _ _ short (gather-whole none (record { command = cmd; declared = n size cmd payload; collected = []; due = 0 }) payload (omega arith))

  reads-wire : Reads (next size space) (answer size space) waiting none (fragments_written size cmd payload) (message cmd payload) none
  reads-wire =
      rw (wire-framed size cmd payload)
      (reads_chunks (next size space) (answer size space) waiting (size - 3) (size - 1) 65536 (omega (arith, can.smallest)) payload (first size cmd payload) (later size cmd payload) none begun (message cmd) takes-full takes-last begins-full begins-last (omega (arith, can.smallest, can.short)))

  round_trip : RoundTrip size cmd payload space
  round_trip = record { given_back = reads-wire.0; done = reads-wire.1 }

pub round-trips : RoundTrips
round-trips = round_trip
