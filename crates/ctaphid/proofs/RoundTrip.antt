-- A message that is cut into packets and read by a host is given back. Assumes nothing.
use Prim.Native.Nat.{ℕ, ◌+◌, ◌^◌, ◌≤◌, ◌<◌}
use native.Mathlib.Omega.{arith}
use native.Mathlib.Decide.{ℕ_discrete}
use mathlib.Core.Path.{◌≡◌, refl, ap, ◌∙◌}
use mathlib.Core.List.{List, [], ◌∷◌, ◌++◌}
use borrow.Author.Tests.{lt-ltb, le-ltb, eq-eqb, ne_eqb}
use lib.Dec.{lit<}
use lib.ListN.{length, take, length-append, length-replicate}
use lib.Seq.{take-append_seam, take-append-add, length-take-le}
use Rattle.ctaphid.specs.Choice.{pick}
use Rattle.ctaphid.specs.Packets.{Packet, initialization, continuation, channel_in, read, written, Formed}
use Rattle.ctaphid.specs.Messages.{later, chunks, padded, fields, numbered, packets, wire}
use Rattle.ctaphid.specs.Receiver.{channel_of}
use Rattle.ctaphid.specs.Host.{Begun, Collection, none, collecting, Heard, ignored, keepalive, waiting, reply, Got, got, gather, alive, begin, when_none, when_begun, on_own, hear, answers, after, own, woven, Sendable, RoundTrip, RoundTrips}
use Rattle.ctaphid.proofs.Packets.{channel-read, read-written}
use Rattle.ctaphid.proofs.Splitting.{padded-full}
use Rattle.ctaphid.proofs.Messages.{first, next, wire-framed}
use Rattle.ctaphid.proofs.Reassembling.{Reads, reads_chunks}

-- ---- data fields
pub padded-length : (size : ℕ) (chunk : List ℕ) → length chunk ≤ size → length (padded size chunk) ≡ size
unfolding padded
padded-length size chunk h = simp (length-append, length-replicate) (omega arith)

-- all that is left stands at the front of its data field
padded-front : (size : ℕ) (chunk : List ℕ) → take (length chunk) (padded size chunk) ≡ chunk
unfolding padded
padded-front size chunk = take-append_seam chunk _

-- ---- what a data field adds
module _ (b : Begun) (field : List ℕ) where
  pub gather-waits : length b.collected + length field < b.declared
      → gather b field ≡ got (collecting (record { command = b.command; declared = b.declared; collected = b.collected ++ field; due = b.due })) waiting
  unfolding gather pick
  gather-waits h = let n : length (b.collected ++ field) ≡ length b.collected + length field = length-append b.collected field in
      simp (lt-ltb (length (b.collected ++ field)) b.declared (omega arith))

  pub gather-whole : b.declared ≤ length b.collected + length field
      → gather b field ≡ got none (reply b.command (take b.declared (b.collected ++ field)))
  unfolding gather pick
  gather-whole h = let n : length (b.collected ++ field) ≡ length b.collected + length field = length-append b.collected field in
      simp (le-ltb (length (b.collected ++ field)) b.declared (omega arith))

-- with a full data field it waits, and the rest of the bytes are what is left
module _ (cmd declared k g : ℕ) (had bytes : List ℕ) (whole : declared ≡ length had + length bytes) where
  abbrev beg : Begun
  beg = record { command = cmd; declared = declared; collected = had; due = k }

  gather-full : g < length bytes
      → gather beg (padded g (take g bytes)) ≡ got (collecting (record { command = cmd; declared = declared; collected = had ++ take g bytes; due = k })) waiting
  gather-full h =
      let n : length (take g bytes) ≡ g = length-take-le g bytes (omega arith) in
      rw (padded-full g (take g bytes) n) (gather-waits beg (take g bytes) (omega arith))

  -- with the last, all is there
  gather-last : length bytes ≤ g → gather beg (padded g bytes) ≡ got none (reply cmd (had ++ bytes))
  gather-last h =
      let n : length (padded g bytes) ≡ g = padded-length g bytes h in
      let e : take declared (had ++ padded g bytes) ≡ had ++ bytes =
      ap (λ (j : ℕ). take j (had ++ padded g bytes)) whole ∙ take-append-add had (padded g bytes) (length bytes) ∙ ap (λ (t : List ℕ). had ++ t) (padded-front g bytes) in
      gather-whole beg (padded g bytes) (omega arith) ∙ ap (λ (t : List ℕ). got none (reply cmd t)) e

-- ---- packets of the channel
module _ (c space : ℕ) where
  -- a packet is answered so, and leaves this
  abbrev Goes : Collection → List ℕ → Heard → Collection → Type 0
  Goes s p a t = ((hear c space s (read p)).answer ≡ a) × ((hear c space s (read p)).collection ≡ t)

  goes : (s : Collection) (p : List ℕ) (a : Heard) (t : Collection) → hear c space s (read p) ≡ got t a → Goes s p a t
  goes s p a t e = (ap (λ (g : Got). g.answer) e, ap (λ (g : Got). g.collection) e)

  hear-own : (s : Collection) (p : Packet) → channel_of p ≡ c → hear c space s p ≡ on_own space s p
  unfolding hear pick
  hear-own s p e = simp (eq-eqb _ _ e)

  module _ (small : c < 2 ^ 32) where
    -- a written packet of the channel, read again
    hear-written : (s : Collection) (p : Packet) → Formed p → channel_of p ≡ c → hear c space s (read (written p)) ≡ on_own space s p
    hear-written s p f e = ap (λ (q : Packet). hear c space s q) (read-written p f) ∙ hear-own s p e

    -- the continuation packet that is due
    hear-due : (cmd declared k : ℕ) (had field : List ℕ) → k < 0x80 → length field ≡ 59
        → hear c space (collecting (record { command = cmd; declared = declared; collected = had; due = k })) (read (written (continuation c k field)))
        ≡ gather (record { command = cmd; declared = declared; collected = had; due = k + 1 }) field
    unfolding on_own when_begun pick
    hear-due cmd declared k had field h n = hear-written _ (continuation c k field) (small, h, n) refl ∙ simp (eq-eqb k k refl)

-- ---- packets of other channels between
module _ (c space : ℕ) where
  hear-other : (s : Collection) (p : List ℕ) → (channel_in p ≡ c → ⊥) → hear c space s (read p) ≡ got s ignored
  unfolding hear pick
  hear-other s p n = rw (channel-read p) (simp (ne_eqb _ _ n))

  -- they are ignored: the others are answered as if they had come alone
  among : (s : Collection) (ps : List (List ℕ)) → (answers c space s ps ≡ woven c ps (answers c space s (own c ps))) × (after c space s ps ≡ after c space s (own c ps))
  unfolding own woven pick
  among s [] = (refl, refl)
  among s (p ∷ rest) = by-channel (ℕ_discrete (channel_in p) c) (λ t. among t rest)
    where
      by-channel : Dec (channel_in p ≡ c)
          → ((t : Collection) → (answers c space t rest ≡ woven c rest (answers c space t (own c rest))) × (after c space t rest ≡ after c space t (own c rest)))
          → (answers c space s (p ∷ rest) ≡ woven c (p ∷ rest) (answers c space s (own c (p ∷ rest)))) × (after c space s (p ∷ rest) ≡ after c space s (own c (p ∷ rest)))
      by-channel (yes e) again =
          let t = (hear c space s (read p)).collection in
          simp (eq-eqb _ _ e) (ap (λ (l : List Heard). (hear c space s (read p)).answer ∷ l) (again t).0, (again t).1)
      by-channel (no n) again =
          let k = hear-other s p n in
          simp (ne_eqb _ _ n) ((λ i. (k i).answer ∷ answers c space (k i).collection rest) ∙ ap (λ (l : List Heard). ignored ∷ l) (again s).0, (λ i. after c space (k i).collection rest) ∙ (again s).1)

-- ---- the round trip
module _ (c cmd : ℕ) (payload : List ℕ) (space : ℕ) (can : Sendable c cmd payload space) where
  abbrev n : ℕ
  n = length payload

  -- the initialization packet
  hear-first : (chunk : List ℕ) → length chunk ≤ 57
      → hear c space none (read (first c cmd payload chunk)) ≡ gather (record { command = cmd; declared = n; collected = []; due = 0 }) (padded 57 chunk)
  unfolding on_own when_none begin pick
  hear-first chunk f =
      hear-written c space can.channel none (initialization c cmd n (padded 57 chunk)) (can.channel, omega (arith, can.command), omega (arith, can.size), padded-length 57 chunk f) refl
      ∙ simp (ne_eqb _ _ can.other, le-ltb _ _ can.size, le-ltb _ _ can.fits)

  abbrev begun : List ℕ → ℕ → Collection
  begun had due = collecting (record { command = cmd; declared = n; collected = had; due = due })

  takes-full : (k : ℕ) (had bytes : List ℕ) → k < 128 → 59 < length bytes → n ≡ length had + length bytes
      → Goes c space (begun had k) (next c cmd payload k (take 59 bytes)) waiting (begun (had ++ take 59 bytes) (k + 1))
  takes-full k had bytes low long is =
      let m : length (take 59 bytes) ≡ 59 = length-take-le 59 bytes (omega arith) in
      goes c space _ _ waiting _ (hear-due c space can.channel cmd n k had _ (omega arith) (padded-length 59 (take 59 bytes) (omega arith)) ∙ gather-full cmd n (k + 1) 59 had bytes is long)

  takes-last : (k : ℕ) (had bytes : List ℕ) → k < 128 → length bytes ≤ 59 → n ≡ length had + length bytes
      → Goes c space (begun had k) (next c cmd payload k bytes) (reply cmd (had ++ bytes)) none
  takes-last k had bytes low short is =
      goes c space _ _ _ none (hear-due c space can.channel cmd n k had _ (omega arith) (padded-length 59 bytes short) ∙ gather-last cmd n (k + 1) 59 had bytes is short)

  begins : 57 < n → Goes c space none (first c cmd payload (take 57 payload)) waiting (begun (take 57 payload) 0)
  begins long =
      let m : length (take 57 payload) ≡ 57 = length-take-le 57 payload (omega arith) in
      goes c space none _ waiting _ (hear-first (take 57 payload) (omega arith) ∙ gather-full cmd n 0 57 [] payload (omega arith) long)

  begins-last : n ≤ 57 → Goes c space none (first c cmd payload payload) (reply cmd payload) none
  begins-last short = goes c space none _ _ none (hear-first payload short ∙ gather-last cmd n 0 57 [] payload (omega arith) short)

  reads-wire : Reads (λ s p. (hear c space s (read p)).collection) (λ s p. (hear c space s (read p)).answer) waiting none (wire c cmd payload) (reply cmd payload) none
  reads-wire =
      rw (wire-framed c cmd payload)
      (reads_chunks _ _ waiting 57 59 128 (lit< tt) payload (first c cmd payload) (next c cmd payload) none begun (reply cmd) takes-full takes-last begins begins-last (omega (arith, can.size)))

  keeps-alive : (status : ℕ) → hear c space none (read (written (initialization c 0x3b 1 (padded 57 (status ∷ []))))) ≡ got none (keepalive status)
  unfolding on_own when_none alive pick padded
  keeps-alive status = hear-written c space can.channel none (initialization c 0x3b 1 (padded 57 (status ∷ []))) (can.channel, omega arith, omega arith, refl) refl

  reported-is : (status : ℕ) → (answers c space none (wire c 0x3b (status ∷ [])) ≡ keepalive status ∷ []) × (after c space none (wire c 0x3b (status ∷ [])) ≡ none)
  unfolding packets fields chunks later numbered
  reported-is status = (ap (λ (g : Got). g.answer ∷ []) (keeps-alive status), ap (λ (g : Got). g.collection) (keeps-alive status))

  round_trip : RoundTrip c cmd payload space
  round_trip = record {
    given_back = reads-wire.0;
    done = reads-wire.1;
    given-back-among = λ ps e. (among c space none ps).0 ∙ ap (λ (l : List (List ℕ)). woven c ps (answers c space none l)) e ∙ ap (woven c ps) reads-wire.0;
    done-among = λ ps e. (among c space none ps).1 ∙ ap (λ (l : List (List ℕ)). after c space none l) e ∙ reads-wire.1;
    reported = λ status. (reported-is status).0;
    reported-none = λ status. (reported-is status).1;
  }

pub round-trips : RoundTrips
round-trips = round_trip
