-- A message's packets are 64 bytes each, so that no refusal 1 meets them, and declare its length. Assumes nothing.
use Prim.Native.Nat.{ℕ, zero, suc, ◌+◌, ◌-◌, ◌*◌, ◌/◌, ◌%◌, ◌^◌, ◌≤◌, ◌<◌}
use native.Mathlib.Omega.{arith}
use native.Mathlib.Decide.{dec_le}
use mathlib.Core.Path.{◌≡◌, sym, subst}
use mathlib.Core.List.{List, [], ◌∷◌, ◌++◌, map}
use lib.ListN.{length, take, drop, replicate, length-take, length-drop, drop_of_length-le}
use Rattle.ctaphid.specs.Packets.{Packet, initialization, continuation, four, written, read, Bytes, Formed}
use Rattle.ctaphid.specs.Messages.{later, chunks, padded, fields, continuations, numbered, packets, wire}
use Rattle.ctaphid.specs.Host.{Sendable}
use Rattle.ctaphid.proofs.Packets.{written-length, read-written}
use Rattle.ctaphid.proofs.RoundTrip.{padded-length}
use Rattle.ctaphid.proofs.Reassembling.{later-none}
use Rattle.runs.specs.HostSteps.{Comes, Come}

-- ---- lists of bytes
bytes-cons : (x : ℕ) (l : List ℕ) → x < 0x100 → Bytes l → Bytes (x ∷ l)
bytes-cons x l h b zero = h
bytes-cons x l h b (suc i) = b i

bytes-append : (a b : List ℕ) → Bytes a → Bytes b → Bytes (a ++ b)
bytes-append [] b h k = k
bytes-append (x ∷ a) b h k = bytes-cons x (a ++ b) (h 0) (bytes-append a b (λ i. h (suc i)) k)

bytes-zeros : (n : ℕ) → Bytes (replicate n 0)
bytes-zeros zero i = omega arith
bytes-zeros (suc n) zero = omega arith
bytes-zeros (suc n) (suc i) = bytes-zeros n i

bytes_take : (n : ℕ) (l : List ℕ) → Bytes l → Bytes (take n l)
bytes_take zero l h = λ i. omega arith
bytes_take (suc n) [] h = λ i. omega arith
bytes_take (suc n) (x ∷ l) h = bytes-cons x (take n l) (h 0) (bytes_take n l (λ i. h (suc i)))

bytes_drop : (n : ℕ) (l : List ℕ) → Bytes l → Bytes (drop n l)
bytes_drop zero l h = h
bytes_drop (suc n) [] h = h
bytes_drop (suc n) (x ∷ l) h = bytes_drop n l (λ i. h (suc i))

bytes-padded : (g : ℕ) (l : List ℕ) → Bytes l → Bytes (padded g (take g l))
unfolding padded
bytes-padded g l h = bytes-append (take g l) (replicate (g - length (take g l)) 0) (bytes_take g l h) (bytes-zeros (g - length (take g l)))

size-padded : (g : ℕ) (l : List ℕ) → length (padded g (take g l)) ≡ g
size-padded g l = padded-length g (take g l) (omega (arith, length-take g l))

-- ---- packets
bytes-four : (c : ℕ) (l : List ℕ) → c < 2 ^ 32 → Bytes l → Bytes (four c ++ l)
bytes-four c l h b =
    let b₀ = bytes-cons (c % 0x100) l (omega arith) b in
    let b₁ = bytes-cons (c / 0x100 % 0x100) ((c % 0x100) ∷ l) (omega arith) b₀ in
    let b₂ = bytes-cons (c / 0x1_0000 % 0x100) ((c / 0x100 % 0x100) ∷ (c % 0x100) ∷ l) (omega arith) b₁ in
    bytes-cons (c / 0x100_0000) ((c / 0x1_0000 % 0x100) ∷ (c / 0x100 % 0x100) ∷ (c % 0x100) ∷ l) (omega arith) b₂

-- what is declared is no more than that
abbrev pub Declares : ℕ → Packet → Type 0
Declares n (initialization c cmd declared field) = declared ≤ n
Declares n (continuation c k field) = Unit {0}

abbrev pub Declare : ℕ → List (List ℕ) → Type 0
Declare n [] = Unit {0}
Declare n (p ∷ rest) = Declares n (read p) × Declare n rest

abbrev field : Packet → List ℕ
field (initialization c cmd n bytes) = bytes
field (continuation c k bytes) = bytes

-- a packet that can be written, of a message of n bytes
pub record Part (n : ℕ) (p : Packet) : Type 0 where
  pub formed : Formed p
  pub bytes : Bytes (field p)
  pub declares : Declares n p

part-comes : (n : ℕ) (p : Packet) → Part n p → Comes (written p)
unfolding written
part-comes n (initialization c cmd len rest) p =
    let b₀ = bytes-cons (len % 0x100) rest (omega arith) p.bytes in
    let b₁ = bytes-cons (len / 0x100) ((len % 0x100) ∷ rest) (omega (arith, p.formed.2)) b₀ in
    let b₂ = bytes-cons (cmd + 0x80) ((len / 0x100) ∷ (len % 0x100) ∷ rest) (omega (arith, p.formed.1)) b₁ in
    record {
      size = written-length (initialization c cmd len rest) p.formed;
      bytes = bytes-four c ((cmd + 0x80) ∷ (len / 0x100) ∷ (len % 0x100) ∷ rest) p.formed.0 b₂;
    }
part-comes n (continuation c k rest) p = record {
  size = written-length (continuation c k rest) p.formed;
  bytes = bytes-four c (k ∷ rest) p.formed.0 (bytes-cons k rest (omega (arith, p.formed.1)) p.bytes);
}

part-declares : (n : ℕ) (p : Packet) → Part n p → Declares n (read (written p))
part-declares n p part = subst (Declares n) (sym (read-written p part.formed)) part.declares

-- ---- all packets of a message
abbrev Parts : ℕ → List Packet → Type 0
Parts n [] = Unit {0}
Parts n (p ∷ rest) = Part n p × Parts n rest

parts-come : (n : ℕ) (ps : List Packet) → Parts n ps → Come (map written ps)
parts-come n [] h = tt
parts-come n (p ∷ rest) h = (part-comes n p h.0, parts-come n rest h.1)

parts-declare : (n : ℕ) (ps : List Packet) → Parts n ps → Declare n (map written ps)
parts-declare n [] h = tt
parts-declare n (p ∷ rest) h = (part-declares n p h.0, parts-declare n rest h.1)

module _ (n c : ℕ) (small : c < 2 ^ 32) where
  later-parts : (most : ℕ) (bytes : List ℕ) (k : ℕ) → length bytes ≤ most → 59 * k + length bytes ≤ 128 * 59 → Bytes bytes
      → Parts n (continuations c k (map (padded 59) (later 59 most bytes)))
  unfolding later numbered
  later-parts zero [] k h room b = tt
  later-parts zero (x ∷ xs) k h room b = tt
  later-parts (suc most) [] k h room b = tt
  later-parts (suc most) (x ∷ xs) k h room b = (
    record { formed = (small, omega arith, size-padded 59 (x ∷ xs)); bytes = bytes-padded 59 (x ∷ xs) b; declares = tt },
    by_size (dec_le (length (x ∷ xs)) 59) (λ m l. later-parts most (drop 59 (x ∷ xs)) (k + 1) m l (bytes_drop 59 (x ∷ xs) b)),
  )
    where
      left : length (drop 59 (x ∷ xs)) ≡ length (x ∷ xs) - 59
      left = length-drop 59 (x ∷ xs)

      Rest : Type 0
      Rest = Parts n (continuations c (k + 1) (map (padded 59) (later 59 most (drop 59 (x ∷ xs)))))

      by_size : Dec (length (x ∷ xs) ≤ 59) → (length (drop 59 (x ∷ xs)) ≤ most → 59 * (k + 1) + length (drop 59 (x ∷ xs)) ≤ 128 * 59 → Rest) → Rest
      by_size (yes p) again = let nil : drop 59 (x ∷ xs) ≡ [] = drop_of_length-le (x ∷ xs) p in rw (nil, later-none 59 most) tt
      by_size (no p) again = again (omega (arith, left)) (omega (arith, left))

module _ (c cmd : ℕ) (payload : List ℕ) (space : ℕ) (can : Sendable c cmd payload space) (b : Bytes payload) where
  parts : Parts (length payload) (packets c cmd payload)
  unfolding packets fields chunks
  parts = (
    record {
      formed = (can.channel, omega (arith, can.command), omega (arith, can.size), size-padded 57 payload);
      bytes = bytes-padded 57 payload b;
      declares = omega arith;
    },
    later-parts (length payload) c can.channel (length payload) (drop 57 payload) 0 (omega (arith, left)) (omega (arith, left, can.size)) (bytes_drop 57 payload b),
  )
    where
      left : length (drop 57 payload) ≡ length payload - 57
      left = length-drop 57 payload

  pub wire-comes : Come (wire c cmd payload)
  wire-comes = parts-come (length payload) (packets c cmd payload) parts

  pub wire-declares : Declare (length payload) (wire c cmd payload)
  wire-declares = parts-declare (length payload) (packets c cmd payload) parts
