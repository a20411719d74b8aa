-- §11.2.4: a message cut into packets. Assumes nothing.
use Rattle.std.specs.Prelude.{ℕ, zero, suc, ◌+◌, ◌-◌, ◌*◌, ◌/◌, ◌≤◌, ◌<◌, ◌≡◌, length, take, drop, get_or, replicate, ltb}
use mathlib.Core.List.{List, [], ◌∷◌, ◌++◌, map, flatten}
use Rattle.ctaphid.specs.Choice.{pick}
use Rattle.ctaphid.specs.Commands.{CBOR, number}
use Rattle.ctaphid.specs.Limits.{largest}
use Rattle.ctaphid.specs.Packets.{Packet, initialization, continuation, written}

-- ---- the payload in chunks: at most f bytes in the first, at most g in each later one

-- bytes in chunks of g, the last with what is left. `most` only bounds the recursion: there are never more chunks than bytes
unfoldable pub later : ℕ → ℕ → List ℕ → List (List ℕ)
later g zero bytes = []
later g (suc most) [] = []
later g (suc most) (b ∷ bytes) = take g (b ∷ bytes) ∷ later g most (drop g (b ∷ bytes))

-- §11.2.4: what does not fit into the initialization packet follows in continuation packets
unfoldable pub chunks : ℕ → ℕ → List ℕ → List (List ℕ)
chunks f g payload = take f payload ∷ later g (length payload) (drop f payload)

-- how many chunks n bytes make: one, and as many of g as hold what is over f
abbrev pub count : ℕ → ℕ → ℕ → ℕ
count f g n = 1 + (n - f + (g - 1)) / g

-- §11.2.4: a data field of so many bytes, the unused ones 0
unfoldable pub padded : ℕ → List ℕ → List ℕ
padded size chunk = chunk ++ replicate (size - length chunk) 0

-- §11.2.4: where all of a packet is sent, each chunk fills its data field
abbrev pub in_fields : ℕ → ℕ → List (List ℕ) → List (List ℕ)
in_fields f g [] = []
in_fields f g (chunk ∷ rest) = padded f chunk ∷ map (padded g) rest

unfoldable pub fields : ℕ → ℕ → List ℕ → List (List ℕ)
fields f g payload = in_fields f g (chunks f g payload)

-- how many bytes the data field of packet i has
abbrev pub room : ℕ → ℕ → ℕ → ℕ
room f g zero = f
room f g (suc i) = g

-- the first of these in a packet of its own kind; the later ones numbered in ascending order, from k on or from 0
unfoldable pub numbered : {A : Type 0} → (later : ℕ → List ℕ → A) → (k : ℕ) → List (List ℕ) → List A
numbered later k [] = []
numbered later k (chunk ∷ rest) = later k chunk ∷ numbered later (k + 1) rest

abbrev pub framed : {A : Type 0} → (first : List ℕ → A) → (later : ℕ → List ℕ → A) → List (List ℕ) → List A
framed first later [] = []
framed first later (chunk ∷ rest) = first chunk ∷ numbered later 0 rest

-- what cutting owes at these sizes
pub record Cuts (f g : ℕ) : Type 0 where
  -- the chunks one after another are the payload, and so are the data fields, cut at its length
  pub whole : (payload : List ℕ) → flatten (chunks f g payload) ≡ payload
  pub padded-whole : (payload : List ℕ) → take (length payload) (flatten (fields f g payload)) ≡ payload
  -- there are as many as the count says, which hold the payload, and no fewer do
  pub counted : (payload : List ℕ) → length (chunks f g payload) ≡ count f g (length payload)
  pub holds : (n : ℕ) → n ≤ f + g * (count f g n - 1)
  pub least : (n k : ℕ) → n ≤ f + g * k → count f g n ≤ 1 + k
  -- none but the last is short
  pub full : (payload : List ℕ) (i : ℕ) → 1 + i < count f g (length payload) → length (get_or (chunks f g payload) i []) ≡ room f g i

-- ---- over HID: data fields of 57 and 59 bytes

-- §11.2.4: continuation packets, numbered in ascending order from k on
abbrev pub continuations : (channel k : ℕ) → List (List ℕ) → List Packet
continuations c k fields = numbered (continuation c) k fields

-- §11.2.4: the packets of a message, an initialization packet and continuation packets numbered from 0; and their bytes
unfoldable pub packets : (channel command : ℕ) → List ℕ → List Packet
packets c cmd payload = framed (initialization c cmd (length payload)) (continuation c) (fields 57 59 payload)

abbrev pub wire : (channel command : ℕ) → List ℕ → List (List ℕ)
wire c cmd payload = map written (packets c cmd payload)

-- what that comes to, with the figures of rows E and F: 57 bytes make 1 packet, 58 make 2, and 7,609 make 129, the last of which has number 127
pub record CutsOverHid : Type 0 where
  pub formula : (c cmd : ℕ) (payload : List ℕ) → length (packets c cmd payload) ≡ 1 + (length payload + 1) / 59
  pub of-57 : count 57 59 57 ≡ 1
  pub of-58 : count 57 59 58 ≡ 2
  pub of-7609 : count 57 59 7609 ≡ 129
  pub last : (c cmd : ℕ) (payload : List ℕ) → length payload ≡ 7609 → get_or (wire c cmd payload) 128 [] ≡ written (continuation c 127 (padded 59 (take 59 (drop (57 + 59 * 127) payload))))

-- a reply of any length: one that no 129 packets hold is replaced by CBOR with one byte, a setting (DIFFERENCES 5)
unfoldable pub split_wire : (channel command : ℕ) → List ℕ → (internal : ℕ) → List (List ℕ)
split_wire c cmd payload internal =
    pick (ltb largest (length payload)) (wire c (number CBOR) (internal ∷ [])) (wire c cmd payload)
