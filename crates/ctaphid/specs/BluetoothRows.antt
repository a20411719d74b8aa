-- Small cases of Bluetooth framing, as one table. Sizes and bytes are bare here. Assumes nothing.
use Rattle.std.specs.Prelude.{ℕ, ◌+◌, ◌-◌, ◌*◌, ◌≤◌, ◌≡◌, List, [], ◌∷◌, map, true, false, length, drop, get_or, replicate}
use Rattle.ctaphid.specs.Host.{Collection, none, collecting}
use Rattle.ctaphid.specs.Bluetooth.{is_size, longest_message, is_command, fragments_written, refused, waiting, message, Taken, taken, hear, answers, RoundTrip}

-- 40 bytes, as the standard's own example has them in fragments of 20 (§11.4, 'Framing fragmentation')
abbrev pub forty : List ℕ
forty = 1 ∷ 2 ∷ 3 ∷ 4 ∷ 5 ∷ 6 ∷ 7 ∷ 8 ∷ 9 ∷ 10 ∷ 11 ∷ 12 ∷ 13 ∷ 14 ∷ 15 ∷ 16 ∷ 17 ∷ 18 ∷ 19 ∷ 20 ∷ 21 ∷ 22 ∷ 23 ∷ 24 ∷ 25 ∷ 26 ∷ 27 ∷ 28 ∷ 29 ∷ 30 ∷ 31 ∷ 32 ∷ 33 ∷ 34 ∷ 35 ∷ 36 ∷ 37 ∷ 38 ∷ 39 ∷ 40 ∷ []

-- a message of 5 bytes of which 3 are there, and a number is due
abbrev pub half : (due : ℕ) → Collection
half due = collecting (record { command = 0x83; declared = 5; collected = 0xa ∷ 0xb ∷ 0xc ∷ []; due = due })

-- a fragment at a size of 20, with room for 5 bytes
abbrev pub heard : Collection → List ℕ → Taken
heard s bytes = hear 20 5 s bytes

pub record BluetoothRows : Type 0 where
  -- sizes are 20 to 512, the longest message has 65,535 bytes, and commands are these five bytes
  pub sizes : map is_size (19 ∷ 20 ∷ 512 ∷ 513 ∷ []) ≡ false ∷ true ∷ true ∷ false ∷ []
  pub longest : longest_message ≡ 65535
  pub commands : map is_command (0x80 ∷ 0x81 ∷ 0x82 ∷ 0x83 ∷ 0x84 ∷ 0xbd ∷ 0xbe ∷ 0xbf ∷ 0xc0 ∷ 0x01 ∷ []) ≡ false ∷ true ∷ true ∷ true ∷ false ∷ false ∷ true ∷ true ∷ false ∷ false ∷ []
  -- 40 bytes at 20: 17, 19 and 4, the first continuation with number 0, and nothing behind the last byte
  pub example : fragments_written 20 0x81 forty
      ≡ (0x81 ∷ 0 ∷ 40 ∷ 1 ∷ 2 ∷ 3 ∷ 4 ∷ 5 ∷ 6 ∷ 7 ∷ 8 ∷ 9 ∷ 10 ∷ 11 ∷ 12 ∷ 13 ∷ 14 ∷ 15 ∷ 16 ∷ 17 ∷ [])
      ∷ (0 ∷ 18 ∷ 19 ∷ 20 ∷ 21 ∷ 22 ∷ 23 ∷ 24 ∷ 25 ∷ 26 ∷ 27 ∷ 28 ∷ 29 ∷ 30 ∷ 31 ∷ 32 ∷ 33 ∷ 34 ∷ 35 ∷ 36 ∷ [])
      ∷ (1 ∷ 37 ∷ 38 ∷ 39 ∷ 40 ∷ [])
      ∷ []
  pub read_back : answers 20 40 none (fragments_written 20 0x81 forty) ≡ waiting ∷ waiting ∷ message 0x81 forty ∷ []
  -- 400 bytes at 512: one fragment, as in the standard's other example
  pub at-512 : (payload : List ℕ) → length payload ≡ 400 → fragments_written 512 0x81 payload ≡ (0x81 ∷ 1 ∷ 0x90 ∷ payload) ∷ []
  -- 0 bytes: a head alone
  pub empty : fragments_written 20 0xbe [] ≡ (0xbe ∷ 0 ∷ 0 ∷ []) ∷ []
  -- s - 3 bytes fill the first fragment, and s - 2 need another, with one byte of data
  pub fills : (size cmd : ℕ) (payload : List ℕ) → 20 ≤ size → length payload ≡ size - 3 → map length (fragments_written size cmd payload) ≡ size ∷ []
  pub one-over : (size cmd : ℕ) (payload : List ℕ) → 20 ≤ size → length payload ≡ size - 2 → map length (fragments_written size cmd payload) ≡ size ∷ 2 ∷ []
  -- 65,535 bytes at 20: 3,450 fragments. Numbers wrap 26 times: continuation 26 * 128 has number 0 for the 27th time, and the last has 120 and the 6 last bytes
  pub most : (cmd : ℕ) (payload : List ℕ) → length payload ≡ 65535 → length (fragments_written 20 cmd payload) ≡ 3450
  pub number-127 : (cmd : ℕ) (payload : List ℕ) → length payload ≡ 65535 → get_or (get_or (fragments_written 20 cmd payload) (1 + 127) []) 0 0 ≡ 127
  pub number-128 : (cmd : ℕ) (payload : List ℕ) → length payload ≡ 65535 → get_or (get_or (fragments_written 20 cmd payload) (1 + 128) []) 0 1 ≡ 0
  pub wrap-26 : (cmd : ℕ) (payload : List ℕ) → length payload ≡ 65535 → get_or (get_or (fragments_written 20 cmd payload) (1 + 26 * 128) []) 0 1 ≡ 0
  pub last : (cmd : ℕ) (payload : List ℕ) → length payload ≡ 65535 → get_or (fragments_written 20 cmd payload) 3449 [] ≡ 120 ∷ drop 65529 payload
  -- and they are given back, at the smallest size and at the largest
  pub back-20 : (payload : List ℕ) → length payload ≡ 65535 → RoundTrip 20 0x81 payload 65535
  pub back-512 : (payload : List ℕ) → length payload ≡ 65535 → RoundTrip 512 0x81 payload 65535
  -- fragments of 0 and 2 bytes: too short. One of 1 byte is too short where it begins a message
  pub no_bytes : heard (half 7) [] ≡ taken (half 7) (refused 15)
  pub one-byte-begins : heard (half 7) (0x81 ∷ []) ≡ taken (half 7) (refused 15)
  pub two-bytes-begin : heard none (0x81 ∷ 0 ∷ []) ≡ taken none (refused 15)
  -- a continuation of 1 byte has its head: with its number due it is taken, brings nothing, and the next number is due
  pub one_byte : heard (half 7) (7 ∷ []) ≡ taken (half 8) waiting
  pub one-byte-wrong : heard (half 7) (6 ∷ []) ≡ taken (half 7) (refused 16)
  pub one-byte-none : heard none (0 ∷ []) ≡ taken none (refused 16)
  -- above the size: 15, also where 16, 17 or 18 would do
  pub above : heard (half 7) (6 ∷ replicate 20 0) ≡ taken (half 7) (refused 15)
  pub at_size : heard (half 7) (6 ∷ replicate 19 0) ≡ taken (half 7) (refused 16)
  pub above-begins : heard none (0x81 ∷ 0 ∷ 6 ∷ replicate 18 0) ≡ taken none (refused 15)
  -- declared 0: with data 18, without a message of 0 bytes
  pub zero-with-data : heard none (0x81 ∷ 0 ∷ 0 ∷ 1 ∷ []) ≡ taken none (refused 18)
  pub zero : heard none (0x81 ∷ 0 ∷ 0 ∷ []) ≡ taken none (message 0x81 [])
  -- a message of exactly the buffer is taken; one above it is 17, also where there is more data than that
  pub exactly : heard none (0x81 ∷ 0 ∷ 5 ∷ 1 ∷ 2 ∷ 3 ∷ 4 ∷ 5 ∷ []) ≡ taken none (message 0x81 (1 ∷ 2 ∷ 3 ∷ 4 ∷ 5 ∷ []))
  pub too_long : heard none (0x81 ∷ 0 ∷ 6 ∷ []) ≡ taken none (refused 17)
  pub too-long-first : heard none (0x81 ∷ 0 ∷ 6 ∷ replicate 7 0) ≡ taken none (refused 17)
  pub too_much : heard none (0x81 ∷ 0 ∷ 2 ∷ 1 ∷ 2 ∷ 3 ∷ []) ≡ taken none (refused 18)
  -- inside a message: a first fragment, of the same command too, and a wrong number leave the collection; so does more data than is due
  pub inside : heard (half 7) (0x83 ∷ 0 ∷ 5 ∷ []) ≡ taken (half 7) (refused 16)
  pub inside-long : heard (half 7) (0x83 ∷ 0 ∷ 6 ∷ []) ≡ taken (half 7) (refused 16)
  pub wrong : heard (half 7) (8 ∷ 1 ∷ 2 ∷ []) ≡ taken (half 7) (refused 16)
  pub over : heard (half 7) (7 ∷ 1 ∷ 2 ∷ 3 ∷ []) ≡ taken (half 7) (refused 18)
  pub right : heard (half 7) (7 ∷ 1 ∷ 2 ∷ []) ≡ taken none (message 0x83 (0xa ∷ 0xb ∷ 0xc ∷ 1 ∷ 2 ∷ []))
  -- after 127 comes 0
  pub wraps : heard (half 127) (127 ∷ []) ≡ taken (half 0) waiting
  -- any byte from 128 on is a command
  pub lowest : heard none (0x80 ∷ 0 ∷ 0 ∷ []) ≡ taken none (message 0x80 [])
  pub highest : heard none (0xff ∷ 0 ∷ 0 ∷ []) ≡ taken none (message 0xff [])
