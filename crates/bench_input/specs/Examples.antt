-- What some lines read as (docs/RULES.md, The bench's lines, and the forms that the bench must not take). Assumes nothing.
use Rattle.std.specs.Prelude.{◌≡◌, true, false, [], ◌∷◌, ◌++◌, replicate}
use Rattle.bench_input.specs.Hex.{ascii, hex_of}
use Rattle.bench_input.specs.Lines.{reads, unread, line_of}

pub record Examples : Type 0 where
  -- a line of the example of docs/RULES.md, and one with a zero in front and a flag
  pub first : line_of (ascii "5 0 00000001810002abcd") ≡ reads (record { time = 5; disabled = false; bytes = 0 ∷ 0 ∷ 0 ∷ 1 ∷ 0x81 ∷ 0 ∷ 2 ∷ 0xab ∷ 0xcd ∷ [] })
  pub flagged : line_of (ascii "007 1 0f") ≡ reads (record { time = 7; disabled = true; bytes = 0x0f ∷ [] })
  -- the most that there can be
  pub digits-15 : line_of (ascii "999999999999999 0 00") ≡ reads (record { time = 999_999_999_999_999; disabled = false; bytes = 0 ∷ [] })
  pub bytes-64 : line_of (ascii "0 0 " ++ hex_of (replicate 64 0xff)) ≡ reads (record { time = 0; disabled = false; bytes = replicate 64 0xff })
  -- lines without a reading
  pub empty : line_of (ascii "") ≡ unread
  pub digits-16 : line_of (ascii "0000000000000000 0 00") ≡ unread
  pub bytes-65 : line_of (ascii "0 0 " ++ hex_of (replicate 65 0xff)) ≡ unread
  pub no-digits : line_of (ascii " 0 00") ≡ unread
  pub sign : line_of (ascii "-1 0 00") ≡ unread
  pub flag-2 : line_of (ascii "0 2 00") ≡ unread
  pub no_bytes : line_of (ascii "0 0 ") ≡ unread
  pub odd : line_of (ascii "0 0 000") ≡ unread
  pub capital : line_of (ascii "0 0 AB") ≡ unread
  pub two-spaces : line_of (ascii "0 0  00") ≡ unread
  pub tab : line_of (ascii "0\t0\t00") ≡ unread
  pub space-in-front : line_of (ascii " 0 0 00") ≡ unread
  pub space-after : line_of (ascii "0 0 00 ") ≡ unread
  pub carriage-return : line_of (ascii "0 0 00\r") ≡ unread
