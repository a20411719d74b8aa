-- Sizes and times. Assumes nothing.
use Rattle.std.specs.Prelude.{ℕ, ◌+◌, ◌-◌, ◌*◌, ◌^◌}

-- §11.2.4: a packet over HID
abbrev pub packet_size : ℕ
packet_size = 64

-- §11.2.4: 57 bytes in an initialization packet, and 59 in each continuation packet, whose numbers go from 0 to 127: 7,609 bytes
abbrev pub largest : ℕ
largest = 57 + 128 * 59

-- §11.2.9.1.3: the fields of a reply to INIT take 17 bytes. No reply that the device makes up itself is longer, so the short reply buffer has at least so many
abbrev pub short_reply : ℕ
short_reply = 17

-- §11.2.5.2 gives no figure: DIFFERENCES 2. Milliseconds
abbrev pub timeout : ℕ
timeout = 100

-- §11.2.9.2.1 leaves the sign to the vendor: DIFFERENCES 3. Milliseconds
abbrev pub wink_time : ℕ
wink_time = 5000

-- the last time that there is, in milliseconds (docs/DECISIONS.md, 3)
abbrev pub last_time : ℕ
last_time = 2 ^ 48 - 1
