-- Refusals: a call that is wrong gets a number, and alters nothing. They are ours, not the standard's: the table of docs/RULES.md, in its order. 8 is not used again (DECISIONS 47). Assumes nothing.
use Rattle.std.specs.Prelude.{ℕ, List, [], ◌∷◌, Bool, ltb}
use Rattle.ctaphid.specs.Limits.{last_time}

pub data Refusal : Type 0 where
  PacketSize ShortBuffer Unsound Time Maximum Index LongPayload Sequence LongReply NotInit Command Vendor FragmentSize FragmentLength FragmentNumber LongMessage Excess : Refusal

abbrev pub refusal_number : Refusal → ℕ
-- the packet slice, read or written, isn't 64 bytes
refusal_number PacketSize = 1
-- a device buffer is shorter than is asked
refusal_number ShortBuffer = 2
-- the state, or a host's collection, is not sound
refusal_number Unsound = 3
-- the time is above 2^48 - 1 or before the last time
refusal_number Time = 4
-- set-up with a maximum above 7,609
refusal_number Maximum = 5
-- a packet index at or past the packet count
refusal_number Index = 6
-- a payload to be split has over 7,609 bytes
refusal_number LongPayload = 7
-- host: wrong number, or a first packet inside a reply
refusal_number Sequence = 9
-- host: a KEEPALIVE's declared length isn't 1, or another command's is above 7,609 or the host buffer
refusal_number LongReply = 10
-- host: not an INIT reply, or one of under 17 or above 7,609 bytes
refusal_number NotInit = 11
-- a command above 127 to be sent
refusal_number Command = 12
-- set-up with a number that isn't the vendor's, 64 to 127
refusal_number Vendor = 13
-- Bluetooth: a fragment size below 20 or above 512
refusal_number FragmentSize = 14
-- Bluetooth: a fragment too short for its head, or above the size
refusal_number FragmentLength = 15
-- Bluetooth: a wrong number, a continuation with no message begun, or a first fragment inside one
refusal_number FragmentNumber = 16
-- Bluetooth: a declared length above the buffer
refusal_number LongMessage = 17
-- Bluetooth: more data than remains due
refusal_number Excess = 18

-- 4, as tests with their number
abbrev pub untimely : (last time : ℕ) → List (Bool × ℕ)
untimely last time = (ltb last_time time, 4) ∷ (ltb time last, 4) ∷ []
