-- The lines that an answer of the device prints (docs/RULES.md, The bench's lines). Assumes nothing.
use Rattle.std.specs.Prelude.{ℕ, ◌+◌, ◌*◌, ◌≤◌, List, [], ◌∷◌, ◌++◌, Bool, false, Result, Ok, Err, length, ltb}
use Rattle.bench_input.specs.Refusing.{refusing}
use Rattle.ctaphid.specs.Limits.{largest}
use Rattle.ctaphid.specs.Commands.{number}
use Rattle.ctaphid.specs.Packets.{four}
use Rattle.ctaphid.specs.Transport.{nothing, reply, request}
use Rattle.packet.specs.Numbers.{command_meant}
use Rattle.collect.specs.Adding.{front}
use Rattle.answers.specs.declared.Answer.{Answer}
use Rattle.answers.specs.declared.Answer.TheVariants as answers
use Rattle.answers.specs.Answers.{Said, refused, answered}
use Rattle.answers.specs.Payloads.{payload_of}
use Rattle.bench_input.specs.Hex.{ascii, hex_of}
use Rattle.bench_output.specs.Placing.{decimal}
use Rattle.bench_output.specs.Packets.{packet_lines}
use Rattle.packet.specs.declared.refusal.Refusal.{Refusal}
use Rattle.packet.specs.declared.refusal.Refusal.TheVariants.{ShortBuffer, Command, LongPayload}

-- ---- lines

-- an empty payload is left off with its space
abbrev pub payload_text : (payload : List ℕ) → List ℕ
payload_text [] = []
payload_text (byte ∷ rest) = ascii " " ++ hex_of (byte ∷ rest)

-- the channel in four bytes, most significant first
unfoldable pub command_line : (channel command : ℕ) → (payload : List ℕ) → List ℕ
command_line c cmd payload = ascii "command " ++ hex_of (four c) ++ ascii " " ++ hex_of (cmd ∷ []) ++ payload_text payload ++ ascii "\n"

-- refusals have numbers below 1,000
unfoldable pub refused_line : ℕ → List ℕ
refused_line n = ascii "refused " ++ decimal 3 n ++ ascii "\n"

-- what is said: a refusal, or an answer of the standard's device
unfoldable pub answer_lines : Said → List ℕ
answer_lines (refused n) = refused_line n
answer_lines (answered nothing) = ascii "-\n"
answer_lines (answered (reply c cmd payload)) = packet_lines c (number cmd) payload
answer_lines (answered (request c cmd payload)) = command_line c (number cmd) payload

-- ---- what the functions leave

-- what the code's answer says, with this payload
abbrev pub said_with : Answer → (payload : List ℕ) → Said
said_with (answers.Refused n) payload = refused n
said_with answers.Nothing payload = answered nothing
said_with (answers.Message c cmd len) payload = answered (request c (command_meant cmd) payload)
said_with (answers.Echo c cmd len) payload = answered (reply c (command_meant cmd) payload)
said_with (answers.Reply c cmd len) payload = answered (reply c (command_meant cmd) payload)

-- whether it is to be sent with a command above 127, which no packet can carry
abbrev pub is_unsendable : Answer → Bool
is_unsendable (answers.Refused n) = false
is_unsendable answers.Nothing = false
is_unsendable (answers.Message c cmd len) = false
is_unsendable (answers.Echo c cmd len) = ltb 127 (number (command_meant cmd))
is_unsendable (answers.Reply c cmd len) = ltb 127 (number (command_meant cmd))

-- 129 packets of 2 + 128 + 1 characters: no answer prints more
abbrev pub longest : ℕ
longest = 129 * (2 + 2 * 64 + 1)

-- all that a call leaves: its answer, which is how much of the text buffer's front was written, and that buffer
pub record Printing : Type 0 where
  pub answer : Result ℕ Refusal
  pub out : List ℕ

abbrev pub printing : Result ℕ Refusal → List ℕ → Printing
printing t out = record { answer = t; out = out }

-- the text at the buffer's front, and how long it is
abbrev pub printed : (text buffer : List ℕ) → Printing
printed t out = printing (Ok (length t)) (front t out)

-- refusal 2: the buffer is shorter than the longest text; 12: a command above 127 to be sent; 7: a payload of over 7,609 bytes. A refused call leaves the buffer
unfoldable pub text_of : Answer → (message short out : List ℕ) → Printing
text_of a m r out =
    refusing (λ refusal. printing (Err refusal) out)
    ((ltb (length out) longest, ShortBuffer) ∷ (is_unsendable a, Command) ∷ (ltb largest (length (payload_of a m r)), LongPayload) ∷ [])
    (printed (answer_lines (said_with a (payload_of a m r))) out)

-- refusal 2: the buffer is shorter than the text
unfoldable pub hex_text_of : (bytes out : List ℕ) → Printing
hex_text_of bytes out =
    refusing (λ refusal. printing (Err refusal) out)
    ((ltb (length out) (2 * length bytes), ShortBuffer) ∷ [])
    (printed (hex_of bytes) out)

-- no text is longer than that
abbrev pub NoneLonger : Type 0
NoneLonger = (a : Answer) (payload : List ℕ) → length payload ≤ largest → length (answer_lines (said_with a payload)) ≤ longest
