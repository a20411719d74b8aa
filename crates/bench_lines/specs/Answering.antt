-- docs/RULES.md, The bench's lines: what a line prints, and what it leaves. Assumes nothing.
use Rattle.std.specs.Prelude.{ℕ, ◌≤◌, ◌≡◌, List, [], ◌∷◌, Err, length, ltb}
use Rattle.bench_input.specs.Refusing.{refusing}
use Rattle.ctaphid.specs.Limits.{packet_size, largest}
use Rattle.ctaphid.specs.Messages.{padded}
use Rattle.ctaphid.specs.Transport.{Event}
use Rattle.ctaphid.specs.Device.{device_step}
use Rattle.answers.specs.Answers.{answered}
use Rattle.hid.specs.Soundness.{Sound}
use Rattle.hid.specs.Meaning.{device_of}
use Rattle.hid.specs.MainHid.{MainStepping, main_step_of}
use Rattle.hid.specs.declared.MainHid.{MainHid}
use Rattle.runs.specs.Steps.{Buffers, Comes, Roomy, main_on_event}
use Rattle.bench_input.specs.Hex.{ascii}
use Rattle.bench_input.specs.Lines.{Reading, reads, unread, line_of}
use Rattle.bench_output.specs.Printing.{Printing, printed, answer_lines, text_of, longest}
use Rattle.bench_lines.specs.declared.Printed.{Printed}
use Rattle.packet.specs.declared.refusal.Refusal.TheVariants.{ShortBuffer}

-- all that a call leaves: what it returns, and the three buffers
pub record Benched : Type 0 where
  pub printed : Printed
  pub message : List ℕ
  pub reply : List ℕ
  pub out : List ℕ

abbrev pub benched : Printed → List ℕ → List ℕ → List ℕ → Benched
benched p m r out = record { printed = p; message = m; reply = r; out = out }

abbrev pub unread_line : List ℕ
unread_line = ascii "line?\n"

abbrev pub leaves : MainHid → Printing → (message reply : List ℕ) → Benched
leaves hid t m r = benched (record { hid = hid; text = t.answer }) m r t.out

-- the device's step, and the lines of its answer
unfoldable pub step_on : MainStepping → (out : List ℕ) → Benched
step_on s out = leaves s.stepped.hid (text_of s.stepped.answer s.message s.reply out) s.message s.reply

-- a line without a reading prints `line?` and changes nothing
abbrev pub line_on : MainHid → Reading → (message reply out : List ℕ) → Benched
line_on hid (reads i) m r out = step_on (main_step_of hid i.time i.disabled (padded packet_size i.bytes) m r) out
line_on hid unread m r out = leaves hid (printed unread_line out) m r

-- refusal 2: the text buffer is shorter than the longest text
unfoldable pub bench_of : MainHid → (line message reply out : List ℕ) → Benched
bench_of hid l m r out =
    refusing (λ refusal. benched (record { hid = hid; text = Err refusal }) m r out)
    ((ltb (length out) longest, ShortBuffer) ∷ [])
    (line_on hid (line_of l) m r out)

-- a step of the device from a sound state prints what the standard's device answers. (That lent buffers keep their length is known of every call)
abbrev pub PrintsTheStandard : Type 0
PrintsTheStandard =
    (o : MainHid) (e : Event) (b : Buffers) (out : List ℕ) → Sound o.hid o.wink → Comes o.hid.last e → Roomy o.hid b
    → length (main_on_event o e b).message ≤ largest → length (main_on_event o e b).reply ≤ largest → longest ≤ length out
    → text_of (main_on_event o e b).stepped.answer (main_on_event o e b).message (main_on_event o e b).reply out
    ≡ printed (answer_lines (answered (device_step (device_of o b.message) e).answer)) out
