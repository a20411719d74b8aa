-- What a line leaves, by its reading. Assumes nothing.
use Prim.Native.Nat.{ℕ, ◌<◌, ◌≤◌}
use mathlib.Core.Path.{◌≡◌, refl, sym, ap, ◌∙◌}
use mathlib.Core.List.{List}
use borrow.Author.Tests.{lt-ltb, le-ltb, eq-eqb}
use lib.ListN.{length}
use Rattle.ctaphid.specs.Choice.{pick}
use Rattle.hid.specs.MainHid.{MainStepping, main_stepping, main_step_of}
use Rattle.hid.specs.declared.MainHid.{MainHid}
use Rattle.hid.specs.declared.MainStepped.{MainStepped}
use Rattle.bench_input.specs.Lines.{Reading, reads, unread, line_of, Read, read, read_into, read_line_of}
use Rattle.bench_output.specs.Printing.{printing, printed, text_of}
use Rattle.bench_lines.specs.Answering.{Benched, benched, unread_line, leaves, step_on, line_on, bench_of}
use Rattle.bench_input.specs.declared.Line.{Line}
use Rattle.bench_lines.specs.declared.Printed.{Printed}
use Rattle.packet.specs.declared.refusal.Refusal.{Refusal}
use Rattle.packet.specs.declared.refusal.Refusal.TheVariants.{ShortBuffer}
use Rattle.std.proofs.Common.{Option, Some, None, Result, Ok, Err}

-- a step, and the text of its answer
pub stepped-on : (s : MainStepped) (m r : List ℕ) {x : MainStepping} (t : Result ℕ Refusal) (out out' : List ℕ)
    → main_stepping s m r ≡ x → printing t out' ≡ text_of s.answer m r out → benched (record { hid = s.hid; text = t }) m r out' ≡ step_on x out
unfolding step_on
stepped-on s m r t out out' e k = (λ i. leaves s.hid (k i) m r) ∙ ap (λ (y : MainStepping). step_on y out) e

-- a line without a reading
pub unread-left : (hid : MainHid) (m r out out' : List ℕ) (p : Printed) → (p.hid ≡ hid) × (printing p.text out' ≡ printed unread_line out) → benched p m r out' ≡ leaves hid (printed unread_line out) m r
unread-left hid m r out out' p (same, text-is) = (λ i. leaves (same i) (printing p.text out') m r) ∙ (λ i. leaves hid (text-is i) m r)

module _ (hid : MainHid) (l m r out : List ℕ) where
  pub bench-short : length out < 16899 → benched (record { hid = hid; text = Err ShortBuffer }) m r out ≡ bench_of hid l m r out
  unfolding bench_of pick
  bench-short h = simp (lt-ltb _ _ h)

  module _ (h : 16899 ≤ length out) (zeros : List ℕ) (long : length zeros ≡ 64) where
    -- what the code does with a reading
    abbrev made : Result (Option Line) Refusal → List ℕ → Benched
    made (Ok (Some line)) p = step_on (main_step_of hid line.time line.disabled p m r) out
    made (Ok None) p = leaves hid (printed unread_line out) m r
    made (Err refusal) p = leaves hid (printed unread_line out) m r

    abbrev made_of : Read → Benched
    made_of x = made x.answer x.packet

    as_read : (x : Reading) → made_of (read_into x zeros) ≡ line_on hid x m r out
    as_read (reads i) = refl
    as_read unread = refl

    as-answered : made_of (read_line_of l zeros) ≡ bench_of hid l m r out
    unfolding bench_of read_line_of pick
    as-answered = simp (le-ltb _ _ h, eq-eqb _ _ long) (as_read (line_of l))

    module _ {a : Result (Option Line) Refusal} (p : List ℕ) (e : read a p ≡ read_line_of l zeros) where
      pub answered : {a' : Result (Option Line) Refusal} (b : Benched) → a ≡ a' → b ≡ made a' p → b ≡ bench_of hid l m r out
      answered b is k = k ∙ (ap (λ (x : Result (Option Line) Refusal). made x p) (sym is) ∙ (ap made_of e ∙ as-answered))
