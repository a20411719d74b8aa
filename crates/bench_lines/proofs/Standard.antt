-- A step prints what the standard's device answers. Assumes nothing.
use Prim.Native.Nat.{ℕ, ◌≤◌}
use native.Mathlib.Omega.{arith}
use mathlib.Core.Path.{◌≡◌, refl, sym, ap, subst, ◌∙◌}
use mathlib.Core.List.{List, []}
use mathlib.Core.Bool.{Bool, true, false, cond}
use borrow.Author.Tests.{le-ltb}
use lib.ListN.{length, take, length-take}
use Rattle.ctaphid.specs.Commands.{Command, number}
use Rattle.ctaphid.specs.Transport as standard
use Rattle.ctaphid.specs.Transport.{nothing, reply, request}
use Rattle.ctaphid.specs.Device.{device_step}
use Rattle.ctaphid.proofs.Replies.{Low, replies-low}
use Rattle.packet.specs.Numbers.{command_meant, command_case}
use Rattle.answers.specs.declared.Answer.{Answer}
use Rattle.answers.specs.declared.Answer.TheVariants as answers
use Rattle.answers.specs.Answers.{Said, refused, answered, answer_of, is_echo, said}
use Rattle.answers.specs.Payloads.{up_to, payload_of}
use Rattle.hid.specs.Meaning.{device_of}
use Rattle.hid.specs.MainHid.{MainStepping, main_heard_of}
use Rattle.runs.specs.Steps.{main_on_event}
use Rattle.answers.proofs.Fronts.{up_to_fits}
use Rattle.runs.proofs.Refines.{main-step-is, main-step-refines}
use Rattle.bench_output.specs.Printing.{answer_lines, said_with, is_unsendable, printed}
use Rattle.bench_lines.specs.Answering.{PrintsTheStandard}
use Rattle.bench_output.proofs.Answers.{text-is}

-- the buffer of an answer holds its payload
abbrev Held : Answer → (message short : List ℕ) → Type 0
Held (answers.Refused n) m r = Unit {0}
Held answers.Nothing m r = Unit {0}
Held (answers.Message c cmd len) m r = len ≤ length m
Held (answers.Echo c cmd len) m r = len ≤ length m
Held (answers.Reply c cmd len) m r = len ≤ length r

-- it does where the answer is laid out from the one that it says
abbrev payload_in : Said → List ℕ
payload_in (refused n) = []
payload_in (answered nothing) = []
payload_in (answered (reply c cmd payload)) = payload
payload_in (answered (request c cmd payload)) = payload

abbrev LowIn : Said → Type 0
LowIn (refused n) = Unit {0}
LowIn (answered a) = Low a

holds : (payload l : List ℕ) → take (length payload) l ≡ payload → length payload ≤ length l
holds payload l e = omega (arith, ap length e, length-take (length payload) l)

held-reply : (c : ℕ) (cmd : Command) (payload m r : List ℕ) → said (answer_of (reply c cmd payload)) m r ≡ answered (reply c cmd payload) → Held (answer_of (reply c cmd payload)) m r
held-reply c cmd payload m r = by_kind (is_echo cmd)
  where
    by_kind : (b : Bool) → said (cond b (answers.Echo c (command_case cmd) (length payload)) (answers.Reply c (command_case cmd) (length payload))) m r ≡ answered (reply c cmd payload)
        → Held (cond b (answers.Echo c (command_case cmd) (length payload)) (answers.Reply c (command_case cmd) (length payload))) m r
    by_kind true e = holds payload m (ap payload_in e)
    by_kind false e = holds payload r (ap payload_in e)

held : (a : standard.Answer) (m r : List ℕ) → said (answer_of a) m r ≡ answered a → Held (answer_of a) m r
held nothing m r e = tt
held (reply c cmd payload) m r e = held-reply c cmd payload m r e
held (request c cmd payload) m r e = holds payload m (ap payload_in e)

-- so that it says the same with its payload
module _ (m r : List ℕ) where
  said-with : (a : Answer) → Held a m r → said_with a (payload_of a m r) ≡ said a m r
  said-with (answers.Refused n) h = refl
  said-with answers.Nothing h = refl
  said-with (answers.Message c cmd len) h = ap (λ (l : List ℕ). answered (request c (command_meant cmd) l)) (sym (up_to_fits len m h))
  said-with (answers.Echo c cmd len) h = ap (λ (l : List ℕ). answered (reply c (command_meant cmd) l)) (sym (up_to_fits len m h))
  said-with (answers.Reply c cmd len) h = ap (λ (l : List ℕ). answered (reply c (command_meant cmd) l)) (sym (up_to_fits len r h))

  front-short : (len : ℕ) (l : List ℕ) → len ≤ length l → length (up_to len l) ≤ length l
  front-short len l h = rw (← up_to_fits len l h) (omega (arith, length-take len l))

  payload-short : (a : Answer) → Held a m r → length m ≤ 7609 → length r ≤ 7609 → length (payload_of a m r) ≤ 7609
  payload-short (answers.Refused n) h k l = omega arith
  payload-short answers.Nothing h k l = omega arith
  payload-short (answers.Message c cmd len) h k l = omega (arith, front-short len m h)
  payload-short (answers.Echo c cmd len) h k l = omega (arith, front-short len m h)
  payload-short (answers.Reply c cmd len) h k l = omega (arith, front-short len r h)

-- and a device's reply can be sent
sendable : (a : standard.Answer) (m r : List ℕ) → Low a → (x : Answer) → said x m r ≡ answered a → is_unsendable x ≡ false
sendable a m r low (answers.Refused n) e = refl
sendable a m r low answers.Nothing e = refl
sendable a m r low (answers.Message c cmd len) e = refl
sendable a m r low (answers.Echo c cmd len) e = le-ltb 127 (number (command_meant cmd)) (subst LowIn (sym e) low)
sendable a m r low (answers.Reply c cmd len) e = le-ltb 127 (number (command_meant cmd)) (subst LowIn (sym e) low)

pub prints-the-standard : PrintsTheStandard
unfolding main_heard_of
prints-the-standard o e b out sound comes roomy k l long =
    let x : MainStepping = main_on_event o e b in
    let a : standard.Answer = (device_step (device_of o b.message) e).answer in
    let same : x.stepped.answer ≡ answer_of a = ap (λ (y : MainStepping). y.stepped.answer) (main-step-is o e b sound comes roomy) in
    let says : said x.stepped.answer x.message x.reply ≡ answered a = (main-step-refines o e b sound comes roomy).answer in
    let h : Held x.stepped.answer x.message x.reply =
    subst (λ (y : Answer). Held y x.message x.reply) (sym same) (held a x.message x.reply (subst (λ (y : Answer). said y x.message x.reply ≡ answered a) same says)) in
    text-is x.stepped.answer x.message x.reply out long refl (sendable a x.message x.reply (replies-low (device_of o b.message) e) x.stepped.answer says) (payload_of x.stepped.answer x.message x.reply) refl (payload-short x.message x.reply x.stepped.answer h k l)
    ∙ ap (λ (s : Said). printed (answer_lines s) out) (said-with x.message x.reply x.stepped.answer h ∙ says)
