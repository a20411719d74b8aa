-- What each `return` of the C boundary meets. Assumes nothing.
use Prim.Native.Nat.{ℕ}
use native.Mathlib.Omega.{arith}
use mathlib.Core.Path.{◌≡◌, refl, sym, ap, ◌∙◌}
use mathlib.Core.List.{List}
use lib.ListN.{length}
use Rattle.ctaphid.specs.Commands.{number}
use Rattle.ctaphid.specs.Host.{InitHeard, not_init, init_fields}
use Rattle.packet.specs.Numbers.{command_meant}
use Rattle.packet.specs.Reading.{reading_of, said, field_of}
use Rattle.packet.specs.declared.command.CtapHidCommand.{CtapHidCommand}
use Rattle.packet.specs.declared.ProcessedPacket.{ProcessedPacket}
use Rattle.packet.specs.declared.ProcessedPacket.TheVariants.{InitPacket, ContinuationPacket}
use Rattle.packet.specs.declared.Reading.{Reading}
use Rattle.packet.specs.declared.Reading.TheVariants as reading
use Rattle.send.specs.Sending.{Left, left}
use Rattle.send.specs.declared.Count.{Count}
use Rattle.send.specs.declared.Count.TheVariants as count
use Rattle.send.specs.declared.Written.{Written}
use Rattle.hid.specs.Hearing.{Stepping, stepping}
use Rattle.hid.specs.MainHid.{MainStepping, main_stepping}
use Rattle.hid.specs.declared.CtapHid.{CtapHid}
use Rattle.hid.specs.declared.MainHid.{MainHid}
use Rattle.hid.specs.declared.Stepped.{Stepped}
use Rattle.hid.specs.declared.MainStepped.{MainStepped}
use Rattle.answers.specs.declared.Answer.{Answer}
use Rattle.answers.specs.declared.Answer.TheVariants.{Refused, Nothing, Message, Echo, Reply}
use Rattle.hid.specs.declared.Running.{Running}
use Rattle.hid.specs.declared.Ready.{Ready}
use Rattle.hid.specs.declared.Ready.TheVariants as ready
use Rattle.hid.specs.declared.MainReady.{MainReady}
use Rattle.hid.specs.declared.MainReady.TheVariants as main_ready
use Rattle.host.specs.Reading.{Reading as HostReading, reading as host_reading}
use Rattle.host.specs.Meaning.{init_reply_of}
use Rattle.host.specs.Init.{rest_of}
use Rattle.host.specs.declared.Progress.{Progress}
use Rattle.host.specs.declared.Answer.{Answer as HostAnswer}
use Rattle.host.specs.declared.Answer.TheVariants as host
use Rattle.host.specs.declared.InitReply.{InitReply}
use Rattle.host.specs.declared.InitAnswer.TheVariants as init
use Rattle.flat.specs.declared.Outcome.{Outcome}
use Rattle.flat.specs.declared.InitOutcome.{InitOutcome}
use Rattle.flat.specs.Telling.{told, refused_by, outcome_of, packet_outcome, read_outcome, count_outcome, running_number, written_number, made_of, main_made_of, flat, flat_of, main_flat, main_flat_of, put, put_of, host_outcome_of, host_flat, host_flat_of, no_fields, init_outcome_of}

-- ---- an answer
module _ (a : Answer) (x : Outcome) where
  pub tells-refused : {n : ℕ} → a ≡ Refused n → x ≡ refused_by n → x ≡ outcome_of a
  tells-refused e k = k ∙ sym (ap outcome_of e)

  pub tells-nothing : a ≡ Nothing → x ≡ told 1 0 0 0 → x ≡ outcome_of a
  tells-nothing e k = k ∙ sym (ap outcome_of e)

  module _ {cid : ℕ} {cmd : CtapHidCommand} {len : ℕ} (n : ℕ) (is : n ≡ number (command_meant cmd)) where
    pub tells-message : a ≡ Message cid cmd len → x ≡ told 2 cid n len → x ≡ outcome_of a
    tells-message e k = k ∙ (ap (λ (t : ℕ). told 2 cid t len) is ∙ sym (ap outcome_of e))

    pub tells-echo : a ≡ Echo cid cmd len → x ≡ told 3 cid n len → x ≡ outcome_of a
    tells-echo e k = k ∙ (ap (λ (t : ℕ). told 3 cid t len) is ∙ sym (ap outcome_of e))

    pub tells-reply : a ≡ Reply cid cmd len → x ≡ told 4 cid n len → x ≡ outcome_of a
    tells-reply e k = k ∙ (ap (λ (t : ℕ). told 4 cid t len) is ∙ sym (ap outcome_of e))

-- ---- steps
pub steps-flat : (s : Stepped) (m r : List ℕ) (o : Outcome) (y : Stepping) → stepping s m r ≡ y → o ≡ outcome_of s.answer → flat (record { hid = s.hid; outcome = o }) m r ≡ flat_of y
steps-flat s m r o y e k = ap (λ (t : Outcome). flat (record { hid = s.hid; outcome = t }) m r) k ∙ ap flat_of e

pub main-steps-flat : (s : MainStepped) (m r : List ℕ) (o : Outcome) (y : MainStepping) → main_stepping s m r ≡ y → o ≡ outcome_of s.answer → main_flat (record { hid = s.hid; outcome = o }) m r ≡ main_flat_of y
main-steps-flat s m r o y e k = ap (λ (t : Outcome). main_flat (record { hid = s.hid; outcome = t }) m r) k ∙ ap main_flat_of e

-- ---- questions
pub runs : (n : ℕ) {x y : Running} → x ≡ y → n ≡ running_number x → n ≡ running_number y
runs n e k = k ∙ ap running_number e

-- ---- set-up
module _ (old : CtapHid) {x : Ready} (y : Ready) (e : x ≡ y) where
  pub makes : {s : CtapHid} → x ≡ ready.Hid s → made_of old (ready.Hid s) ≡ made_of old y
  makes k = ap (made_of old) (sym k ∙ e)

  pub makes_none : {n : ℕ} → x ≡ ready.Refused n → made_of old (ready.Refused n) ≡ made_of old y
  makes_none k = ap (made_of old) (sym k ∙ e)

module _ (old : MainHid) {x : MainReady} (y : MainReady) (e : x ≡ y) where
  pub main-makes : {o : MainHid} → x ≡ main_ready.Hid o → main_made_of old (main_ready.Hid o) ≡ main_made_of old y
  main-makes k = ap (main_made_of old) (sym k ∙ e)

  pub main-makes-none : {n : ℕ} → x ≡ main_ready.Refused n → main_made_of old (main_ready.Refused n) ≡ main_made_of old y
  main-makes-none k = ap (main_made_of old) (sym k ∙ e)

-- ---- packets
module _ (p : ProcessedPacket) (x : Outcome) where
  pub tells_first : {cid cmd len : ℕ} → p ≡ InitPacket cid cmd len → x ≡ told 5 cid cmd len → x ≡ packet_outcome p
  tells_first e k = k ∙ sym (ap packet_outcome e)

  pub tells-later : {cid seq : ℕ} → p ≡ ContinuationPacket cid seq → x ≡ told 6 cid seq 0 → x ≡ packet_outcome p
  tells-later e k = k ∙ sym (ap packet_outcome e)

same_outcome : (p : ProcessedPacket) (field : List ℕ) → packet_outcome p ≡ read_outcome (said (reading.Packet p) field)
same_outcome (InitPacket cid cmd len) field = refl
same_outcome (ContinuationPacket cid seq) field = refl

module _ (p : List ℕ) {y : Reading} (e : said y (field_of (reading_of p)) ≡ reading_of p) (x : Outcome) where
  pub reads : {q : ProcessedPacket} → y ≡ reading.Packet q → x ≡ packet_outcome q → x ≡ read_outcome (reading_of p)
  reads {q} k h = h ∙ (same_outcome q (field_of (reading_of p)) ∙ (ap (λ (t : Reading). read_outcome (said t (field_of (reading_of p)))) (sym k) ∙ ap read_outcome e))

  pub reads_none : {n : ℕ} → y ≡ reading.Refused n → x ≡ refused_by n → x ≡ read_outcome (reading_of p)
  reads_none {n} k h = h ∙ (ap (λ (t : Reading). read_outcome (said t (field_of (reading_of p)))) (sym k) ∙ ap read_outcome e)

module _ {y : Count} (z : Count) (e : y ≡ z) (x : Outcome) where
  pub counts : {n : ℕ} → y ≡ count.Packets n → x ≡ told 7 0 0 n → x ≡ count_outcome z
  counts k h = h ∙ ap count_outcome (sym k ∙ e)

  pub counts-none : {n : ℕ} → y ≡ count.Refused n → x ≡ refused_by n → x ≡ count_outcome z
  counts-none k h = h ∙ ap count_outcome (sym k ∙ e)

pub puts : (n : ℕ) (w : Written) (p : List ℕ) (y : Left) → left w p ≡ y → n ≡ written_number w → put n p ≡ put_of y
puts n w p y e k = ap (λ (t : ℕ). put t p) k ∙ ap put_of e

-- ---- the host
module _ (a : HostAnswer) (x : Outcome) where
  pub tells-host-refused : {n : ℕ} → a ≡ host.Refused n → x ≡ refused_by n → x ≡ host_outcome_of a
  tells-host-refused e k = k ∙ sym (ap host_outcome_of e)

  pub tells-ignored : a ≡ host.Ignored → x ≡ told 8 0 0 0 → x ≡ host_outcome_of a
  tells-ignored e k = k ∙ sym (ap host_outcome_of e)

  pub tells-keepalive : {status : ℕ} → a ≡ host.Keepalive status → x ≡ told 9 0 status 0 → x ≡ host_outcome_of a
  tells-keepalive e k = k ∙ sym (ap host_outcome_of e)

  pub tells-waiting : a ≡ host.Waiting → x ≡ told 10 0 0 0 → x ≡ host_outcome_of a
  tells-waiting e k = k ∙ sym (ap host_outcome_of e)

  pub tells-collected : {cmd len : ℕ} → a ≡ host.Reply cmd len → x ≡ told 11 0 cmd len → x ≡ host_outcome_of a
  tells-collected e k = k ∙ sym (ap host_outcome_of e)

pub host-flat : (s : Progress) (m : List ℕ) (o : Outcome) (y : HostReading) → host_reading s m ≡ y → o ≡ host_outcome_of s.answer → host_flat (record { collection = s.collection; outcome = o }) m ≡ host_flat_of y
host-flat s m o y e k = ap (λ (t : Outcome). host_flat (record { collection = s.collection; outcome = t }) m) k ∙ ap host_flat_of e

-- a reply to INIT: what the host's `init_reply` and `init_rest` hand back is told together
pub init-refused : (h : InitHeard) (x : InitReply) → x ≡ init_reply_of h → (o : InitOutcome) {n : ℕ} → x.answer ≡ init.Refused n → o ≡ no_fields n → o ≡ init_outcome_of h
init-refused (not_init number) x e o {n} k q = let is : n ≡ number = cc in q ∙ ap no_fields is
init-refused (init_fields f) x e o {n} k q = let z : ◌≡◌ {A = ℕ} 0 1 = cc in absurd (omega arith)

pub init-told : (h : InitHeard) (x : InitReply) → x ≡ init_reply_of h → (rest : List ℕ) → rest ≡ rest_of h
    → {cid protocol major minor build capabilities : ℕ} → x.answer ≡ init.Fields cid protocol major minor build capabilities
    → record { cid = cid; protocol = protocol; major = major; minor = minor; build = build; capabilities = capabilities; refusal = 0; rest = length rest; nonce = x.nonce }
    ≡ init_outcome_of h
init-told (not_init number) x e rest r k = let z : ◌≡◌ {A = ℕ} 0 1 = cc in absurd (omega arith)
init-told (init_fields f) x e rest r k = cc

pub ruleset telling = (tells-refused, tells-nothing, tells-message, tells-echo, tells-reply, steps-flat, main-steps-flat, runs, makes, makes_none, main-makes, main-makes-none, tells_first, tells-later, reads, reads_none, counts, counts-none, puts, tells-host-refused, tells-ignored, tells-keepalive, tells-waiting, tells-collected, host-flat, init-refused, init-told)
