-- A step of hid's on the state that it meets is the key's step. Assumes nothing.
use Prim.Native.Nat.{ℕ, ◌≤◌}
use native.Mathlib.Omega.{arith}
use mathlib.Core.Path.{◌≡◌, refl, sym, ap, ◌∙◌}
use mathlib.Core.List.{List, [], ◌∷◌}
use mathlib.Core.Bool.{Bool, true, false, cond, not}
use mathlib.Core.Logic.{◌⊎◌, inl, inr}
use borrow.Author.Tests.{ltb-false}
use lib.ListN.{length}
use lib.Dec.{ltb, eqb}
use Rattle.ctaphid.specs.Choice.{pick, refusing}
use Rattle.ctaphid.specs.Limits.{packet_size}
use Rattle.ctaphid.specs.Commands.{Command, MSG, WINK, is}
use Rattle.ctaphid.specs.Errors.{InvalidCmd}
use Rattle.ctaphid.specs.Settings.{Settings}
use Rattle.ctaphid.specs.Packets.{read}
use Rattle.ctaphid.specs.Transport as standard
use Rattle.ctaphid.specs.Transport.{Transport, Next, next, nothing, reply, request, error, hear}
use Rattle.ctaphid.specs.Device.{Device, above}
use Rattle.ctaphid.proofs.Refusing.{same_way}
use Rattle.ctaphid.specs.Interfaces.{request_on_vendor, on_vendor}
use Rattle.ctaphid.proofs.Commands.{Named}
use Rattle.ctaphid.proofs.Handed.{Readable, readable, is-msg}
use Rattle.ctaphid.proofs.Invariant.{same-settings}
use Rattle.packet.specs.Numbers.{command_case}
use Rattle.packet.proofs.Numbers.{meant-case}
use Rattle.collect.specs.Adding.{front}
use Rattle.answers.specs.Replies.{laid_of}
use Rattle.answers.proofs.Laying.{laid-roomy}
use Rattle.answers.specs.declared.Answer.TheVariants.{Refused, Message, Echo, Reply}
use Rattle.answers.specs.Answers.{is_echo, answer_of, replied}
use Rattle.hid.specs.declared.CtapHid.{CtapHid}
use Rattle.hid.specs.declared.MainHid.{MainHid}
use Rattle.hid.specs.declared.MainStepped.{MainStepped}
use Rattle.hid.specs.declared.Stepped.{Stepped}
use Rattle.hid.specs.Meaning.{transport_of, state_of}
use Rattle.hid.specs.State.{Serving, serving, served_of}
use Rattle.hid.specs.Hearing.{Stepping, stepping, stepping_of, message_after, heard_of}
use Rattle.hid.specs.Transport.{admitted_of, step_of}
use Rattle.hid.specs.Soundness.{is_sound}
use Rattle.hid.specs.Refusals.{refusals_where}
use Rattle.hid.specs.MainHid.{MainStepping, main_stepping, main_heard_of, main_step_of}
use Rattle.hid.proofs.Sound.{sound-is}
use Rattle.key.specs.declared.Key.{Key}
use Rattle.key.specs.Meaning.{vendor_in, with_last}
use Rattle.key.specs.Soundness.{is_key_sound}
use Rattle.key.specs.VendorHid.{is_strange, saying, finished_by, finished_of}
use Rattle.key.specs.Stepping.{never, restored_by, restored_of, main_key_of, vendor_heard_of, vendor_key_of}
use Rattle.key.proofs.Fitting.{Meets}

-- ---- a step on the state that it meets

-- what isn't sound is refused before its times are looked at
stopped : {A : Type 0} (P : A → A → Type 0) (f g : ℕ → A) → ((n : ℕ) → P (f n) (g n)) → (max last last' time packet message short : ℕ) (a b : A)
    → P (refusing f (refusals_where false max last time packet message short) a) (refusing g (refusals_where false max last' time packet message short) b)
unfolding pick
stopped P f g same max last last' time packet message short a b =
    same_way P f g ((not (eqb packet packet_size), 1) ∷ (ltb message max, 2) ∷ (ltb short 17, 2) ∷ []) (f 3) (g 3) same (λ passed. same 3)

-- nothing is sound at a time that there isn't
never-sound : (s : CtapHid) (wink : ℕ) → is_sound (with_last s never) wink ≡ false
never-sound s wink = by-test (is_sound (with_last s never) wink) refl
  where
    by-test : (b : Bool) → is_sound (with_last s never) wink ≡ b → b ≡ false
    by-test true e = let early : never ≤ 0xffff_ffff_ffff = (sound-is (with_last s never) wink e).last in absurd (omega (arith, early))
    by-test false e = refl

-- a step of hid's with what is behind it, which sets a refusal right, is the step behind the key's refusals. What it leaves depends on the last time that it meets
module _ {A : Type 0} (s : CtapHid) (wink time packet message short : ℕ) (behind : A → A) (refused : (last : ℕ) → ℕ → A) (heard : (last : ℕ) → A) (out : A) where
  abbrev tests : (sound : Bool) → (last : ℕ) → List (Bool × ℕ)
  tests sound last = refusals_where sound s.max last time packet message short

  abbrev met : (last : ℕ) → A
  met last = behind (refusing (refused last) (tests (is_sound (with_last s last) wink) last) (heard last))

  module _ (set-right : (last n : ℕ) → behind (refused last n) ≡ refused s.last n) (kept : 17 ≤ short → behind (heard s.last) ≡ out) where
    pub fitted : {sound : Bool} {own : CtapHid} → (is : Meets s wink sound own) → met is.last ≡ refusing (refused s.last) (tests sound s.last) out
    fitted {sound} is = by-how is.how
      where
        by : Bool → A
        by b = refusing (refused s.last) (tests b s.last) out

        by-how : ((is.last ≡ s.last) × (sound ≡ is_sound s wink)) ⊎ ((is.last ≡ never) × (sound ≡ false)) → met is.last ≡ by sound
        by-how (inl (e, its)) =
            ap met e
            ∙ (same_way (λ (x y : A). behind x ≡ y) (refused s.last) (refused s.last) (tests (is_sound s wink) s.last) _ out (set-right s.last) (λ passed. kept (ltb-false short 17 passed.1.1.0))
            ∙ ap by (sym its))
        by-how (inr (e, none)) =
            ap met e
            ∙ (ap (λ (b : Bool). behind (refusing (refused never) (tests b never) (heard never))) (never-sound s wink)
            ∙ (stopped (λ (x y : A). behind x ≡ y) (refused never) (refused s.last) (set-right never) s.max never s.last time packet message short _ out
            ∙ ap by (sym none)))

-- ---- main

-- the step, set right
abbrev restored : (last : ℕ) → MainStepping → MainStepping
restored last x = main_stepping (restored_of last x.stepped) x.message x.reply

-- what was heard is no refusal
said-restored : (a : standard.Answer) (last : ℕ) (o : MainHid) → restored_by (answer_of a) last o ≡ record { hid = o; answer = answer_of a }
said-restored nothing last o = refl
said-restored (reply c cmd payload) last o = by_kind (is_echo cmd)
  where
    by_kind : (b : Bool) → restored_by (cond b (Echo c (command_case cmd) (length payload)) (Reply c (command_case cmd) (length payload))) last o
        ≡ record { hid = o; answer = cond b (Echo c (command_case cmd) (length payload)) (Reply c (command_case cmd) (length payload)) }
    by_kind true = refl
    by_kind false = refl
said-restored (request c cmd payload) last o = refl

module _ (k : Key) (time : ℕ) (p m r : List ℕ) where
  abbrev shut : Bool
  shut = ltb time k.vendor.lock

  abbrev main_met : (last : ℕ) → MainHid
  main_met last = record { hid = with_last k.main.hid last; wink = k.main.wink }

  main-kept : restored k.main.hid.last (main_heard_of k.main time shut (read p) m r) ≡ main_heard_of k.main time shut (read p) m r
  unfolding main_heard_of
  main-kept =
      let n : Next Device = above time k.main.wink (hear (transport_of k.main.hid m) time shut (read p)) in
      ap (λ (x : MainStepped). main_stepping x (message_after k.main.hid time shut (read p) m) (replied n.answer r))
      (said-restored n.answer k.main.hid.last (record { hid = state_of k.main.hid time n.state.transport; wink = n.state.wink }))

  pub main-stepped : {own : CtapHid} → Meets k.main.hid k.main.wink (is_key_sound k) own → (x : MainStepped) (m1 r1 : List ℕ)
      → main_stepping x m1 r1 ≡ main_step_of (record { hid = own; wink = k.main.wink }) time shut p m r → (y : MainStepped) → y ≡ restored_of k.main.hid.last x → main_stepping y m1 r1 ≡ main_key_of k time p m r
  unfolding main_step_of main_key_of
  main-stepped met x m1 r1 h y is =
      ap (λ (t : MainStepped). main_stepping t m1 r1) is
      ∙ (ap (restored k.main.hid.last) (h ∙ ap (λ (t : CtapHid). main_step_of (record { hid = t; wink = k.main.wink }) time shut p m r) met.is)
      ∙ fitted k.main.hid k.main.wink time (length p) (length m) (length r) (restored k.main.hid.last) (λ last n. main_stepping (record { hid = main_met last; answer = Refused n }) m r) (λ last. main_heard_of (main_met last) time shut (read p) m r) _
      (λ last n. refl) (λ long. main-kept) met)

-- ---- vendor

-- the step, with check 8 behind it
abbrev finished : (last : ℕ) → Stepping → Stepping
finished last x = stepping_of (finished_of last x.stepped x.reply) x.message

-- check 8 for a message that is handed out, by its case and by the definition
module _ (s : CtapHid) (last c : ℕ) (cmd : Command) (payload r : List ℕ) (named : Named cmd) (long : 17 ≤ length r) where
  abbrev told : standard.Answer → Serving
  told a = serving (record { hid = s; answer = answer_of a }) (replied a r)

  strange-is : is_strange s.u2f (command_case cmd) ≡ pick (is cmd WINK) true (pick (is cmd MSG) (eqb s.u2f 0) false)
  unfolding is_strange
  strange-is = ap (λ (t : Command). pick (is t WINK) true (pick (is t MSG) (eqb s.u2f 0) false)) (meant-case cmd)

  abbrev refusal : Serving
  refusal = saying s (laid_of (error c InvalidCmd) r)

  abbrev handed : Serving
  handed = serving (record { hid = s; answer = Message c (command_case cmd) (length payload) }) r

  refusal-told : refusal ≡ told (error c InvalidCmd)
  refusal-told = ap (saying s) (laid-roomy (error c InvalidCmd) r long)

  by_tests : (w g u : Bool) → is cmd MSG ≡ g → pick (pick w true (pick g u false)) refusal handed
      ≡ told (pick w (error c InvalidCmd) (pick g (pick (not u) (request c MSG payload) (error c InvalidCmd)) (request c cmd payload)))
  unfolding pick
  by_tests true g u e = refusal-told
  by_tests false true true e = refusal-told
  by_tests false true false e = ap (λ (t : Command). serving (record { hid = s; answer = Message c (command_case t) (length payload) }) r) (is-msg cmd named e)
  by_tests false false u e = refl

  request-checked : finished_by (Message c (command_case cmd) (length payload)) last s r ≡ told (request_on_vendor (not (eqb s.u2f 0)) c cmd payload)
  unfolding finished_by request_on_vendor
  request-checked =
      ap (λ (b : Bool). pick b refusal handed) strange-is
      ∙ by_tests (is cmd WINK) (is cmd MSG) (eqb s.u2f 0) refl

-- and for any answer
answer-checked : (s : CtapHid) (last : ℕ) (a : standard.Answer) (r : List ℕ) → Readable a → 17 ≤ length r
    → finished_by (answer_of a) last s (replied a r) ≡ serving (record { hid = s; answer = answer_of (on_vendor (not (eqb s.u2f 0)) a) }) (replied (on_vendor (not (eqb s.u2f 0)) a) r)
unfolding finished_by on_vendor
answer-checked s last nothing r out long = refl
answer-checked s last (reply c cmd payload) r out long = by_kind (is_echo cmd)
  where
    by_kind : (b : Bool) → finished_by (cond b (Echo c (command_case cmd) (length payload)) (Reply c (command_case cmd) (length payload))) last s (cond b r (front payload r))
        ≡ serving (record { hid = s; answer = cond b (Echo c (command_case cmd) (length payload)) (Reply c (command_case cmd) (length payload)) }) (cond b r (front payload r))
    by_kind true = refl
    by_kind false = refl
answer-checked s last (request c cmd payload) r out long = request-checked s last c cmd payload r out long

module _ (k : Key) (time : ℕ) (p m r : List ℕ) where
  abbrev shut_out : Bool
  shut_out = ltb time k.main.hid.lock

  vendor-kept : 17 ≤ length r → finished (vendor_in k).last (heard_of (vendor_in k) time shut_out (read p) m r) ≡ vendor_heard_of (vendor_in k) time shut_out (read p) m r
  unfolding heard_of vendor_heard_of served_of
  vendor-kept long =
      let n : Next Transport = hear (transport_of (vendor_in k) m) time shut_out (read p) in
      ap (λ (x : Serving). stepping_of x (message_after (vendor_in k) time shut_out (read p) m))
      (answer-checked (state_of (vendor_in k) time n.state) (vendor_in k).last n.answer r (readable (transport_of (vendor_in k) m) time shut_out (read p)) long
      ∙ ap (λ (t : Settings). served_of (vendor_in k) time (next n.state (on_vendor t.u2f n.answer)) r) (sym (same-settings (transport_of (vendor_in k) m) time shut_out (read p))))

  pub vendor-stepped : {own : CtapHid} → Meets (vendor_in k) 0 (is_key_sound k) own → (x : Stepped) (m1 r1 : List ℕ) → stepping x m1 r1 ≡ step_of own time shut_out p m r → (y : Stepped) (r2 : List ℕ)
      → serving y r2 ≡ finished_of k.main.hid.last x r1 → stepping y m1 r2 ≡ vendor_key_of k time p m r
  unfolding admitted_of vendor_key_of finished_by
  vendor-stepped met x m1 r1 h y r2 is =
      ap (λ (t : Serving). stepping_of t m1) is
      ∙ (ap (finished k.main.hid.last) (h ∙ ap (λ (t : CtapHid). step_of t time shut_out p m r) met.is)
      ∙ fitted (vendor_in k) 0 time (length p) (length m) (length r) (finished k.main.hid.last) (λ last n. stepping (record { hid = with_last (vendor_in k) last; answer = Refused n }) m r) (λ last. heard_of (with_last (vendor_in k) last) time shut_out (read p) m r) _
      (λ last n. refl) vendor-kept met)
