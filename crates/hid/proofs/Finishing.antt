-- What a `return` of the outer layer meets. Assumes nothing.
use Prim.Native.Nat.{ℕ, ◌+◌, ◌≤◌}
use native.Mathlib.Omega.{arith}
use native.Mathlib.Decide.{ℕ_discrete}
use mathlib.Core.Path.{◌≡◌, refl, sym, ap, subst, ◌∙◌}
use mathlib.Core.List.{List, [], ◌∷◌}
use mathlib.Core.Bool.{Bool, true, false, cond}
use borrow.Author.Tests.{eq-eqb, ne_eqb}
use lib.ListN.{length, length-append, length-drop}
use Rattle.ctaphid.specs.Choice.{pick}
use Rattle.ctaphid.specs.Commands.{Command, ERROR, number}
use Rattle.ctaphid.specs.Packets.{read}
use Rattle.ctaphid.specs.Settings.{Settings}
use Rattle.ctaphid.specs.Transport as standard
use Rattle.ctaphid.specs.Transport.{Transport, nothing, reply, request, hear}
use Rattle.ctaphid.specs.Device.{on_wink, on_msg, on_request, answered}
use Rattle.ctaphid.proofs.Refusing.{refused-by, none-refuse}
use Rattle.ctaphid.proofs.Device.{same-transport}
use Rattle.ctaphid.proofs.Invariant.{same-settings}
use Rattle.packet.specs.Numbers.{command_meant, command_case}
use Rattle.packet.proofs.Numbers.{meant-case}
use Rattle.packet.specs.declared.command.CtapHidCommand.{CtapHidCommand}
use Rattle.packet.specs.declared.command.CtapHidCommand.TheVariants as command
use Rattle.collect.specs.Adding.{front}
use Rattle.hid.specs.declared.CtapHid.{CtapHid}
use Rattle.hid.specs.declared.MainHid.{MainHid}
use Rattle.answers.specs.declared.Answer.{Answer}
use Rattle.answers.specs.declared.Answer.TheVariants.{Refused, Nothing, Message, Echo, Reply}
use Rattle.hid.specs.declared.Stepped.{Stepped}
use Rattle.hid.specs.declared.MainStepped.{MainStepped}
use Rattle.answers.specs.Answers.{answer_of, is_echo, replied}
use Rattle.answers.specs.Replies.{Answering, answering, laid_of}
use Rattle.answers.proofs.Laying.{laid-roomy}
use Rattle.hid.specs.Meaning.{settings_of, transport_of, state_of}
use Rattle.hid.specs.State.{served_of}
use Rattle.hid.specs.Refusals.{refusals, refusal_of}
use Rattle.hid.specs.Hearing.{Stepping, stepping, message_after, heard_of}
use Rattle.hid.specs.Shortcut.{TellsDue, GoesOn}
use Rattle.hid.specs.Transport.{admitted_of}
use Rattle.hid.specs.MainHid.{Finishing, finishing, outer, requested_of, replied_above, finished_of, Winks, Msgs, Requests, Finishes, Asks, main_stepping, laid_out, main_heard_of, main_step_of}
use Rattle.hid.proofs.Refusing.{tests-passed, admits-is, step-refused}
use Rattle.hid.proofs.Shortening.{short-heard}

-- ---- an error
pub error-replied : (s : CtapHid) (cid e : ℕ) (r : List ℕ) (a : Answer) (r' : List ℕ) (y : MainStepped) → 17 ≤ length r → answering a r' ≡ laid_of (reply cid ERROR (e ∷ [])) r → y ≡ outer s 0 a
    → finishing y r' ≡ finishing (outer s 0 (Reply cid command.Error 1)) (front (e ∷ []) r)
error-replied s cid e r a r' y h k is =
    ap (λ (t : MainStepped). finishing t r') is ∙ ap (λ (o : Answering). finishing (outer s 0 o.answer) o.reply) (k ∙ laid-roomy (reply cid ERROR (e ∷ [])) r h)

-- ---- a message that was handed out
module _ (s : CtapHid) (cid len : ℕ) (r : List ℕ) (x : Finishing) where
  pub wink-long : (len ≡ 0 → ⊥) → x ≡ finishing (outer s 0 (Reply cid command.Error 1)) (front (3 ∷ []) r) → Winks s cid len r x
  unfolding requested_of on_wink pick
  wink-long n k d payload e = simp (ne_eqb (length payload) 0 (λ z. n (e ∙ z))) k

  pub msg-none : s.u2f ≡ 0 → x ≡ finishing (outer s 0 (Reply cid command.Error 1)) (front (1 ∷ []) r) → Msgs s cid len r x
  unfolding requested_of on_msg pick
  msg-none z k d payload set e = simp (ap (λ (t : Settings). t.u2f) set, eq-eqb s.u2f 0 z) k

module _ (s : CtapHid) (cid len : ℕ) (r : List ℕ) (y : MainStepped) where
  pub wink-short : len ≡ 0 → y ≡ outer s (s.last + 5000) (Echo cid command.Wink 0) → Winks s cid len r (finishing y r)
  unfolding requested_of on_wink pick
  wink-short z k d payload e = simp (eq-eqb (length payload) 0 (sym e ∙ z)) (ap (λ (t : MainStepped). finishing t r) k)

  pub msg-out : (s.u2f ≡ 0 → ⊥) → y ≡ outer s 0 (Message cid command.Msg len) → Msgs s cid len r (finishing y r)
  unfolding requested_of on_msg pick
  msg-out z k d payload set e =
      simp (ap (λ (t : Settings). t.u2f) set, ne_eqb s.u2f 0 z)
      (ap (λ (t : MainStepped). finishing t r) k ∙ ap (λ (t : ℕ). finishing (outer s 0 (Message cid command.Msg t)) r) e)

module _ (s : CtapHid) (cid : ℕ) (cmd : CtapHidCommand) (len : ℕ) (r : List ℕ) {n : ℕ} (e : n ≡ number (command_meant cmd)) where
  numbered : (k : Command) → cmd ≡ command_case k → n ≡ number k
  numbered k c = e ∙ (ap (λ (t : CtapHidCommand). number (command_meant t)) c ∙ ap number (meant-case k))

  pub request-wink : (x : Finishing) → n ≡ 8 → Winks s cid len r x → Requests s cid cmd len r x
  unfolding on_request pick
  request-wink x z w d k payload set c l = simp (eq-eqb (number k) 8 (sym (numbered k c) ∙ z)) (w d payload l)

  pub request-msg : (x : Finishing) → (n ≡ 8 → ⊥) → n ≡ 3 → Msgs s cid len r x → Requests s cid cmd len r x
  unfolding on_request pick
  request-msg x o z w d k payload set c l =
      simp (ne_eqb (number k) 8 (λ t. o (numbered k c ∙ t)), eq-eqb (number k) 3 (sym (numbered k c) ∙ z)) (w d payload set l)

  pub request-else : (y : MainStepped) → (n ≡ 8 → ⊥) → (n ≡ 3 → ⊥) → y ≡ outer s 0 (Message cid cmd len) → Requests s cid cmd len r (finishing y r)
  unfolding requested_of on_request pick
  request-else y o z h d k payload set c l =
      simp (ne_eqb (number k) 8 (λ t. o (numbered k c ∙ t)), ne_eqb (number k) 3 (λ t. z (numbered k c ∙ t)))
      (ap (λ (t : MainStepped). finishing t r) h
      ∙ (ap (λ (t : CtapHidCommand). finishing (outer s 0 (Message cid t len)) r) c
      ∙ ap (λ (t : ℕ). finishing (outer s 0 (Message cid (command_case k) t)) r) l))

-- ---- any answer

-- which answers differ whatever they hold
abbrev kind : Answer → ℕ
kind (Refused number) = 0
kind Nothing = 1
kind (Message c cmd len) = 2
kind (Echo c cmd len) = 3
kind (Reply c cmd len) = 3

kind-reply : (c : ℕ) (cmd : Command) (payload : List ℕ) → kind (answer_of (reply c cmd payload)) ≡ 3
kind-reply c cmd payload = by_kind (is_echo cmd)
  where
    by_kind : (b : Bool) → kind (cond b (Echo c (command_case cmd) (length payload)) (Reply c (command_case cmd) (length payload))) ≡ 3
    by_kind true = refl
    by_kind false = refl

-- one that is met as the standard's device meets it is no refusal
abbrev Met : CtapHid → (wink : ℕ) → Answer → (short : List ℕ) → Finishing → Type 0
Met s wink answer r x = (d : Transport) (a : standard.Answer) → d.settings ≡ settings_of s → answer ≡ answer_of a → x ≡ finished_of s wink d a r

module _ (s : CtapHid) (wink : ℕ) (answer : Answer) (r : List ℕ) where
  unrefused : (x : Finishing) → (kind answer ≡ 0 → ⊥) → Met s wink answer r x → Finishes s wink answer r x
  unrefused x some met = record { refused = λ n is. absurd (some (ap kind is)); met = met }

  pub finish-request : {cid : ℕ} {cmd : CtapHidCommand} {len : ℕ} (x : Finishing) → answer ≡ Message cid cmd len → Requests s cid cmd len r x → Finishes s wink answer r x
  unfolding finished_of requested_of answered
  finish-request {cid} {cmd} {len} x is w = unrefused x (λ z. omega (arith, ap kind is)) go
    where
      go : Met s wink answer r x
      go d nothing set e = absurd (omega (arith, ap kind (sym is ∙ e)))
      go d (reply c k payload) set e = absurd (omega (arith, kind-reply c k payload, ap kind (sym is ∙ e)))
      go d (request c k payload) set e =
          let both : Message cid cmd len ≡ Message c (command_case k) (length payload) = sym is ∙ e in
          let same-cid : cid ≡ c = cc in
          let same-cmd : cmd ≡ command_case k = cc in
          let same_len : len ≡ length payload = cc in
          w d k payload set same-cmd same_len
          ∙ ap (λ (t : ℕ). requested_of s (on_request d s.last t k payload) r) same-cid

  module _ (y : MainStepped) where
    pub finish-nothing : answer ≡ Nothing → y ≡ outer s wink answer → Finishes s wink answer r (finishing y r)
    unfolding finished_of answered
    finish-nothing is h = unrefused (finishing y r) (λ z. omega (arith, ap kind is)) go
      where
        go : Met s wink answer r (finishing y r)
        go d nothing set e = ap (λ (t : MainStepped). finishing t r) h ∙ ap (λ (t : Answer). finishing (outer s wink t) r) e
        go d (reply c k payload) set e = absurd (omega (arith, kind-reply c k payload, ap kind (sym is ∙ e)))
        go d (request c k payload) set e = absurd (omega (arith, ap kind (sym is ∙ e)))

    finish-told : kind answer ≡ 3 → y ≡ outer s 0 answer → Finishes s wink answer r (finishing y r)
    unfolding finished_of answered
    finish-told is h = unrefused (finishing y r) (λ z. omega (arith, is)) go
      where
        go : Met s wink answer r (finishing y r)
        go d nothing set e = absurd (omega (arith, is, ap kind e))
        go d (reply c k payload) set e = ap (λ (t : MainStepped). finishing t r) h ∙ ap (λ (t : Answer). finishing (outer s 0 t) r) e
        go d (request c k payload) set e = absurd (omega (arith, is, ap kind e))

    pub finish-echo : {cid : ℕ} {cmd : CtapHidCommand} {len : ℕ} → answer ≡ Echo cid cmd len → y ≡ outer s 0 answer → Finishes s wink answer r (finishing y r)
    finish-echo is h = finish-told (ap kind is) h

    pub finish-reply : {cid : ℕ} {cmd : CtapHidCommand} {len : ℕ} → answer ≡ Reply cid cmd len → y ≡ outer s 0 answer → Finishes s wink answer r (finishing y r)
    finish-reply is h = finish-told (ap kind is) h

    pub finish-refused : {n : ℕ} → answer ≡ Refused n → y ≡ outer s wink answer → Finishes s wink answer r (finishing y r)
    finish-refused is h = record { refused = λ k e. ap (λ (t : MainStepped). finishing t r) h; met = go }
      where
        go : Met s wink answer r (finishing y r)
        go d nothing set e = absurd (omega (arith, ap kind (sym is ∙ e)))
        go d (reply c k payload) set e = absurd (omega (arith, kind-reply c k payload, ap kind (sym is ∙ e)))
        go d (request c k payload) set e = absurd (omega (arith, ap kind (sym is ∙ e)))

-- ---- what an answer asks of the outer layer
module _ (s : CtapHid) (answer : Answer) (r : List ℕ) where
  pub asks-message : {cid : ℕ} {cmd : CtapHidCommand} {len : ℕ} → Asks s answer r → answer ≡ Message cid cmd len → (s.last ≤ 0xffff_ffff_ffff) × (17 ≤ length r)
  asks-message h e = subst (λ (t : Answer). Asks s t r) e h

  asks-all : s.last ≤ 0xffff_ffff_ffff → 17 ≤ length r → Asks s answer r
  asks-all early short = by_answer answer
    where
      by_answer : (t : Answer) → Asks s t r
      by_answer (Refused number) = tt
      by_answer Nothing = tt
      by_answer (Message c cmd len) = (early, short)
      by_answer (Echo c cmd len) = tt
      by_answer (Reply c cmd len) = tt

pub ruleset outers = (error-replied, wink-long, wink-short, msg-none, msg-out, request-wink, request-msg, request-else, finish-request, finish-nothing, finish-echo, finish-reply, finish-refused, asks-message)

-- ---- the device's step

-- the outer layer writes where the transport did not
above-replied : (time wink : ℕ) (d : Transport) (a : standard.Answer) (r : List ℕ) → replied_above a (answered time wink d a).answer (replied a r) ≡ replied (answered time wink d a).answer r
unfolding answered
above-replied time wink d nothing r = refl
above-replied time wink d (reply c cmd payload) r = refl
above-replied time wink d (request c cmd payload) r = refl

-- no reply makes the buffer shorter
pub replied-long : (a : standard.Answer) (r : List ℕ) → length r ≤ length (replied a r)
replied-long nothing r = omega arith
replied-long (reply c cmd payload) r = by_kind (is_echo cmd)
  where
    by_kind : (b : Bool) → length r ≤ length (cond b r (front payload r))
    by_kind true = omega arith
    by_kind false = simp (length-append, length-drop) (omega arith)
replied-long (request c cmd payload) r = omega arith

module _ (o : MainHid) (time : ℕ) (disabled : Bool) (p m r : List ℕ) where
  abbrev Out : Stepping
  Out = heard_of o.hid time disabled (read p) m r

  abbrev d : Transport
  d = (hear (transport_of o.hid m) time disabled (read p)).state

  abbrev a : standard.Answer
  a = (hear (transport_of o.hid m) time disabled (read p)).answer

  abbrev first : ℕ
  first = refusal_of o.hid o.wink time (length p) (length m) (length r)

  -- ---- a packet that was heard
  module _ {n : ℕ} (e : n ≡ first) (none : n ≡ 0) (x : Stepped) (m1 r1 : List ℕ) (h : stepping x m1 r1 ≡ Out) where
    asks-heard : Asks x.hid x.answer r1
    unfolding heard_of served_of
    asks-heard =
        let asks = admits-is o.hid o.wink time p m r n e none in
        let last : x.hid.last ≡ time = ap (λ (t : Stepping). t.stepped.hid.last) h in
        let size : length r1 ≡ length (replied a r) = ap (λ (t : Stepping). length t.reply) h in
        asks-all x.hid x.answer r1 (omega (arith, asks.1.early)) (omega (arith, asks.2, replied-long a r))

    pub finished-heard : (y : MainStepped) (r2 : List ℕ) → Finishes x.hid o.wink x.answer r1 (finishing y r2) → main_stepping y m1 r2 ≡ main_step_of o time disabled p m r
    unfolding heard_of served_of finished_of main_heard_of main_step_of
    finished-heard y r2 f =
        let is : x.hid ≡ state_of o.hid time d = ap (λ (t : Stepping). t.stepped.hid) h in
        let kept : m1 ≡ message_after o.hid time disabled (read p) m = ap (λ (t : Stepping). t.message) h in
        let wrote : r1 ≡ replied a r = ap (λ (t : Stepping). t.reply) h in
        let set : d.settings ≡ settings_of x.hid = same-settings (transport_of o.hid m) time disabled (read p) ∙ ap settings_of (sym is) in
        let done : finishing y r2 ≡ finished_of x.hid o.wink d a r1 = f.met d a set (ap (λ (t : Stepping). t.stepped.answer) h) in
        let now-is : finished_of x.hid o.wink d a r1 ≡ finished_of (state_of o.hid time d) o.wink d a (replied a r) =
        ap (λ (t : CtapHid). finished_of t o.wink d a r1) is ∙ ap (λ (t : List ℕ). finished_of (state_of o.hid time d) o.wink d a t) wrote in
        ap (λ (t : Finishing). main_stepping t.stepped m1 t.reply) (done ∙ now-is)
        ∙ (ap (λ (t : List ℕ). main_stepping (outer (state_of o.hid time d) (answered time o.wink d a).state.wink (answer_of (answered time o.wink d a).answer)) m1 t) (above-replied time o.wink d a r)
        ∙ (ap (λ (t : Transport). main_stepping (outer (state_of o.hid time t) (answered time o.wink d a).state.wink (answer_of (answered time o.wink d a).answer)) m1 (replied (answered time o.wink d a).answer r)) (sym (same-transport time o.wink d a))
        ∙ (ap (λ (t : List ℕ). laid_out o.hid time (answered time o.wink d a) t r) kept
        ∙ sym (none-refuse (λ k. main_stepping (record { hid = o; answer = Refused k }) m r) (refusals o.hid o.wink time (length p) (length m) (length r)) (main_heard_of o time disabled (read p) m r) (tests-passed o.hid o.wink time p m r n e none)))))

  -- by the short way
  pub finished-short : {n : ℕ} (e : n ≡ first) (none : n ≡ 0) {b : Bool} (told : TellsDue b o.hid time disabled p) (due : b ≡ true) (nx : CtapHid) (m1 : List ℕ) → GoesOn nx o.hid time p m m1
      → (y : MainStepped) → y ≡ outer nx o.wink Nothing → main_stepping y m1 r ≡ main_step_of o time disabled p m r
  finished-short e none told due nx m1 goes y is =
      finished-heard e none (record { hid = nx; answer = Nothing }) m1 r (short-heard o.hid o.wink time disabled p m r e none told due nx m1 goes) y r (finish-nothing nx o.wink Nothing r y refl is)

  -- ---- a packet that was refused or heard
  module _ (x : Stepped) (m1 r1 : List ℕ) (h : stepping x m1 r1 ≡ admitted_of o.hid o.wink time disabled p m r) where
    heard-is : first ≡ 0 → stepping x m1 r1 ≡ Out
    unfolding admitted_of
    heard-is none = h ∙ none-refuse (λ k. stepping (record { hid = o.hid; answer = Refused k }) m r) (refusals o.hid o.wink time (length p) (length m) (length r)) Out (tests-passed o.hid o.wink time p m r first refl none)

    refused-is : (first ≡ 0 → ⊥) → stepping x m1 r1 ≡ stepping (record { hid = o.hid; answer = Refused first }) m r
    refused-is some = h ∙ sym (step-refused o.hid o.wink time disabled p m r {n = first} refl some)

    -- what the outer layer asks
    pub main-asks : Asks x.hid x.answer r1
    main-asks = by_number (ℕ_discrete first 0)
      where
        by_number : Dec (first ≡ 0) → Asks x.hid x.answer r1
        by_number (yes none) = asks-heard {n = first} refl none x m1 r1 (heard-is none)
        by_number (no some) = subst (λ (t : Stepping). Asks t.stepped.hid t.stepped.answer t.reply) (sym (refused-is some)) tt

    pub main-finished : (y : MainStepped) (r2 : List ℕ) → Finishes x.hid o.wink x.answer r1 (finishing y r2) → main_stepping y m1 r2 ≡ main_step_of o time disabled p m r
    unfolding main_step_of refusal_of
    main-finished y r2 f = by_number (ℕ_discrete first 0)
      where
        by_number : Dec (first ≡ 0) → main_stepping y m1 r2 ≡ main_step_of o time disabled p m r
        by_number (yes none) = finished-heard {n = first} refl none x m1 r1 (heard-is none) y r2 f
        by_number (no some) =
            let was = refused-is some in
            let out : finishing y r2 ≡ finishing (outer x.hid o.wink x.answer) r1 = f.refused first (ap (λ (t : Stepping). t.stepped.answer) was) in
            ap (λ (t : Finishing). main_stepping t.stepped m1 t.reply) out
            ∙ (ap (λ (t : Stepping). main_stepping (outer t.stepped.hid o.wink t.stepped.answer) t.message t.reply) was
            ∙ refused-by (λ k. main_stepping (record { hid = o; answer = Refused k }) m r) (refusals o.hid o.wink time (length p) (length m) (length r)) _ first refl some)
