-- What is behind checks 1 to 7: which answers it must leave alone, and that check 8 leaves them and the two transports alone. Assumes nothing.
use Prim.Native.Nat.{ℕ, ◌≤◌}
use mathlib.Core.Path.{◌≡◌, refl, ap, ap₂, sym, subst, ◌∙◌}
use mathlib.Core.List.{List, [], ◌∷◌}
use mathlib.Core.Bool.{Bool, true, false, true≢false}
use mathlib.Core.Logic.{◌⊎◌, inl, inr, ⊎_elim, ◌↔◌}
use lib.ListN.{length, get_or}
use lib.Dec.{eqb}
use Rattle.ctaphid.specs.Choice.{pick}
use Rattle.ctaphid.specs.Commands.{Command, ERROR, LOCK, number, is}
use Rattle.ctaphid.specs.Settings.{Settings}
use Rattle.ctaphid.specs.Transport.{Transport, Answer, nothing, reply, request, Next}
use Rattle.ctaphid.specs.Device.{Device, on_wink, on_msg, on_request, answered, is_winking, device_step}
use Rattle.ctaphid.specs.Demands.{standard, after, answer, HandsOut}
use Rattle.ctaphid.specs.Interfaces.{Interface, main, vendor, KeySettings, settings_on, Arrival, arrival, Both, both, side, seen_as, both_step, Key, main_of, request_on_vendor, on_vendor, key_step}
use Rattle.ctaphid.specs.KeyDemands.{AnyKey, standard_both, standard_key, KeyPermitted, latest_of, TakenBy, after_by, answer_by, seen, Behind, unchecked, checked_request, checked, SidesAgree, single, MainIsDevice}
use Rattle.ctaphid.proofs.Tests.{pick-both, both-pick}
use Rattle.ctaphid.proofs.Device.{same-transport}
use Rattle.ctaphid.proofs.Histories.{settings-after}
use Rattle.ctaphid.proofs.Interfaces.{apart, the-both, sides, both-agree}

-- ---- what it must leave alone

-- the answers that the laws name: nothing, those to LOCK, and ChannelBusy
abbrev pub is_named : Answer → Bool
is_named nothing = true
is_named (reply c cmd payload) = pick (is cmd LOCK) true (pick (is cmd ERROR) (eqb (get_or payload 0 0) 6) false)
is_named (request c cmd payload) = false

-- an answer stays, or hands a message out and becomes none of these
abbrev pub Keeps : Behind → Type 0
Keeps f = (i : Interface) (u2f : Bool) (a : Answer) → (f i u2f a ≡ a) ⊎ (HandsOut a × (is_named a ≡ false) × (is_named (f i u2f a) ≡ false))

module _ (f : Behind) (keeps : Keeps f) (i : Interface) (u2f : Bool) (a : Answer) where
  -- so an answer that is named is the one's if it is the other's
  pub same-named : (x : Answer) → is_named x ≡ true → (f i u2f a ≡ x) ↔ (a ≡ x)
  same-named x k =
      ⊎_elim
      (λ same. ((λ e. sym same ∙ e), (λ e. same ∙ e)))
      (λ o. ((λ e. absurd (true≢false (sym k ∙ ap is_named (sym e) ∙ o.2))), (λ e. absurd (true≢false (sym k ∙ ap is_named (sym e) ∙ o.1)))))
      (keeps i u2f a)

  -- and none is handed out that was not
  pub hands-no-more : HandsOut (f i u2f a) → HandsOut a
  hands-no-more h = ⊎_elim (λ same. rw same at h) (λ o. o.0) (keeps i u2f a)

pub unchecked-keeps : Keeps unchecked
unchecked-keeps i u2f a = inl refl

checked-unnamed : (i : Interface) (u2f : Bool) (c : ℕ) (cmd : Command) (payload : List ℕ) → is_named (checked_request i u2f c cmd payload) ≡ false
unfolding checked_request pick
checked-unnamed i u2f c cmd payload =
    either (eqb (number cmd) 8) _ _
    (the-both Unnamed i _ _ (either (eqb (length payload) 0) _ _ refl refl) refl)
    (either (eqb (number cmd) 3) _ _ (either u2f _ _ refl refl) refl)
  where
    Unnamed : Answer → Type 0
    Unnamed x = is_named x ≡ false

    either : (b : Bool) (x y : Answer) → Unnamed x → Unnamed y → Unnamed (pick b x y)
    either = pick-both Unnamed

pub checked-keeps : Keeps checked
checked-keeps i u2f nothing = inl refl
checked-keeps i u2f (reply c cmd payload) = inl refl
checked-keeps i u2f (request c cmd payload) = inr (tt, refl, checked-unnamed i u2f c cmd payload)

-- ---- a key that is as the two transports are

-- with this behind them: it answers so on each interface, and what is on and what is locked there is as with theirs
pub record AsBoth (f : Behind) (D : AnyKey) : Type 0 where
  pub keeps : Keeps f
  pub agrees : SidesAgree f D
  pub alike : (set : KeySettings) → KeyPermitted set → (past : List Arrival) → TakenBy past → (time : ℕ) → latest_of past ≤ time → (i : Interface) (c : ℕ)
      → (D.is_on (after_by D set past) i c time ≡ standard_both.is_on (after_by standard_both set past) i c time)
      × (D.is_locked_by (after_by D set past) i c time ≡ standard_both.is_locked_by (after_by standard_both set past) i c time)

-- how the single transport answers an arrival, after what this interface saw
abbrev pub alone : KeySettings → Interface → List Arrival → Arrival → Answer
alone set i past a = answer standard (settings_on set i) (seen i set past) (seen_as (after_by standard_both set past) a)

module _ {f : Behind} {D : AnyKey} (like : AsBoth f D) (set : KeySettings) (permitted : KeyPermitted set) {i : Interface} (past : List Arrival) (a : Arrival) (taken : TakenBy (a ∷ past)) (q : a.interface ≡ i) where
  pub agree_on : answer_by D set past a ≡ f i set.u2f (alone set i past a)
  agree_on = subst (λ (j : Interface). answer_by D set past a ≡ f j set.u2f (alone set j past a)) q (like.agrees set permitted past a taken)

  pub named-on : (x : Answer) → is_named x ≡ true → (answer_by D set past a ≡ x) ↔ (alone set i past a ≡ x)
  named-on x k = rw agree_on (same-named f like.keeps i set.u2f (alone set i past a) x k)

-- ---- check 8 of the standard's key is that table

main-checked : (time wink : ℕ) (d : Transport) (a : Answer) → (answered time wink d a).answer ≡ checked main d.settings.u2f a
unfolding answered on_request on_wink on_msg checked_request
main-checked time wink d nothing = refl
main-checked time wink d (reply c cmd payload) = refl
main-checked time wink d (request c cmd payload) =
    same (eqb (number cmd) 8) _ _ _ _
    (λ w. same (eqb (length payload) 0) _ _ _ _ (λ z. refl) (λ z. refl))
    (λ w. same (eqb (number cmd) 3) _ _ _ _ (λ m. same d.settings.u2f _ _ _ _ (λ u. refl) (λ u. refl)) (λ m. refl))
  where
    same : (b : Bool) (n o : Next Device) (x y : Answer) → (b ≡ true → n.answer ≡ x) → (b ≡ false → o.answer ≡ y) → (pick b n o).answer ≡ pick b x y
    same = both-pick (λ (n : Next Device) (x : Answer). n.answer ≡ x)

vendor-checked : (u2f : Bool) (a : Answer) → on_vendor u2f a ≡ checked vendor u2f a
unfolding on_vendor request_on_vendor checked_request
vendor-checked u2f nothing = refl
vendor-checked u2f (reply c cmd payload) = refl
vendor-checked u2f (request c cmd payload) = refl

module _ (t : ℕ) (p : List ℕ) (k : Key) where
  key-checked : (j : Interface) → (key_step k (arrival j t p)).answer ≡ checked j (side (both_step k.transports (arrival j t p)).state j).settings.u2f (both_step k.transports (arrival j t p)).answer
  key-checked main = main-checked t k.wink _ _
  key-checked vendor = vendor-checked _ _

  -- the transports are left alone
  same-transports : (j : Interface) → (key_step k (arrival j t p)).state.transports ≡ (both_step k.transports (arrival j t p)).state
  same-transports main = ap (λ (d : Transport). both d k.transports.vendor) (same-transport t k.wink _ _)
  same-transports vendor = refl

pub transports-after : (set : KeySettings) (past : List Arrival) → (after_by standard_key set past).transports ≡ after_by standard_both set past
transports-after set [] = refl
transports-after set (a ∷ past) =
    same-transports a.time a.packet (after_by standard_key set past) a.interface ∙ ap (λ (b : Both). (both_step b a).state) (transports-after set past)

pub key-agree : SidesAgree checked standard_key
key-agree set permitted past a taken =
    let i : Interface = a.interface in
    key-checked a.time a.packet (after_by standard_key set past) i
    ∙ ap (λ (b : Both). checked i (side (both_step b a).state i).settings.u2f (both_step b a).answer) (transports-after set past)
    ∙ ap (λ (s : Settings). checked i s.u2f (answer_by standard_both set past a)) (ap (λ (d : Transport). d.settings) (sides i set (a ∷ past)) ∙ settings-after (settings_on set i) (seen i set (a ∷ past)))
    ∙ ap (checked i set.u2f) (both-agree set permitted past a taken)

-- ---- main is the single device

module _ (set : KeySettings) where
  abbrev K : List Arrival → Key
  K past = after_by standard_key set past

  abbrev single-after : List Arrival → Device
  single-after past = after single (settings_on set main) (seen main set past)

  -- on vendor main stays as it is
  main-step : (past : List Arrival) (j : Interface) (t : ℕ) (p : List ℕ) → main_of (K past) ≡ single-after past → main_of (K (arrival j t p ∷ past)) ≡ single-after (arrival j t p ∷ past)
  main-step past main t p h = ap₂ (λ (o : Device) (b : Both). (device_step o (seen_as b (arrival main t p))).state) h (transports-after set past)
  main-step past vendor t p h = h

  main-after : (past : List Arrival) → main_of (K past) ≡ single-after past
  main-after [] = refl
  main-after (a ∷ past) = main-step past a.interface a.time a.packet (main-after past)

  main-answers : (past : List Arrival) (j : Interface) (t : ℕ) (p : List ℕ) → j ≡ main → answer_by standard_key set past (arrival j t p) ≡ answer single (settings_on set main) (seen main set past) (seen_as (after_by standard_both set past) (arrival j t p))
  main-answers past main t p q =
      ap₂ (λ (o : Device) (b : Both). (device_step o (seen_as b (arrival main t p))).answer) (main-after past) (transports-after set past)
  main-answers past vendor t p q = absurd (apart (sym q))

pub main-is-device : MainIsDevice standard_key
main-is-device =
    record {
      answers = λ set permitted past a taken q. main-answers set past a.interface a.time a.packet q;
      winks = λ set permitted past taken time onward. ap (λ (o : Device). is_winking o time) (main-after set past);
    }
