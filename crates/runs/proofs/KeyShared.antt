-- What is promised of a key holds of the code, whoever calls it and minds what it must. Assumes nothing.
use Prim.Native.Nat.{ℕ, ◌≤◌}
use native.Mathlib.Omega.{arith}
use mathlib.Core.Path.{◌≡◌, refl, sym, ap, subst, ◌∙◌}
use mathlib.Core.List.{List, [], ◌∷◌}
use mathlib.Core.Bool.{Bool, not}
use borrow.Author.Tests.{le-ltb}
use lib.Dec.{ltb}
use lib.ListN.{length}
use Rattle.ctaphid.specs.Choice.{pick}
use Rattle.ctaphid.specs.Limits.{last_time}
use Rattle.ctaphid.specs.Receiver.{Receiver, is_on, still_due}
use Rattle.ctaphid.specs.Refusals.{untimely}
use Rattle.ctaphid.specs.Transport.{Lock, Transport, is_locked, is_locked_by}
use Rattle.ctaphid.specs.Interfaces as definition
use Rattle.ctaphid.specs.Interfaces.{Interface, main, vendor, the, KeySettings, settings_on, Arrival, arrival, side, key_step}
use Rattle.ctaphid.specs.KeyDemands.{standard_key, KeyPermitted, latest_of, TakenBy, after_by, answer_by, KeyAgrees, KeyAnswersAlike}
use Rattle.ctaphid.proofs.Refusing.{none-refuse}
use Rattle.ctaphid.proofs.Forgetting.{forgotten, is-on-forgets}
use Rattle.ctaphid.proofs.KeyListing.{listing_on, relisted_key, key-after-alike, key-answer-alike}
use Rattle.ctaphid.proofs.KeyShares.{key-shares-carried, main-is-device-carried}
use Rattle.answers.specs.Answers.{answered}
use Rattle.known.specs.Vendor.{vendor_of, bits_of}
use Rattle.hid.specs.declared.Running.TheVariants.{Yes, No, Refused}
use Rattle.hid.specs.Meaning.{transport_of}
use Rattle.key.specs.declared.Key.{Key}
use Rattle.key.specs.Meaning.{vendor_in}
use Rattle.key.specs.Soundness.{is_key_sound}
use Rattle.key.specs.Questions.{key_running_of}
use Rattle.key.specs.Stepping.{KeyStepping}
use Rattle.key.proofs.Sound.{is-key-sound}
use Rattle.runs.specs.Steps.{Buffers, Comes}
use Rattle.runs.specs.Lending.{Lends}
use Rattle.runs.specs.Share.{answer_in}
use Rattle.runs.specs.KeySteps.{hid_on, KeyCall, on_call, key_said_by, key_after}
use Rattle.runs.specs.KeyShare.{KeyHeld, left_on, KeyCaller, call_for, held_after, key_code, AllRefused, Minds, MindsWell, KeyCodeServes}
use Rattle.runs.proofs.Refines.{fresh-means, same-members}
use Rattle.runs.proofs.Following.{Means, due-tells}
use Rattle.runs.proofs.KeySteps.{refused-alters-nothing, key-set-up-taken}
use Rattle.runs.proofs.KeyFollowing.{KeyFollows, on-main, goes-on-main, last-main, room-main, on-vendor, goes-on-vendor, last-vendor, room-vendor}

-- refused calls leave the key as it came
after-refused : (k : Key) (calls : List KeyCall) → AllRefused k calls → key_after k calls ≡ k
after-refused k [] all = refl
after-refused k (c ∷ rest) all = after-refused (on_call k c).key rest all.1 ∙ ap (λ (x : KeyStepping). x.key) (refused-alters-nothing k c all.0)

-- the settings that the key means: those of set-up, with the list's members in their order
abbrev meant_on : KeySettings → KeySettings
meant_on set = listing_on (vendor_of (bits_of set.commands)) set

-- what holds of the code after a history
pub record KeyStands (set : KeySettings) (past : List Arrival) (h : KeyHeld) : Type 0 where
  pub follows : KeyFollows h.key h.main.message h.vendor.message (after_by standard_key (meant_on set) past)
  pub last : h.key.main.hid.last ≡ latest_of past

comes : (past : List Arrival) (a : Arrival) (disabled : Bool) → TakenBy (a ∷ past) → (last : ℕ) → last ≡ latest_of past → Comes last (record { time = a.time; disabled = disabled; packet = a.packet })
comes past a disabled taken last is = record { size = taken.0.size; bytes = taken.0.bytes; later = omega (arith, taken.1); early = taken.0.early }

-- an arrival on either interface
abbrev pub called : KeyHeld → Arrival → Buffers → KeyStepping
called h a b = on_call h.key (record { arrival = a; lent = b })

module _ (h : KeyHeld) (d : definition.Key) (f : KeyFollows h.key h.main.message h.vendor.message d) (t : ℕ) (p : List ℕ) (b : Buffers) where
  abbrev pub Ready : Interface → Type 0
  Ready i = ((disabled : Bool) → Comes h.key.main.hid.last (record { time = t; disabled = disabled; packet = p })) × Lends (hid_on h.key i) t (left_on h i).message b

  answers-on : (i : Interface) → Ready i → key_said_by (called h (arrival i t p) b) ≡ answered (key_step d (arrival i t p)).answer
  answers-on main ready = on-main h.key h.main.message h.vendor.message d f t p b (ready.0 _) ready.1
  answers-on vendor ready = on-vendor h.key h.main.message h.vendor.message d f t p b (ready.0 _) ready.1

  abbrev On : Interface → KeyHeld → Type 0
  On i x = KeyFollows x.key x.main.message x.vendor.message (key_step d (arrival i t p)).state

  goes_on : (i : Interface) → Ready i → On i (held_after h (arrival i t p) (called h (arrival i t p) b))
  goes_on main ready = goes-on-main h.key h.main.message h.vendor.message d f t p b (ready.0 _) ready.1
  goes_on vendor ready = goes-on-vendor h.key h.main.message h.vendor.message d f t p b (ready.0 _) ready.1

  last_on : (i : Interface) → Ready i → (called h (arrival i t p) b).key.main.hid.last ≡ t
  last_on main ready = last-main h.key h.main.message h.vendor.message d f t p b (ready.0 _) ready.1
  last_on vendor ready = last-vendor h.key h.main.message h.vendor.message d f t p b (ready.0 _) ready.1

  pub room-on : (i : Interface) → Ready i → (hid_on (called h (arrival i t p) b).key i).max ≤ length (called h (arrival i t p) b).message
  room-on main ready = room-main h.key h.main.message h.vendor.message d f t p b (ready.0 _) ready.1
  room-on vendor ready = room-vendor h.key h.main.message h.vendor.message d f t p b (ready.0 _) ready.1

-- ---- over histories
module _ (caller : KeyCaller) (set : KeySettings) (permitted : KeyPermitted set) where
  abbrev at : List Arrival → KeyHeld
  at past = after_by (key_code caller) set past

  -- it was called as it must be for every arrival of a history
  abbrev pub MindedSoFar : List Arrival → Type 0
  MindedSoFar [] = Unit {0}
  MindedSoFar (a ∷ past) = Minds caller (at past) a × MindedSoFar past

  -- the calls before an arrival alter nothing
  module _ (past : List Arrival) (a : Arrival) (minds : Minds caller (at past) a) where
    abbrev lent : Buffers
    lent = caller.lent (at past) a

    pub plain : call_for caller (at past) a ≡ called (at past) a lent
    plain = ap (λ (k : Key). on_call k (record { arrival = a; lent = lent })) (after-refused (at past).key (caller.before (at past) a) minds.refused)

    module _ (taken : TakenBy (a ∷ past)) (s : KeyStands set past (at past)) where
      pub ready : Ready (at past) (after_by standard_key (meant_on set) past) s.follows a.time a.packet lent a.interface
      ready = (λ disabled. comes past a disabled taken (at past).key.main.hid.last s.last, minds.lends)

      pub said-as : key_said_by (call_for caller (at past) a) ≡ answered (answer_by standard_key set past a)
      said-as =
          ap key_said_by plain
          ∙ (answers-on (at past) (after_by standard_key (meant_on set) past) s.follows a.time a.packet lent a.interface ready
          ∙ ap answered (key-answer-alike set (meant_on set).commands (same-members (settings_on set main) (permitted main)) past a))

      pub stands_on : KeyStands set (a ∷ past) (at (a ∷ past))
      stands_on =
          subst (λ (x : KeyStepping). KeyStands set (a ∷ past) (held_after (at past) a x)) (sym plain)
          (record {
            follows = goes_on (at past) (after_by standard_key (meant_on set) past) s.follows a.time a.packet lent a.interface ready;
            last = last_on (at past) (after_by standard_key (meant_on set) past) s.follows a.time a.packet lent a.interface ready;
          })

  pub key-stands : (past : List Arrival) → TakenBy past → MindedSoFar past → KeyStands set past (at past)
  key-stands [] taken so_far =
      record {
        follows = record {
          sound = (key-set-up-taken set permitted).sound;
          main = ap (forgotten 0) (fresh-means (settings_on set main) []);
          vendor = ap (forgotten 0) (fresh-means (settings_on set vendor) []);
          wink = refl;
        };
        last = refl;
      }
  key-stands (a ∷ past) taken so_far = stands_on past a so_far.0 taken (key-stands past taken.2 so_far.1)

-- ---- a caller that minds
module _ (caller : KeyCaller) (well : MindsWell caller) where
  so_far : (set : KeySettings) (permitted : KeyPermitted set) (past : List Arrival) → TakenBy past → MindedSoFar caller set permitted past
  so_far set permitted [] taken = tt
  so_far set permitted (a ∷ past) taken = (well set permitted past a taken, so_far set permitted past taken.2)

  stands : (set : KeySettings) (permitted : KeyPermitted set) (past : List Arrival) → TakenBy past → KeyStands set past (after_by (key_code caller) set past)
  stands set permitted past taken = key-stands caller set permitted past taken (so_far set permitted past taken)

  says : (set : KeySettings) → KeyPermitted set → (past : List Arrival) (a : Arrival) → TakenBy (a ∷ past)
      → key_said_by (call_for caller (after_by (key_code caller) set past) a) ≡ answered (answer_by standard_key set past a)
  says set permitted past a taken = said-as caller set permitted past a (well set permitted past a taken) taken (stands set permitted past taken.2)

  agrees : KeyAgrees (key_code caller)
  agrees set permitted past a taken = ap answer_in (says set permitted past a taken)

  -- what the key means, with the list of set-up
  module _ (set : KeySettings) (permitted : KeyPermitted set) (past : List Arrival) (taken : TakenBy past) where
    abbrev h : KeyHeld
    h = after_by (key_code caller) set past

    abbrev d : definition.Key
    d = after_by standard_key set past

    abbrev s : KeyStands set past h
    s = stands set permitted past taken

    relists : after_by standard_key (meant_on set) past ≡ relisted_key (meant_on set).commands d
    relists = key-after-alike set (meant_on set).commands (same-members (settings_on set main) (permitted main)) past

    abbrev MeansOn : Interface → definition.Key → Type 0
    MeansOn i x = Means h.key.main.hid.last (hid_on h.key i) (left_on h i).message (side x.transports i)

    means-on : (i : Interface) → MeansOn i (relisted_key (meant_on set).commands d)
    means-on main = subst (MeansOn main) relists s.follows.main
    means-on vendor = subst (MeansOn vendor) relists s.follows.vendor

    abbrev mine : Interface → Transport
    mine i = transport_of (hid_on h.key i) (left_on h i).message

    -- a list alters neither receiver nor lock
    same-receiver : (i : Interface) → (side (relisted_key (meant_on set).commands d).transports i).receiver ≡ (side d.transports i).receiver
    same-receiver main = refl
    same-receiver vendor = refl

    locks-on : (i : Interface) → (mine i).lock ≡ (side d.transports i).lock
    locks-on main = ap (λ (x : Transport). x.lock) (means-on main)
    locks-on vendor = ap (λ (x : Transport). x.lock) (means-on vendor)

    on_alike : (i : Interface) (c time : ℕ) → is_on (mine i).receiver c time ≡ is_on (side d.transports i).receiver c time
    on_alike i c time =
        sym (is-on-forgets h.key.main.hid.last time c (mine i).receiver)
        ∙ (ap (λ (x : Transport). is_on x.receiver c time) (means-on i)
        ∙ (is-on-forgets h.key.main.hid.last time c _ ∙ ap (λ (x : Receiver). is_on x c time) (same-receiver i)))

    due-as : (i : Interface) → (hid_on h.key i).still_due ≡ still_due (side d.transports i).receiver
    due-as main = due-tells h.key.main.hid h.key.main.wink h.key.main.hid.last h.main.message _ s.follows.sound.main (means-on main)
    due-as vendor = due-tells (vendor_in h.key) 0 h.key.main.hid.last h.vendor.message _ s.follows.sound.vendor (means-on vendor)

    wink-alike : h.key.main.wink ≡ d.wink
    wink-alike = s.follows.wink ∙ ap (λ (x : definition.Key). x.wink) relists

    -- a question at a time that no refusal meets
    asked : (time until : ℕ) → latest_of past ≤ time → time ≤ 0xffff_ffff_ffff → key_running_of h.key time until ≡ pick (ltb time until) Yes No
    unfolding key_running_of
    asked time until later early =
        none-refuse Refused ((not (is_key_sound h.key), 3) ∷ untimely h.key.main.hid.last time) (pick (ltb time until) Yes No)
        (ap not (is-key-sound h.key s.follows.sound), (le-ltb last_time time early, (le-ltb time h.key.main.hid.last (omega (arith, s.last, later)), tt)))

  alike : KeyAnswersAlike (key_code caller)
  alike set permitted past taken time later =
      record {
        on = λ i c. on_alike set permitted past taken i c time;
        locked = λ i c. ap (λ (l : Lock). is_locked_by l c time) (locks-on set permitted past taken i);
        winking = ap (ltb time) (wink-alike set permitted past taken);
      }

pub key-code-serves : KeyCodeServes
key-code-serves caller well =
    record {
      said = says caller well;
      shares = key-shares-carried (key_code caller) (agrees caller well) (alike caller well);
      device = main-is-device-carried (key_code caller) (agrees caller well) (alike caller well);
      due = due-as caller well;
      locks = λ set permitted past taken time later early i.
          asked caller well set permitted past taken time _ later early ∙ ap (λ (l : Lock). pick (is_locked l time) Yes No) (locks-on caller well set permitted past taken i);
      wink = λ set permitted past taken time later early.
          asked caller well set permitted past taken time _ later early ∙ ap (λ (until : ℕ). pick (ltb time until) Yes No) (wink-alike caller well set permitted past taken);
    }
