-- The code's key follows the standard's through a call on either interface, whichever buffers are lent for it. Assumes nothing.
use Prim.Native.Nat.{ℕ, ◌≤◌}
use native.Mathlib.Omega.{arith}
use mathlib.Core.Path.{◌≡◌, refl, sym, ap, subst, ◌∙◌}
use mathlib.Core.List.{List}
use mathlib.Core.Bool.{Bool, not}
use borrow.Author.Tests.{le-ltb, eq-eqb}
use lib.Dec.{ltb, eqb}
use lib.ListN.{length}
use Rattle.ctaphid.specs.Limits.{last_time, packet_size}
use Rattle.ctaphid.specs.Commands.{number}
use Rattle.ctaphid.specs.Packets.{read}
use Rattle.ctaphid.specs.Transport as standard
use Rattle.ctaphid.specs.Transport.{Transport, Event, Next, nothing, reply, request, hear, step}
use Rattle.ctaphid.specs.Device.{device_step}
use Rattle.ctaphid.specs.Interfaces as definition
use Rattle.ctaphid.specs.Interfaces.{Interface, main, vendor, the, Arrival, arrival, seen_as, main_of, request_on_vendor, on_vendor, key_step}
use Rattle.ctaphid.proofs.Tests.{pick-both}
use Rattle.ctaphid.proofs.Refusing.{Passed, none-refuse}
use Rattle.ctaphid.proofs.Packets.{read-formed}
use Rattle.ctaphid.proofs.Forgetting.{forgotten-later}
use Rattle.answers.specs.declared.Answer.TheVariants.{Refused}
use Rattle.answers.specs.Answers.{answered, said}
use Rattle.hid.specs.Meaning.{transport_of}
use Rattle.hid.specs.State.{served_of}
use Rattle.hid.specs.Hearing.{Stepping, stepping, message_after, heard_of}
use Rattle.hid.specs.Refusals.{refusals_where}
use Rattle.hid.specs.MainHid.{MainStepping, main_stepping, main_heard_of}
use Rattle.key.specs.declared.Key.{Key}
use Rattle.key.specs.Meaning.{vendor_in, put_main, put_vendor}
use Rattle.key.specs.Soundness.{KeySound, is_key_sound}
use Rattle.key.specs.Stepping.{main_key_of, checked_on_vendor, vendor_heard_of, vendor_key_of, main_laid, vendor_laid}
use Rattle.key.proofs.Sound.{is-key-sound}
use Rattle.runs.specs.Steps.{Buffers, Comes}
use Rattle.runs.specs.Lending.{Lends}
use Rattle.runs.specs.KeySteps.{key_said_by}
use Rattle.runs.proofs.Refines.{Carried, Lies, no-echo, said-back, heard-right, step_is, main-step-is, kept-long}
use Rattle.runs.proofs.Following.{Means, Follows, alike, follows_on, MainFollows, main-answers-alike, main-follows-on}
use Rattle.runs.proofs.KeySteps.{main-stays, vendor-stays}

-- the key, and what was left of each interface's message buffer, mean d
pub record KeyFollows (k : Key) (m v : List ℕ) (d : definition.Key) : Type 0 where
  pub sound : KeySound k
  pub main : Means k.main.hid.last k.main.hid m d.transports.main
  pub vendor : Means k.main.hid.last (vendor_in k) v d.transports.vendor
  pub wink : k.main.wink ≡ d.wink

-- check 8 on vendor leaves a payload where it lies
carried-on-vendor : (P : List ℕ → Type 0) (u2f : Bool) (a : standard.Answer) → Carried P a → Carried P (on_vendor u2f a)
unfolding on_vendor request_on_vendor
carried-on-vendor P u2f nothing h = tt
carried-on-vendor P u2f (reply c k payload) h = h
carried-on-vendor P u2f (request c k payload) h =
    pick-both (Carried P) (eqb (number k) 8) _ _ no-echo (pick-both (Carried P) (eqb (number k) 3) _ _ (pick-both (Carried P) u2f _ _ h no-echo) h)

module _ (k : Key) (m v : List ℕ) (d : definition.Key) (f : KeyFollows k m v d) (t : ℕ) (p : List ℕ) (b : Buffers) where
  -- none of the refusals, for an interface with this maximum
  passed : (max : ℕ) (disabled : Bool) → Comes k.main.hid.last (record { time = t; disabled = disabled; packet = p }) → max ≤ length b.message → 17 ≤ length b.short
      → Passed (refusals_where (is_key_sound k) max k.main.hid.last t (length p) (length b.message) (length b.short))
  passed max disabled comes room short = (
    ap not (eq-eqb (length p) packet_size comes.size),
    (le-ltb (length b.message) max room, (le-ltb (length b.short) 17 short, (ap not (is-key-sound k f.sound), (le-ltb last_time t comes.early, (le-ltb t k.main.hid.last comes.later, tt))))),
  )

  -- ---- main
  module _ (comes : Comes k.main.hid.last (record { time = t; disabled = ltb t k.vendor.lock; packet = p })) (lends : Lends k.main.hid t m b) where
    abbrev e : Event
    e = record { time = t; disabled = ltb t k.vendor.lock; packet = p }

    abbrev MainHeard : MainStepping
    MainHeard = main_heard_of k.main t (ltb t k.vendor.lock) (read p) b.message b.short

    main-is : main_key_of k t p b.message b.short ≡ MainHeard
    unfolding main_key_of
    main-is = none-refuse (λ n. main_stepping (record { hid = k.main; answer = Refused n }) b.message b.short) (refusals_where (is_key_sound k) k.main.hid.max k.main.hid.last t (length p) (length b.message) (length b.short)) MainHeard (passed k.main.hid.max (ltb t k.vendor.lock) comes lends.roomy.message lends.roomy.short)

    -- what the standard's main sees
    seen-main : e ≡ seen_as d.transports (arrival main t p)
    seen-main = ap (λ (x : Transport). record { time = t; disabled = ltb t x.lock.until; packet = p }) f.vendor

    main-follows : MainFollows k.main m (main_of d)
    main-follows = record { sound = f.sound.main; means = f.main; wink = f.wink }

    pub on-main : key_said_by (main_laid k (main_key_of k t p b.message b.short)) ≡ answered (key_step d (arrival main t p)).answer
    on-main =
        ap (λ (x : MainStepping). said x.stepped.answer x.message x.reply) (main-is ∙ sym (main-step-is k.main e b f.sound.main comes lends.roomy))
        ∙ (main-answers-alike k.main m (main_of d) e b main-follows comes lends
        ∙ ap (λ (x : Event). answered (device_step (main_of d) x).answer) seen-main)

    abbrev FollowsMain : MainStepping → Type 0
    FollowsMain x = KeyFollows (put_main k x.stepped.hid) x.message v (key_step d (arrival main t p)).state

    heard-main : FollowsMain MainHeard
    unfolding main_heard_of
    heard-main =
        let o : MainFollows MainHeard.stepped.hid MainHeard.message (device_step (main_of d) (seen_as d.transports (arrival main t p))).state =
        subst (λ (x : Event). MainFollows MainHeard.stepped.hid MainHeard.message (device_step (main_of d) x).state) seen-main
        (subst (λ (x : MainStepping). MainFollows x.stepped.hid x.message (device_step (main_of d) e).state) (main-step-is k.main e b f.sound.main comes lends.roomy) (main-follows-on k.main m (main_of d) e b main-follows comes lends)) in
        record {
          sound = main-stays k f.sound t p b.message b.short (ltb t k.vendor.lock) comes lends.roomy.short refl lends.roomy.message;
          main = o.means;
          vendor = forgotten-later k.main.hid.last t (transport_of (vendor_in k) v) d.transports.vendor comes.later f.vendor;
          wink = o.wink;
        }

    pub goes-on-main : FollowsMain (main_key_of k t p b.message b.short)
    goes-on-main = subst FollowsMain (sym main-is) heard-main

    pub last-main : (main_key_of k t p b.message b.short).stepped.hid.hid.last ≡ t
    unfolding main_heard_of
    last-main = ap (λ (x : MainStepping). x.stepped.hid.hid.last) main-is

    -- the message buffer gets no shorter, and the maximum stays
    pub room-main : (main_key_of k t p b.message b.short).stepped.hid.hid.max ≤ length (main_key_of k t p b.message b.short).message
    unfolding main_heard_of
    room-main =
        subst (λ (x : MainStepping). x.stepped.hid.hid.max ≤ length x.message) (sym main-is)
        (omega (arith, lends.roomy.message, kept-long k.main.hid t (ltb t k.vendor.lock) (read p) b.message))

  -- ---- vendor
  module _ (comes : Comes k.main.hid.last (record { time = t; disabled = ltb t k.main.hid.lock; packet = p })) (lends : Lends (vendor_in k) t v b) where
    abbrev w : Event
    w = record { time = t; disabled = ltb t k.main.hid.lock; packet = p }

    abbrev VendorHeard : Stepping
    VendorHeard = vendor_heard_of (vendor_in k) t (ltb t k.main.hid.lock) (read p) b.message b.short

    vendor-is : vendor_key_of k t p b.message b.short ≡ VendorHeard
    unfolding vendor_key_of
    vendor-is = none-refuse (λ n. stepping (record { hid = vendor_in k; answer = Refused n }) b.message b.short) (refusals_where (is_key_sound k) k.vendor.max k.main.hid.last t (length p) (length b.message) (length b.short)) VendorHeard (passed k.vendor.max (ltb t k.main.hid.lock) comes lends.roomy.message lends.roomy.short)

    seen-vendor : w ≡ seen_as d.transports (arrival vendor t p)
    seen-vendor = ap (λ (x : Transport). record { time = t; disabled = ltb t x.lock.until; packet = p }) f.main

    vendor-follows : Follows (vendor_in k) v d.transports.vendor
    vendor-follows = record { sound = f.sound.vendor; means = f.vendor }

    abbrev n : Next Transport
    n = step (transport_of (vendor_in k) b.message) w

    -- what check 8 makes of the transport's answer is said as the standard's
    said-vendor : key_said_by (vendor_laid k VendorHeard) ≡ answered (checked_on_vendor n).answer
    unfolding vendor_heard_of served_of
    said-vendor =
        let kept : List ℕ = message_after (vendor_in k) t (ltb t k.main.hid.lock) (read p) b.message in
        let right = (heard-right (vendor_in k) 0 t (ltb t k.main.hid.lock) (read p) b.message f.sound.vendor lends.roomy.message comes.later (read-formed p comes.size comes.bytes)).1 in
        said-back k.vendor.max (checked_on_vendor n).answer kept b.short (carried-on-vendor (Lies k.vendor.max kept) n.state.settings.u2f n.answer right)

    -- and meets an answer and settings that are alike
    checked-alike : (checked_on_vendor n).answer ≡ (checked_on_vendor (step d.transports.vendor w)).answer
    checked-alike =
        let same = alike (vendor_in k) v d.transports.vendor w b vendor-follows comes lends in
        ap (λ (x : Transport). on_vendor x.settings.u2f n.answer) same.1 ∙ ap (on_vendor (step d.transports.vendor w).state.settings.u2f) same.0

    pub on-vendor : key_said_by (vendor_laid k (vendor_key_of k t p b.message b.short)) ≡ answered (key_step d (arrival vendor t p)).answer
    on-vendor =
        ap (λ (x : Stepping). key_said_by (vendor_laid k x)) vendor-is
        ∙ (said-vendor
        ∙ (ap answered checked-alike ∙ ap (λ (x : Event). answered (checked_on_vendor (step d.transports.vendor x)).answer) seen-vendor))

    abbrev FollowsVendor : Stepping → Type 0
    FollowsVendor x = KeyFollows (put_vendor k x.stepped.hid) m x.message (key_step d (arrival vendor t p)).state

    heard-vendor : FollowsVendor VendorHeard
    unfolding vendor_heard_of heard_of served_of
    heard-vendor =
        let o : Follows VendorHeard.stepped.hid VendorHeard.message (step d.transports.vendor (seen_as d.transports (arrival vendor t p))).state =
        subst (λ (x : Event). Follows VendorHeard.stepped.hid VendorHeard.message (step d.transports.vendor x).state) seen-vendor
        (subst (λ (x : Stepping). Follows x.stepped.hid x.message (step d.transports.vendor w).state) (step_is (vendor_in k) w b f.sound.vendor comes lends.roomy) (follows_on (vendor_in k) v d.transports.vendor w b vendor-follows comes lends)) in
        record {
          sound = vendor-stays k f.sound t p b.message b.short (ltb t k.main.hid.lock) comes lends.roomy.short refl lends.roomy.message;
          main = forgotten-later k.main.hid.last t (transport_of k.main.hid m) d.transports.main comes.later f.main;
          vendor = o.means;
          wink = f.wink;
        }

    pub goes-on-vendor : FollowsVendor (vendor_key_of k t p b.message b.short)
    goes-on-vendor = subst FollowsVendor (sym vendor-is) heard-vendor

    pub last-vendor : (vendor_key_of k t p b.message b.short).stepped.hid.last ≡ t
    unfolding vendor_heard_of served_of
    last-vendor = ap (λ (x : Stepping). x.stepped.hid.last) vendor-is

    pub room-vendor : k.vendor.max ≤ length (vendor_key_of k t p b.message b.short).message
    unfolding vendor_heard_of
    room-vendor =
        subst (λ (x : Stepping). k.vendor.max ≤ length x.message) (sym vendor-is)
        (omega (arith, lends.roomy.message, kept-long (vendor_in k) t (ltb t k.main.hid.lock) (read p) b.message))
