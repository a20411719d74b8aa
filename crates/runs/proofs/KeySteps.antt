-- What a call of the key leaves, whatever is called: all as it came where it is refused, and a sound key in any case. Assumes nothing.
use Prim.Native.Nat.{ℕ, ◌≤◌, ◌<◌}
use native.Mathlib.Omega.{arith}
use mathlib.Core.Path.{◌≡◌, refl, sym, ap, subst}
use mathlib.Core.List.{List, [], ◌∷◌}
use mathlib.Core.Bool.{Bool, true, false, not, cond}
use borrow.Author.Tests.{le-ltb, ltb-false, eqb-true, not-false}
use lib.Dec.{ltb, eqb}
use lib.ListN.{length}
use Rattle.ctaphid.specs.Limits.{last_time, packet_size}
use Rattle.ctaphid.specs.Packets.{Bytes, read}
use Rattle.ctaphid.specs.Transport as standard
use Rattle.ctaphid.specs.Transport.{Lock, Transport, Event, Next, nothing, reply, request, hear}
use Rattle.ctaphid.specs.Device.{above}
use Rattle.ctaphid.specs.Interfaces.{Interface, main, vendor, settings_on, arrival}
use Rattle.ctaphid.proofs.Refusing.{Passed, none-refuse, refused-or, either_way}
use Rattle.ctaphid.proofs.Device.{same-transport}
use Rattle.ctaphid.proofs.Interfaces.{Apart, apart-hear}
use Rattle.packet.specs.Numbers.{command_case}
use Rattle.answers.specs.declared.Answer.TheVariants.{Refused, Echo, Reply}
use Rattle.answers.specs.Answers.{is_echo, answer_of}
use Rattle.hid.specs.declared.CtapHid.{CtapHid}
use Rattle.hid.specs.Meaning.{transport_of}
use Rattle.hid.specs.Soundness.{Sound}
use Rattle.hid.specs.State.{served_of}
use Rattle.hid.specs.SetUp.{set_up_refusals}
use Rattle.hid.specs.Hearing.{Stepping, stepping, heard_of}
use Rattle.hid.specs.Refusals.{refusals_where}
use Rattle.hid.specs.MainHid.{MainStepping, main_stepping, main_heard_of}
use Rattle.key.specs.declared.Key.{Key}
use Rattle.key.specs.declared.KeyReady.TheVariants as ready
use Rattle.key.specs.Meaning.{vendor_in, with_last, put_main, put_vendor}
use Rattle.key.specs.Soundness.{KeySound, is_key_sound}
use Rattle.key.specs.SetUp.{key_new_of}
use Rattle.key.specs.Stepping.{KeyStepping, key_stepping, main_key_of, checked_on_vendor, vendor_heard_of, vendor_key_of, main_laid, vendor_laid}
use Rattle.runs.specs.Steps.{buffers, Comes}
use Rattle.runs.specs.KeySteps.{key_from, KeyCall, on_call, key_after, IsRefused, RefusedAltersNothing, KeySoundStays, KeySetUpTaken, AllBytes, NeverTwoLocksRun}
use Rattle.runs.proofs.Refines.{stays-sound, main-stays-sound, permitted-all, set-up-taken}

-- ---- a refused call

-- what was heard is no refusal
never-refused : (a : standard.Answer) → IsRefused (answer_of a) → ⊥
never-refused nothing h = h
never-refused (reply c cmd payload) h = by_kind (is_echo cmd) h
  where
    by_kind : (b : Bool) → IsRefused (cond b (Echo c (command_case cmd) (length payload)) (Reply c (command_case cmd) (length payload))) → ⊥
    by_kind true h = h
    by_kind false h = h
never-refused (request c cmd payload) h = h

module _ (k : Key) (t : ℕ) (p m r : List ℕ) where
  abbrev called : Interface → KeyStepping
  called i = on_call k (record { arrival = arrival i t p; lent = buffers m r })

  refused-on : (i : Interface) → IsRefused (called i).answer → called i ≡ key_stepping k (called i).answer m r
  unfolding main_key_of main_heard_of vendor_key_of vendor_heard_of served_of
  refused-on main =
      either_way (λ (x : MainStepping). IsRefused x.stepped.answer → main_laid k x ≡ key_stepping k x.stepped.answer m r)
      (λ n. main_stepping (record { hid = k.main; answer = Refused n }) m r)
      (refusals_where (is_key_sound k) k.main.hid.max k.main.hid.last t (length p) (length m) (length r))
      (main_heard_of k.main t (ltb t k.vendor.lock) (read p) m r)
      (λ n h. refl)
      (λ h. absurd (never-refused (above t k.main.wink (hear (transport_of k.main.hid m) t (ltb t k.vendor.lock) (read p))).answer h))
  refused-on vendor =
      either_way (λ (x : Stepping). IsRefused x.stepped.answer → vendor_laid k x ≡ key_stepping k x.stepped.answer m r)
      (λ n. stepping (record { hid = vendor_in k; answer = Refused n }) m r)
      (refusals_where (is_key_sound k) k.vendor.max k.main.hid.last t (length p) (length m) (length r))
      (vendor_heard_of (vendor_in k) t (ltb t k.main.hid.lock) (read p) m r)
      (λ n h. refl)
      (λ h. absurd (never-refused (checked_on_vendor (hear (transport_of (vendor_in k) m) t (ltb t k.main.hid.lock) (read p))).answer h))

pub refused-alters-nothing : RefusedAltersNothing
refused-alters-nothing k c = refused-on k c.arrival.time c.arrival.packet c.lent.message c.lent.short c.arrival.interface

-- ---- a call that is not
pub sound-later : (s : CtapHid) (wink time : ℕ) → Sound s wink → s.last ≤ time → time ≤ 0xffff_ffff_ffff → Sound (with_last s time) wink
sound-later s wink time sound later early =
    record {
      maximum = sound.maximum;
      count = sound.count;
      last = early;
      deadline = omega (arith, sound.deadline, later);
      lock = omega (arith, sound.lock, later);
      wink = omega (arith, sound.wink, later);
      holder = λ running. sound.holder (omega (arith, running, later));
      transaction = sound.transaction;
      due = sound.due;
      channel = sound.channel;
    }

-- what no refusal means, of an interface with this maximum
module _ (sound : Bool) (max last time : ℕ) (p m r : List ℕ) (g : Passed (refusals_where sound max last time (length p) (length m) (length r))) where
  came : Bytes p → (disabled : Bool) → Comes last (record { time = time; disabled = disabled; packet = p })
  came bytes disabled =
      record {
        size = eqb-true (length p) packet_size (not-false (eqb (length p) packet_size) g.0);
        bytes = bytes;
        later = ltb-false time last g.1.1.1.1.1.0;
        early = ltb-false last_time time g.1.1.1.1.0;
      }

  room : max ≤ length m
  room = ltb-false (length m) max g.1.0

  short : 17 ≤ length r
  short = ltb-false (length r) 17 g.1.1.0

module _ (k : Key) (sound : KeySound k) (t : ℕ) (p m r : List ℕ) where
  abbrev main_lock : Lock
  main_lock = (transport_of k.main.hid m).lock

  abbrev vendor_lock : Lock
  vendor_lock = (transport_of (vendor_in k) m).lock

  apart-now : Apart k.main.hid.last main_lock vendor_lock
  apart-now time h one another = sound.apart (omega (arith, h, one)) (omega (arith, h, another))

  module _ (disabled : Bool) (comes : Comes k.main.hid.last (record { time = t; disabled = disabled; packet = p })) (long : 17 ≤ length r) where
    abbrev e : Event
    e = record { time = t; disabled = disabled; packet = p }

    pub main-stays : disabled ≡ ltb t k.vendor.lock → k.main.hid.max ≤ length m → KeySound (put_main k (main_heard_of k.main t disabled (read p) m r).stepped.hid)
    unfolding main_heard_of
    main-stays is room =
        let below : Next Transport = hear (transport_of k.main.hid m) t disabled (read p) in
        let same : (above t k.main.wink below).state.transport ≡ below.state = same-transport t k.main.wink below.state below.answer in
        let apart : Apart t below.state.lock vendor_lock = subst (λ (x : Bool). Apart t (hear (transport_of k.main.hid m) t x (read p)).state.lock vendor_lock) (sym is) (apart-hear (transport_of k.main.hid m) vendor_lock k.main.hid.last t (read p) comes.later apart-now) in
        record {
          main = main-stays-sound k.main e (buffers m r) sound.main comes (record { message = room; short = long });
          vendor = sound-later (vendor_in k) 0 t sound.vendor comes.later comes.early;
          apart = λ own other. apart t (omega arith) (subst (λ (x : Transport). t < x.lock.until) same own) other;
        }

    pub vendor-stays : disabled ≡ ltb t k.main.hid.lock → k.vendor.max ≤ length m → KeySound (put_vendor k (vendor_heard_of (vendor_in k) t disabled (read p) m r).stepped.hid)
    unfolding vendor_heard_of served_of heard_of
    vendor-stays is room =
        let apart : Apart t (hear (transport_of (vendor_in k) m) t disabled (read p)).state.lock main_lock = subst (λ (x : Bool). Apart t (hear (transport_of (vendor_in k) m) t x (read p)).state.lock main_lock) (sym is) (apart-hear (transport_of (vendor_in k) m) main_lock k.main.hid.last t (read p) comes.later (λ time h one another. apart-now time h another one)) in
        record {
          main = sound-later k.main.hid k.main.wink t sound.main comes.later comes.early;
          vendor = stays-sound (vendor_in k) e (buffers m r) sound.vendor comes (record { message = room; short = long });
          apart = λ own other. apart t (omega arith) other own;
        }

module _ (k : Key) (sound : KeySound k) (t : ℕ) (p m r : List ℕ) (bytes : Bytes p) where
  stays_on : (i : Interface) → KeySound (called k t p m r i).key
  unfolding main_key_of vendor_key_of
  stays_on main =
      refused-or (λ (x : MainStepping). KeySound (put_main k x.stepped.hid))
      (λ n. main_stepping (record { hid = k.main; answer = Refused n }) m r)
      (refusals_where (is_key_sound k) k.main.hid.max k.main.hid.last t (length p) (length m) (length r))
      (main_heard_of k.main t (ltb t k.vendor.lock) (read p) m r)
      (λ n. sound)
      (λ g.
      let comes = came (is_key_sound k) k.main.hid.max k.main.hid.last t p m r g bytes (ltb t k.vendor.lock) in
      main-stays k sound t p m r _ comes (short (is_key_sound k) k.main.hid.max k.main.hid.last t p m r g) refl (room (is_key_sound k) k.main.hid.max k.main.hid.last t p m r g))
  stays_on vendor =
      refused-or (λ (x : Stepping). KeySound (put_vendor k x.stepped.hid))
      (λ n. stepping (record { hid = vendor_in k; answer = Refused n }) m r)
      (refusals_where (is_key_sound k) k.vendor.max k.main.hid.last t (length p) (length m) (length r))
      (vendor_heard_of (vendor_in k) t (ltb t k.main.hid.lock) (read p) m r)
      (λ n. sound)
      (λ g.
      let comes = came (is_key_sound k) k.vendor.max k.main.hid.last t p m r g bytes (ltb t k.main.hid.lock) in
      vendor-stays k sound t p m r _ comes (short (is_key_sound k) k.vendor.max k.main.hid.last t p m r g) refl (room (is_key_sound k) k.vendor.max k.main.hid.last t p m r g))

pub key-sound-stays : KeySoundStays
key-sound-stays k c sound bytes = stays_on k sound c.arrival.time c.arrival.packet c.lent.message c.lent.short bytes c.arrival.interface

-- ---- from set-up
pub key-set-up-taken : KeySetUpTaken
unfolding key_new_of
key-set-up-taken set p =
    record {
      taken = none-refuse ready.Refused ((ltb 7609 set.vendor, 5) ∷ set_up_refusals set.main set.commands) (ready.Key (key_from set)) (le-ltb 7609 set.vendor (p vendor).most, (le-ltb 7609 set.main (p main).most, (ap not (permitted-all (settings_on set main) (p main)), tt)));
      sound = record {
        main = (set-up-taken (settings_on set main) (p main)).sound;
        vendor = (set-up-taken (settings_on set vendor) (p vendor)).sound;
        apart = λ own other. omega arith;
      };
    }

after-sound : (k : Key) (calls : List KeyCall) → KeySound k → AllBytes calls → KeySound (key_after k calls)
after-sound k [] sound bytes = sound
after-sound k (c ∷ rest) sound bytes = after-sound (on_call k c).key rest (key-sound-stays k c sound bytes.0) bytes.1

pub never-two-locks-run : NeverTwoLocksRun
never-two-locks-run set permitted calls bytes time later own other =
    (after-sound (key_from set) calls (key-set-up-taken set permitted).sound bytes).apart (omega (arith, later, own)) (omega (arith, later, other))
