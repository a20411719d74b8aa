-- A call of the code's key for an arrival, what it leaves of a sound key whatever is called, and set-up. Assumes nothing.
use Rattle.std.specs.Prelude.{ℕ, ◌≤◌, ◌<◌, ◌≡◌, List, [], ◌∷◌}
use Rattle.ctaphid.specs.Packets.{Bytes}
use Rattle.ctaphid.specs.Interfaces.{Interface, the, KeySettings, Arrival}
use Rattle.ctaphid.specs.KeyDemands.{KeyPermitted}
use Rattle.answers.specs.declared.Answer.{Answer}
use Rattle.answers.specs.declared.Answer.TheVariants.{Refused, Nothing, Message, Echo, Reply}
use Rattle.answers.specs.Answers.{Said, said}
use Rattle.hid.specs.declared.CtapHid.{CtapHid}
use Rattle.key.specs.declared.Key.{Key}
use Rattle.key.specs.declared.KeyReady.TheVariants as ready
use Rattle.key.specs.Meaning.{vendor_in}
use Rattle.key.specs.Soundness.{KeySound}
use Rattle.key.specs.SetUp.{fresh_key, key_new_of}
use Rattle.key.specs.Stepping.{KeyStepping, key_stepping, main_key_of, vendor_key_of, main_laid, vendor_laid}
use Rattle.runs.specs.Steps.{Buffers}

-- the key that set-up makes of settings
abbrev pub key_from : KeySettings → Key
key_from set = fresh_key set.main set.vendor set.u2f set.commands

-- an interface, as the transport that it is
abbrev pub hid_on : Key → Interface → CtapHid
hid_on k i = the i k.main.hid (vendor_in k)

-- ---- a call: what the entry of its interface leaves, and what it says

pub record KeyCall : Type 0 where
  pub arrival : Arrival
  pub lent : Buffers

abbrev pub on_call : Key → KeyCall → KeyStepping
on_call k c =
    the c.arrival.interface
    (main_laid k (main_key_of k c.arrival.time c.arrival.packet c.lent.message c.lent.short))
    (vendor_laid k (vendor_key_of k c.arrival.time c.arrival.packet c.lent.message c.lent.short))

abbrev pub key_said_by : KeyStepping → Said
key_said_by x = said x.answer x.message x.reply

-- the key after any calls, refused or not
abbrev pub key_after : Key → List KeyCall → Key
key_after k [] = k
key_after k (c ∷ rest) = key_after (on_call k c).key rest

-- ---- the statements

abbrev pub IsRefused : Answer → Type 0
IsRefused (Refused number) = Unit {0}
IsRefused Nothing = ⊥
IsRefused (Message c cmd len) = ⊥
IsRefused (Echo c cmd len) = ⊥
IsRefused (Reply c cmd len) = ⊥

-- a refused call leaves the key and both buffers as they came
abbrev pub RefusedAltersNothing : Type 0
RefusedAltersNothing = (k : Key) (c : KeyCall) → IsRefused (on_call k c).answer → on_call k c ≡ key_stepping k (on_call k c).answer c.lent.message c.lent.short

-- whatever is called with packets of bytes, a sound key stays sound
abbrev pub KeySoundStays : Type 0
KeySoundStays = (k : Key) (c : KeyCall) → KeySound k → Bytes c.arrival.packet → KeySound (on_call k c).key

-- set-up takes the settings that are permitted, and its key is sound
pub record KeySetsUp (set : KeySettings) : Type 0 where
  pub taken : key_new_of set.main set.vendor set.u2f set.commands ≡ ready.Key (key_from set)
  pub sound : KeySound (key_from set)

abbrev pub KeySetUpTaken : Type 0
KeySetUpTaken = (set : KeySettings) → KeyPermitted set → KeySetsUp set

-- so over any calls from set-up, at whatever times and with whatever buffers, refused or not, never two locks run at once
abbrev pub AllBytes : List KeyCall → Type 0
AllBytes [] = Unit {0}
AllBytes (c ∷ rest) = Bytes c.arrival.packet × AllBytes rest

abbrev pub NeverTwoLocksRun : Type 0
NeverTwoLocksRun =
    (set : KeySettings) → KeyPermitted set → (calls : List KeyCall) → AllBytes calls → (time : ℕ) → (key_after (key_from set) calls).main.hid.last ≤ time
    → time < (key_after (key_from set) calls).main.hid.lock → time < (key_after (key_from set) calls).vendor.lock → ⊥
