-- The code's reading of a fragment refines the standard's, keeps the collection sound, and writes nothing past what is declared. Assumes nothing.
use Prim.Native.Nat.{ℕ, ◌+◌, ◌%◌, ◌≤◌, ◌<◌}
use native.Mathlib.Omega.{arith}
use native.Mathlib.Decide.{dec_le, ℕ_discrete}
use mathlib.Core.Path.{◌≡◌, refl, sym, ap, subst, ◌∙◌}
use mathlib.Core.List.{List, [], ◌++◌}
use mathlib.Core.Bool.{true, not}
use borrow.Author.Tests.{ltb-false, not-false}
use lib.Dec.{eqb, ltb}
use lib.ListN.{length, drop, length-append}
use lib.Seq.{length-take-le, drop-append_seam}
use Rattle.ctaphid.specs.Choice.{pick}
use Rattle.ctaphid.specs.Host as standard
use Rattle.ctaphid.specs.Host.{Begun, none, collecting}
use Rattle.ctaphid.specs.Bluetooth.{is_size, Fragment, initialization, continuation, Read, too_short, fragment, read, Told, refused, waiting, message, Taken, taken, gather, begin, on_fragment, on_read, hear}
use Rattle.ctaphid.proofs.Tests.{pick_known}
use Rattle.ctaphid.proofs.Bluetooth.{gather-over, gather-waits, gather-whole}
use Rattle.collect.specs.Adding.{front}
use Rattle.host.specs.declared.Collection.{Collection}
use Rattle.host.specs.Meaning.{collection_meant, collection_of}
use Rattle.ble.specs.declared.Answer.TheVariants.{Refused}
use Rattle.ble.specs.Soundness.{Sound, is_sound}
use Rattle.ble.specs.Reading.{Reading, reading, laid, read_of}
use Rattle.ble.proofs.Sound.{is-sound, sound-is}
use Rattle.ble.proofs.Receiving.{meant-begun}
use Rattle.runs.specs.FragmentRuns.{Refines, ReadRefines, SoundStays, Keeps, NothingPast}
use Rattle.runs.proofs.HostRefines.{at_front, begun-back, front_length, none-meant, meant-known}

-- ---- what the standard's reader keeps
abbrev Good : (space : ℕ) → standard.Collection → Type 0
Good space none = Unit {0}
Good space (collecting b) = (length b.collected < b.declared) × (b.declared ≤ space) × (b.due ≤ 127)

-- so much was declared, where a message was begun
abbrev Declares : standard.Collection → ℕ → Type 0
Declares none n = Unit {0}
Declares (collecting b) n = n ≡ b.declared

-- where a step leads, by its answer
abbrev Leads : (space : ℕ) → standard.Collection → standard.Collection → Told → Type 0
Leads space t t' (refused number) = t' ≡ t
Leads space t none waiting = ⊥
Leads space t (collecting b) waiting = Good space (collecting b) × Declares t b.declared
Leads space t t' (message cmd payload) = (t' ≡ none) × (length payload ≤ space) × Declares t (length payload)

module _ (space : ℕ) (t : standard.Collection) where
  abbrev To : Taken → Type 0
  To x = Leads space t x.collection x.answer

  gather-leads : (b : Begun) (field : List ℕ) → b.declared ≤ space → b.due ≤ 127 → Declares t b.declared → To (gather t b field)
  gather-leads b field fits due same = by_over (dec_le (length b.collected + length field) b.declared)
    where
      sum : length (b.collected ++ field) ≡ length b.collected + length field
      sum = length-append b.collected field

      by_whole : Dec (b.declared ≡ length b.collected + length field) → length b.collected + length field ≤ b.declared → To (gather t b field)
      by_whole (yes e) h = rw (gather-whole t b field e) (refl, omega (arith, sum), subst (Declares t) (e ∙ sym sum) same)
      by_whole (no e) h = rw (gather-waits t b field (omega arith)) ((omega (arith, sum), fits, due), same)

      by_over : Dec (length b.collected + length field ≤ b.declared) → To (gather t b field)
      by_over (yes h) = by_whole (ℕ_discrete b.declared (length b.collected + length field)) h
      by_over (no h) = rw (gather-over t b field (omega arith)) refl

fragment-leads : (space : ℕ) (t : standard.Collection) (f : Fragment) → Good space t → To space t (on_fragment space t f)
unfolding on_fragment begin
fragment-leads space none (initialization cmd n field) g =
    pick_known (To space none) (ltb space n) _ _
    (λ e. refl)
    (λ e. gather-leads space none (record { command = cmd; declared = n; collected = []; due = 0 }) field (ltb-false space n e) (omega arith) tt)
fragment-leads space none (continuation k field) g = refl
fragment-leads space (collecting b) (initialization cmd n field) g = refl
fragment-leads space (collecting b) (continuation k field) g =
    pick_known (To space (collecting b)) (eqb k b.due) _ _
    (λ e. gather-leads space (collecting b) (record { command = b.command; declared = b.declared; collected = b.collected; due = (b.due + 1) % 128 }) field g.1 (omega arith) refl)
    (λ e. refl)

read-leads : (space : ℕ) (t : standard.Collection) (r : Read) → Good space t → To space t (on_read space t r)
read-leads space t too_short g = refl
read-leads space t (fragment f) g = fragment-leads space t f g

hear-leads : (size space : ℕ) (t : standard.Collection) (f : List ℕ) → Good space t → To space t (hear size space t f)
unfolding hear
hear-leads size space t f g = pick_known (To space t) (ltb size (length f)) _ _ (λ e. refl) (λ e. read-leads space t (read f) g)

-- ---- what a sound collection means
good_of : (s : Collection) (m : List ℕ) → Sound s (length m) → Good (length m) (collection_meant s m)
good_of s m h =
    meant-known (Good (length m)) s m tt
    (λ some. (omega (arith, length-take-le s.taken m (omega (arith, h.more some, h.room some)), h.more some), h.room some, h.due some))

declared-of : (s : Collection) (m : List ℕ) (n : ℕ) → Declares (collection_meant s m) n → (s.len ≡ 0 → ⊥) → n ≡ s.len
declared-of s m n d some = subst (λ (t : standard.Collection). Declares t n) (meant-begun s m some) d

-- what is behind a front stays
past : (bytes m : List ℕ) → drop (length bytes) (front bytes m) ≡ drop (length bytes) m
past bytes m = drop-append_seam bytes (drop (length bytes) m)

-- ---- all that is owed of one step, by its answer
refused-keeps : (s : Collection) (m : List ℕ) (number : ℕ) → Keeps s m (reading s (Refused number) m)
refused-keeps s m number = record {
  refused = λ n e. (refl, refl);
  waits = λ e. let z : ◌≡◌ {A = ℕ} 0 1 = cc in absurd (omega arith);
  hands = λ cmd len e. let z : ◌≡◌ {A = ℕ} 0 1 = cc in absurd (omega arith);
  still = λ some e. let z : ◌≡◌ {A = ℕ} 0 1 = cc in absurd (omega arith);
  all = λ some cmd len e. let z : ◌≡◌ {A = ℕ} 0 1 = cc in absurd (omega arith);
}

record Owed (s : Collection) (m : List ℕ) (x : Taken) : Type 0 where
  refines : Refines (laid s x m) x
  sound : Sound (laid s x m).collection (length m)
  long : length (laid s x m).buffer ≡ length m
  keeps : Keeps s m (laid s x m)

owed : (s : Collection) (m : List ℕ) (t : standard.Collection) (a : Told) → Sound s (length m) → Leads (length m) (collection_meant s m) t a → Owed s m (taken t a)
unfolding laid
owed s m t (refused number) h l =
    record {
      refines = record { collection = sym l; answer = refl };
      sound = h;
      long = refl;
      keeps = refused-keeps s m number;
    }
owed s m none waiting h l = absurd l
owed s m (collecting b) waiting h l =
    record {
      refines = record { collection = begun-back b (front b.collected m) (omega (arith, l.0.0)) (at_front b.collected m); answer = refl };
      sound = record { more = λ z. l.0.0; room = λ z. l.0.1; due = λ z. l.0.2 };
      long = front_length b.collected m (omega (arith, l.0.0, l.0.1));
      keeps = record {
        refused = λ n e. let z : ◌≡◌ {A = ℕ} 0 1 = cc in absurd (omega arith);
        waits = λ e. (l.0.0, past b.collected m);
        hands = λ cmd len e. let z : ◌≡◌ {A = ℕ} 0 1 = cc in absurd (omega arith);
        still = λ some e. declared-of s m b.declared l.1 some;
        all = λ some cmd len e. let z : ◌≡◌ {A = ℕ} 0 1 = cc in absurd (omega arith);
      };
    }
owed s m t (message cmd payload) h l =
    record {
      refines = record {
        collection = ap (λ (u : standard.Collection). collection_meant (collection_of u) (front payload m)) l.0 ∙ (none-meant (front payload m) ∙ sym l.0);
        answer = ap (message cmd) (at_front payload m);
      };
      sound = subst (λ (u : standard.Collection). Sound (collection_of u) (length m)) (sym l.0) (record { more = λ z. absurd (z refl); room = λ z. absurd (z refl); due = λ z. absurd (z refl) });
      long = front_length payload m l.1;
      keeps = record {
        refused = λ n e. let z : ◌≡◌ {A = ℕ} 0 1 = cc in absurd (omega arith);
        waits = λ e. let z : ◌≡◌ {A = ℕ} 0 1 = cc in absurd (omega arith);
        hands = λ c len e. let n : length payload ≡ len = cc in subst (λ (k : ℕ). drop k (front payload m) ≡ drop k m) n (past payload m);
        still = λ some e. let z : ◌≡◌ {A = ℕ} 0 1 = cc in absurd (omega arith);
        all = λ some c len e. let n : length payload ≡ len = cc in sym n ∙ declared-of s m (length payload) l.2 some;
      };
    }

-- ---- the whole call
module _ (s : Collection) (size : ℕ) (f m : List ℕ) where
  abbrev heard : Taken
  heard = hear size (length m) (collection_meant s m) f

  owes : Sound s (length m) → Owed s m heard
  owes h = owed s m heard.collection heard.answer h (hear-leads size (length m) (collection_meant s m) f (good_of s m h))

  module _ (sized : is_size size ≡ true) (h : Sound s (length m)) where
    read_is : laid s heard m ≡ read_of s size f m
    unfolding read_of pick
    read_is = sym (simp (sized, is-sound s (length m) h))

    refines-at : Refines (read_of s size f m) heard
    refines-at = subst (λ (x : Reading). Refines x heard) read_is (owes h).refines

    sound-at : Sound (read_of s size f m).collection (length m)
    sound-at = subst (λ (x : Reading). Sound x.collection (length m)) read_is (owes h).sound

    pub length-stays : length (read_of s size f m).buffer ≡ length m
    length-stays = subst (λ (x : Reading). length x.buffer ≡ length m) read_is (owes h).long

  keeps-at : Keeps s m (read_of s size f m)
  unfolding read_of
  keeps-at =
      pick_known (Keeps s m) (not (is_size size)) _ _
      (λ e. refused-keeps s m 14)
      (λ e. pick_known (Keeps s m) (not (is_sound s (length m))) _ _
      (λ e'. refused-keeps s m 3)
      (λ e'. (owes (sound-is s (length m) (not-false (is_sound s (length m)) e'))).keeps))

pub read-refines : ReadRefines
read-refines = refines-at

pub sound-stays : SoundStays
sound-stays = sound-at

pub nothing-past : NothingPast
nothing-past = keeps-at
