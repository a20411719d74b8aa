-- The code's reading refines the standard's, and keeps the collection sound. Assumes nothing.
use Prim.Native.Nat.{ℕ, ◌+◌, ◌*◌, ◌≤◌, ◌<◌}
use native.Mathlib.Omega.{arith}
use native.Mathlib.Decide.{dec_le}
use mathlib.Core.Path.{◌≡◌, refl, sym, ap, subst, ◌∙◌}
use mathlib.Core.List.{List, [], ◌++◌}
use borrow.Author.Tests.{lt-ltb, le-ltb, ne_eqb, eqb-false, ltb-false}
use lib.Dec.{eqb, ltb}
use lib.ListN.{length, take, drop, length-append, length-drop}
use lib.Seq.{length-take-le, take_at}
use Rattle.ctaphid.specs.Choice.{pick}
use Rattle.ctaphid.specs.Limits.{largest}
use Rattle.ctaphid.specs.Packets.{Packet, initialization, continuation, read, Formed}
use Rattle.ctaphid.specs.Host as standard
use Rattle.ctaphid.specs.Host.{Begun, none, collecting, Heard, refused, ignored, keepalive, waiting, reply, Got, got, gather, alive, begin, when_none, when_begun, on_own, hear}
use Rattle.ctaphid.proofs.Tests.{pick_known}
use Rattle.ctaphid.proofs.Packets.{read-formed}
use Rattle.collect.specs.Adding.{front}
use Rattle.collect.specs.Standing.{Stands}
use Rattle.host.specs.declared.Collection.{Collection}
use Rattle.host.specs.Meaning.{begun_of, collection_meant, none_begun, collection_of, Sound}
use Rattle.host.specs.Reading.{Reading, heard_of, read_of}
use Rattle.runs.specs.HostSteps.{Refines, Comes, ReadRefines, SoundStays, LengthStays, NewSound}
use Rattle.host.proofs.Sound.{is-sound}
use Rattle.host.proofs.Refusing.{read-heard}

-- ---- what the standard's host keeps: lengths and number of a reply that is begun stand
abbrev Good : (space : ℕ) → standard.Collection → Type 0
Good space none = Unit {0}
Good space (collecting b) = (b.declared ≤ 7609) × Stands space b.declared (length b.collected) b.due

-- where a step leads, by its answer
abbrev Leads : (space : ℕ) → standard.Collection → standard.Collection → Heard → Type 0
Leads space t t' (refused number) = t' ≡ t
Leads space t t' ignored = t' ≡ t
Leads space t t' (keepalive status) = t' ≡ t
Leads space t none waiting = ⊥
Leads space t (collecting b) waiting = Good space (collecting b)
Leads space t t' (reply cmd payload) = (t' ≡ none) × (length payload ≤ space)

module _ (space : ℕ) (t : standard.Collection) where
  abbrev To : Got → Type 0
  To g = Leads space t g.collection g.answer

  gather-leads : (b : Begun) (field : List ℕ) → b.declared ≤ 7609 → b.declared ≤ space → length b.collected + length field ≡ 57 + 59 * b.due → To (gather b field)
  unfolding gather pick
  gather-leads b field most fits sum = by_size (dec_le b.declared (length (b.collected ++ field)))
    where
      n : length (b.collected ++ field) ≡ length b.collected + length field
      n = length-append b.collected field

      by_size : Dec (b.declared ≤ length (b.collected ++ field)) → To (gather b field)
      by_size (yes h) =
          simp (le-ltb (length (b.collected ++ field)) b.declared h)
          (refl, let k : length (take b.declared (b.collected ++ field)) ≡ b.declared = length-take-le b.declared (b.collected ++ field) h in omega arith)
      by_size (no h) =
          simp (lt-ltb (length (b.collected ++ field)) b.declared (omega arith))
          (most, record { long = omega (arith, n, sum); within = fits; below = omega (arith, n, sum); bytes = omega (arith, n, sum) })

alive-leads : (space declared : ℕ) (field : List ℕ) → To space none (alive declared field)
unfolding alive
alive-leads space declared field = pick_known (To space none) _ _ _ (λ e. refl) (λ e. refl)

begin-leads : (space cmd declared : ℕ) (field : List ℕ) → length field ≡ 57 → To space none (begin space cmd declared field)
unfolding begin
begin-leads space cmd declared field size =
    pick_known (To space none) (ltb largest declared) _ _
    (λ e. refl)
    (λ e. pick_known (To space none) (ltb space declared) _ _
    (λ f. refl)
    (λ f. gather-leads space none (record { command = cmd; declared = declared; collected = []; due = 0 }) field (ltb-false largest declared e) (ltb-false space declared f) (omega arith)))

none-leads : (space : ℕ) (p : Packet) → Formed p → To space none (when_none space p)
unfolding when_none
none-leads space (initialization c cmd n field) f = pick_known (To space none) _ _ _ (λ e. alive-leads space n field) (λ e. begin-leads space cmd n field f.3)
none-leads space (continuation c k field) f = refl

begun-leads : (space : ℕ) (b : Begun) (p : Packet) → Good space (collecting b) → Formed p → To space (collecting b) (when_begun b p)
unfolding when_begun
begun-leads space b (initialization c cmd n field) g f = refl
begun-leads space b (continuation c k field) g f =
    pick_known (To space (collecting b)) _ _ _
    (λ e. gather-leads space (collecting b) (record { command = b.command; declared = b.declared; collected = b.collected; due = b.due + 1 }) field g.0 g.1.within (omega (arith, g.1.bytes, f.2)))
    (λ e. refl)

own-leads : (space : ℕ) (t : standard.Collection) (p : Packet) → Good space t → Formed p → To space t (on_own space t p)
unfolding on_own
own-leads space none p g f = none-leads space p f
own-leads space (collecting b) p g f = begun-leads space b p g f

hear-leads : (c space : ℕ) (t : standard.Collection) (p : Packet) → Good space t → Formed p → To space t (hear c space t p)
unfolding hear
hear-leads c space t p g f = pick_known (To space t) _ _ _ (λ e. own-leads space t p g f) (λ e. refl)

-- ---- what a sound collection means
pub meant-known : (P : standard.Collection → Type 0) (s : Collection) (m : List ℕ) → P none → ((s.len ≡ 0 → ⊥) → P (collecting (begun_of s m))) → P (collection_meant s m)
unfolding collection_meant
meant-known P s m p q = pick_known P (eqb s.len 0) _ _ (λ e. p) (λ e. q (eqb-false s.len 0 e))

good_of : (s : Collection) (m : List ℕ) → Sound s (length m) → Good (length m) (collection_meant s m)
good_of s m h =
    meant-known (Good (length m)) s m tt
    (λ some.
    let st = h.stands some in
    let n : length (take s.taken m) ≡ s.taken = length-take-le s.taken m (omega (arith, st.bytes, st.below, st.within)) in
    (h.most some, record { long = st.long; within = st.within; below = st.below; bytes = st.bytes ∙ sym n }))

-- the numbers for a collection whose bytes stand in the buffer mean it
pub at_front : (payload m : List ℕ) → take (length payload) (front payload m) ≡ payload
at_front payload m = take_at payload (drop (length payload) m) (length payload) refl

pub begun-back : (b : Begun) (m : List ℕ) → 0 < b.declared → take (length b.collected) m ≡ b.collected → collection_meant (collection_of (collecting b)) m ≡ collecting b
unfolding collection_meant pick
begun-back b m long e =
    let back : collecting (begun_of (collection_of (collecting b)) m) ≡ collecting b = λ i. collecting (record { command = b.command; declared = b.declared; collected = e i; due = b.due }) in
    simp (ne_eqb b.declared 0 (λ z. absurd (omega arith))) back

pub front_length : (bytes m : List ℕ) → length bytes ≤ length m → length (front bytes m) ≡ length m
front_length bytes m h = length-append bytes (drop (length bytes) m) ∙ (ap (λ (k : ℕ). length bytes + k) (length-drop (length bytes) m) ∙ omega arith)

pub none-sound : (space : ℕ) → Sound none_begun space
none-sound space = record { most = λ z. absurd (z refl); stands = λ z. absurd (z refl) }

pub none-meant : (m : List ℕ) → collection_meant none_begun m ≡ none
unfolding collection_meant pick
none-meant m = refl

-- ---- all that is owed of one step, by its answer
pub record Owed (s : Collection) (m : List ℕ) (g : Got) : Type 0 where
  pub refines : Refines (heard_of s g m) g
  pub sound : Sound (heard_of s g m).progress.collection (length m)
  pub long : length (heard_of s g m).buffer ≡ length m

owed : (s : Collection) (m : List ℕ) (t : standard.Collection) (a : Heard) → Sound s (length m) → Leads (length m) (collection_meant s m) t a → Owed s m (got t a)
unfolding heard_of
owed s m t (refused number) h l = record { refines = record { collection = sym l; answer = refl }; sound = h; long = refl }
owed s m t ignored h l = record { refines = record { collection = sym l; answer = refl }; sound = h; long = refl }
owed s m t (keepalive status) h l = record { refines = record { collection = sym l; answer = refl }; sound = h; long = refl }
owed s m none waiting h l = absurd l
owed s m (collecting b) waiting h l =
    record {
      refines = record { collection = begun-back b (front b.collected m) (omega (arith, l.1.long)) (at_front b.collected m); answer = refl };
      sound = record { most = λ z. l.0; stands = λ z. l.1 };
      long = front_length b.collected m (omega (arith, l.1.bytes, l.1.below, l.1.within));
    }
owed s m t (reply cmd payload) h l =
    record {
      refines = record { collection = ap (λ (u : standard.Collection). collection_meant (collection_of u) (front payload m)) l.0 ∙ (none-meant (front payload m) ∙ sym l.0); answer = ap (reply cmd) (at_front payload m) };
      sound = subst (λ (u : standard.Collection). Sound (collection_of u) (length m)) (sym l.0) (none-sound (length m));
      long = front_length payload m l.1;
    }

module _ (s : Collection) (c : ℕ) (p m : List ℕ) (h : Sound s (length m)) (k : Comes p) where
  abbrev g : Got
  g = hear c (length m) (collection_meant s m) (read p)

  heard-is : heard_of s g m ≡ read_of s c p m
  heard-is = read-heard s c p m k.size _ refl (is-sound s (length m) h) (heard_of s g m) refl

  owes : Owed s m g
  owes = owed s m g.collection g.answer h (hear-leads c (length m) (collection_meant s m) (read p) (good_of s m h) (read-formed p k.size k.bytes))

  refines-at : Refines (read_of s c p m) g
  refines-at = subst (λ (x : Reading). Refines x g) heard-is owes.refines

  sound-at : Sound (read_of s c p m).progress.collection (length m)
  sound-at = subst (λ (x : Reading). Sound x.progress.collection (length m)) heard-is owes.sound

  long-at : length (read_of s c p m).buffer ≡ length m
  long-at = subst (λ (x : Reading). length x.buffer ≡ length m) heard-is owes.long

pub read-refines : ReadRefines
read-refines = refines-at

pub sound-stays : SoundStays
sound-stays = sound-at

pub length-stays : LengthStays
length-stays = long-at

pub new-sound : NewSound
new-sound = record { sound = none-sound; meant = none-meant }
