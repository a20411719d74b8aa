-- Refusals 1 and 3, and a packet of 64 bytes that is read and heard. Assumes nothing.
use Prim.Native.Nat.{ℕ}
use mathlib.Core.Path.{◌≡◌, sym, ap, subst, ◌∙◌}
use mathlib.Core.List.{List}
use mathlib.Core.Bool.{Bool, true, false}
use borrow.Author.Tests.{eq-eqb, ne_eqb}
use lib.ListN.{length}
use Rattle.ctaphid.specs.Choice.{pick}
use Rattle.ctaphid.specs.Limits.{packet_size}
use Rattle.ctaphid.specs.Packets.{Packet, read, Bytes}
use Rattle.ctaphid.specs.Host.{hear}
use Rattle.ctaphid.proofs.Packets.{read-formed}
use Rattle.host.specs.declared.Collection.{Collection}
use Rattle.host.specs.declared.Answer.TheVariants.{Refused}
use Rattle.host.specs.declared.Progress.{Progress}
use Rattle.host.specs.Meaning.{collection_meant, is_sound}
use Rattle.host.specs.Reading.{Reading, reading, heard_of, read_of, Hears, Admits}
use Rattle.host.proofs.Sound.{sound-is}

module _ (s : Collection) (c : ℕ) (p m : List ℕ) where
  pub read-1 : (length p ≡ packet_size → ⊥) → (r : Progress) → r ≡ record { collection = s; answer = Refused 1 } → reading r m ≡ read_of s c p m
  unfolding read_of pick
  read-1 n r e = simp (ne_eqb (length p) packet_size n) (ap (λ (t : Progress). reading t m) e)

  module _ (whole : length p ≡ packet_size) (b : Bool) (is : b ≡ is_sound s (length m)) where
    pub read-3 : b ≡ false → (r : Progress) → r ≡ record { collection = s; answer = Refused 3 } → reading r m ≡ read_of s c p m
    unfolding read_of pick
    read-3 k r e = simp (eq-eqb (length p) packet_size whole, sym is ∙ k) (ap (λ (t : Progress). reading t m) e)

    pub read-admitted : b ≡ true → Admits s p m
    read-admitted k = record { size = whole; sound = sound-is s (length m) (sym is ∙ k) }

    pub read-heard : b ≡ true → (o : Reading) → o ≡ heard_of s (hear c (length m) (collection_meant s m) (read p)) m → o ≡ read_of s c p m
    unfolding read_of pick
    read-heard k o e = simp (eq-eqb (length p) packet_size whole, sym is ∙ k) e

-- ---- a packet that was read
module _ (s : Collection) (p m : List ℕ) (q : Packet) (is : q ≡ read p) where
  pub hears-packet : Admits s p m → Bytes p → Hears s q m
  hears-packet asks bytes =
      subst (λ (y : Packet). Hears s y m) (sym is) (record { sound = asks.sound; formed = read-formed p asks.size bytes })

  pub heard-packet : (c : ℕ) (o : Reading) → o ≡ heard_of s (hear c (length m) (collection_meant s m) q) m → o ≡ heard_of s (hear c (length m) (collection_meant s m) (read p)) m
  heard-packet c o k = k ∙ ap (λ (y : Packet). heard_of s (hear c (length m) (collection_meant s m) y) m) is
