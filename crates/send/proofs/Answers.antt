-- What `write_of` and `split_of` give, by their tests. Assumes nothing.
use Prim.Native.Nat.{ℕ, ◌+◌, ◌/◌, ◌≤◌, ◌<◌}
use native.Mathlib.Omega.{arith}
use native.Mathlib.Decide.{dec_le, ℕ_discrete}
use mathlib.Core.Path.{◌≡◌}
use mathlib.Core.List.{List, [], ◌∷◌}
use borrow.Author.Tests.{eq-eqb, ne_eqb, lt-ltb, le-ltb, le-leb, lt-leb}
use lib.ListN.{length, get_or}
use Rattle.ctaphid.specs.Choice.{pick}
use Rattle.ctaphid.specs.Messages.{wire, split_wire}
use Rattle.ctaphid.specs.Commands.{CBOR, number}
use Rattle.ctaphid.proofs.Messages.{wire-length}
use Rattle.send.specs.Sending.{Left, left, write_of, split_of}
use Rattle.send.specs.declared.Written.TheVariants.{Packet, Refused}

module _ (cid cmd : ℕ) (payload : List ℕ) (index : ℕ) (old : List ℕ) where
  pub refuses-1 : (length old ≡ 64 → ⊥) → write_of cid cmd payload index old ≡ left (Refused 1) old
  unfolding write_of pick
  refuses-1 size = simp (ne_eqb _ _ size)

  module _ (size : length old ≡ 64) where
    pub refuses-12 : 127 < cmd → write_of cid cmd payload index old ≡ left (Refused 12) old
    unfolding write_of pick
    refuses-12 c = simp (eq-eqb _ _ size, lt-ltb _ _ c)

    pub refuses-7 : cmd ≤ 127 → 7609 < length payload → write_of cid cmd payload index old ≡ left (Refused 7) old
    unfolding write_of pick
    refuses-7 c n = simp (eq-eqb _ _ size, le-ltb _ _ c, lt-ltb _ _ n)

    pub refuses-6 : cmd ≤ 127 → length payload ≤ 7609 → 1 + (length payload + 1) / 59 ≤ index → write_of cid cmd payload index old ≡ left (Refused 6) old
    unfolding write_of pick
    refuses-6 c n i =
        simp (eq-eqb _ _ size, le-ltb _ _ c, le-ltb _ _ n, le-leb (length (wire cid cmd payload)) index (omega (arith, wire-length cid cmd payload)))

    pub writes : cmd ≤ 127 → length payload ≤ 7609 → index < 1 + (length payload + 1) / 59 → write_of cid cmd payload index old ≡ left Packet (get_or (wire cid cmd payload) index [])
    unfolding write_of pick
    writes c n i =
        simp (eq-eqb _ _ size, le-ltb _ _ c, le-ltb _ _ n, lt-leb (length (wire cid cmd payload)) index (omega (arith, wire-length cid cmd payload)))

  -- what holds of each thing that a call may leave holds of what it leaves
  module _ (P : Left → Type 0)
      (p_1 : (length old ≡ 64 → ⊥) → P (left (Refused 1) old))
      (p-12 : length old ≡ 64 → 127 < cmd → P (left (Refused 12) old))
      (p-7 : length old ≡ 64 → cmd ≤ 127 → 7609 < length payload → P (left (Refused 7) old))
      (p-6 : length old ≡ 64 → cmd ≤ 127 → length payload ≤ 7609 → 1 + (length payload + 1) / 59 ≤ index → P (left (Refused 6) old))
      (p-packet : length old ≡ 64 → cmd ≤ 127 → length payload ≤ 7609 → index < 1 + (length payload + 1) / 59 → P (left Packet (get_or (wire cid cmd payload) index []))) where
    abbrev W : Type 0
    W = P (write_of cid cmd payload index old)

    by_index : length old ≡ 64 → cmd ≤ 127 → length payload ≤ 7609 → Dec (1 + (length payload + 1) / 59 ≤ index) → W
    by_index size c n (yes i) = rw (refuses-6 size c n i) (p-6 size c n i)
    by_index size c n (no i) = rw (writes size c n (omega arith)) (p-packet size c n (omega arith))

    by_length : length old ≡ 64 → cmd ≤ 127 → Dec (length payload ≤ 7609) → W
    by_length size c (yes n) = by_index size c n (dec_le (1 + (length payload + 1) / 59) index)
    by_length size c (no n) = rw (refuses-7 size c (omega arith)) (p-7 size c (omega arith))

    by-command : length old ≡ 64 → Dec (cmd ≤ 127) → W
    by-command size (yes c) = by_length size c (dec_le (length payload) 7609)
    by-command size (no c) = rw (refuses-12 size (omega arith)) (p-12 size (omega arith))

    by_size : Dec (length old ≡ 64) → W
    by_size (yes size) = by-command size (dec_le cmd 127)
    by_size (no size) = rw (refuses-1 size) (p_1 size)

    pub by_tests : W
    by_tests = by_size (ℕ_discrete (length old) 64)

-- ---- a reply of any length
module _ (cid cmd : ℕ) (payload : List ℕ) (internal index : ℕ) (old : List ℕ) where
  pub split-short : length payload ≤ 7609 → split_of cid cmd payload internal index old ≡ write_of cid cmd payload index old
  unfolding split_of write_of split_wire pick
  split-short n = simp (le-ltb 7609 (length payload) n)

  pub split-1 : (length old ≡ 64 → ⊥) → split_of cid cmd payload internal index old ≡ left (Refused 1) old
  unfolding split_of pick
  split-1 size = simp (ne_eqb _ _ size)

  pub split-12 : length old ≡ 64 → 127 < cmd → split_of cid cmd payload internal index old ≡ left (Refused 12) old
  unfolding split_of pick
  split-12 size c = simp (eq-eqb _ _ size, lt-ltb _ _ c)

  -- what is too long is replaced
  pub split-long : length old ≡ 64 → cmd ≤ 127 → 7609 < length payload → split_of cid cmd payload internal index old ≡ write_of cid (number CBOR) (internal ∷ []) index old
  unfolding split_of write_of split_wire pick
  split-long size c n = simp (eq-eqb _ _ size, le-ltb _ _ c, lt-ltb 7609 (length payload) n)
