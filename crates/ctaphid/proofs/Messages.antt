-- A message's packets over HID: how many, and which stands at an index. Assumes nothing.
use mathlib.Core.Path.{◌≡◌, refl, sym, ap, ◌∙◌}
use Prim.Native.Nat.{ℕ, suc, ◌+◌, ◌*◌, ◌/◌, ◌<◌}
use mathlib.Core.List.{List, []}
use native.Mathlib.Omega.{arith}
use lib.Dec.{lit<}
use lib.ListN.{length, take, drop, get_or, length-map}
use Rattle.ctaphid.specs.Packets.{initialization, continuation, written}
use Rattle.ctaphid.specs.Messages.{chunks, padded, framed, packets, wire, CutsOverHid}
use Rattle.ctaphid.proofs.Splitting.{fields-framed, framed-length, framed-first, framed-later, hid-count}

module _ (c cmd : ℕ) (payload : List ℕ) where
  abbrev n : ℕ
  n = length payload

  -- the packets' bytes, by the chunk that each has
  abbrev pub first : List ℕ → List ℕ
  first chunk = written (initialization c cmd n (padded 57 chunk))

  abbrev pub next : ℕ → List ℕ → List ℕ
  next k chunk = written (continuation c k (padded 59 chunk))

  pub wire-framed : wire c cmd payload ≡ framed first next (chunks 57 59 payload)
  unfolding packets
  wire-framed = fields-framed (initialization c cmd n) (continuation c) 57 59 payload written

  pub wire-length : length (wire c cmd payload) ≡ 1 + (n + 1) / 59
  wire-length = ap length wire-framed ∙ (framed-length first next 57 59 payload (lit< tt) ∙ hid-count n)

  pub packets-length : length (packets c cmd payload) ≡ 1 + (n + 1) / 59
  packets-length = sym (length-map (packets c cmd payload) written) ∙ wire-length

  pub wire-first : get_or (wire c cmd payload) 0 [] ≡ first (take 57 payload)
  wire-first = ap (λ (l : List (List ℕ)). get_or l 0 []) wire-framed ∙ framed-first first next 57 59 payload []

  pub wire-later : (i : ℕ) → 1 + i < 1 + (n + 1) / 59 → get_or (wire c cmd payload) (suc i) [] ≡ next i (take 59 (drop (57 + 59 * i) payload))
  wire-later i h = ap (λ (l : List (List ℕ)). get_or l (suc i) []) wire-framed ∙ framed-later first next 57 59 payload (lit< tt) i [] (omega (arith, hid-count n))

pub cuts-over-hid : CutsOverHid
cuts-over-hid = record {
  formula = packets-length;
  of-57 = refl;
  of-58 = refl;
  of-7609 = refl;
  last = λ c cmd payload e. wire-later c cmd payload 127 (omega arith);
}
