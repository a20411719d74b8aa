-- The reply to INIT: which replies a host takes, and that a device's is read as it was meant. Assumes nothing.
use Prim.Native.Nat.{ℕ, ◌+◌, ◌≤◌, ◌<◌, ◌^◌}
use native.Mathlib.Omega.{arith}
use mathlib.Core.Path.{◌≡◌, refl, ap, ◌∙◌}
use mathlib.Core.List.{List, [], ◌∷◌, ◌++◌}
use borrow.Author.Tests.{lt-ltb, le-ltb, ltb-false, eq-eqb, ne_eqb}
use lib.ListN.{length, take, drop, length-append, length-drop, get_or-append}
use lib.Seq.{take_at, drop_at, take-append-le, drop-append-le, get_or-append-add}
use Rattle.ctaphid.specs.Choice.{pick}
use Rattle.ctaphid.specs.Capabilities.{capabilities}
use Rattle.ctaphid.specs.Limits.{largest}
use Rattle.ctaphid.specs.Packets.{byte, channel_in, four}
use Rattle.ctaphid.specs.Settings.{Settings}
use Rattle.ctaphid.specs.Transport.{init_reply}
use Rattle.ctaphid.specs.Host.{InitHeard, not_init, init_fields, init_fields_of, init_of, ReadsInit}
use Rattle.ctaphid.proofs.Tests.{pick_known}
use Rattle.ctaphid.proofs.Packets.{four_is}

module _ (cmd : ℕ) (p : List ℕ) where
  pub init-another : (cmd ≡ 6 → ⊥) → init_of cmd p ≡ not_init 11
  unfolding init_of pick
  init-another n = simp (ne_eqb cmd 6 n)

  module _ (is : cmd ≡ 6) where
    pub init-short : length p < 17 → init_of cmd p ≡ not_init 11
    unfolding init_of pick
    init-short h = simp (eq-eqb cmd 6 is, lt-ltb (length p) 17 h)

    pub init-long : 17 ≤ length p → largest < length p → init_of cmd p ≡ not_init 11
    unfolding init_of pick
    init-long h k = simp (eq-eqb cmd 6 is, le-ltb (length p) 17 h, lt-ltb largest (length p) k)

    pub init-taken : 17 ≤ length p → length p ≤ largest → init_of cmd p ≡ init_fields (init_fields_of p)
    unfolding init_of pick
    init-taken h k = simp (eq-eqb cmd 6 is, le-ltb (length p) 17 h, le-ltb largest (length p) k)

  -- what holds of the refusal, and of the fields where they are read, holds of either
  pub init-known : (P : InitHeard → Type 0) → P (not_init 11) → (17 ≤ length p → length p ≤ largest → P (init_fields (init_fields_of p))) → P (init_of cmd p)
  unfolding init_of
  init-known P none taken =
      pick_known P _ _ _
      (λ e. none)
      (λ e. pick_known P _ _ _ (λ s. none) (λ s. pick_known P _ _ _ (λ l. none) (λ l. taken (ltb-false (length p) 17 s) (ltb-false largest (length p) l))))

-- ---- 17 bytes, and what follows them
channel-first : (p added : List ℕ) → 4 ≤ length p → channel_in (p ++ added) ≡ channel_in p
unfolding channel_in
channel-first p added h =
    let at = get_or-append p added 0 in
    omega (arith, at 0 (omega arith), at 1 (omega arith), at 2 (omega arith), at 3 (omega arith))

first-17 : (p added : List ℕ) → length p ≡ 17 → length added ≤ 7592
    → init_of 6 (p ++ added)
    ≡ init_fields (record { nonce = take 8 p; channel = channel_in (drop 8 p); protocol = byte p 12; major = byte p 13; minor = byte p 14; build = byte p 15; flags = byte p 16; rest = added })
first-17 p added size most =
    let long : length (p ++ added) ≡ 17 + length added = simp length-append (omega arith) in
    let at = get_or-append p added 0 in
    init-taken 6 (p ++ added) refl (omega arith) (omega arith)
    ∙ (λ i. init_fields (record {
      nonce = take-append-le 8 p added (omega arith) i;
      channel = (ap channel_in (drop-append-le 8 p added (omega arith)) ∙ channel-first (drop 8 p) added (simp length-drop (omega arith))) i;
      protocol = at 12 (omega arith) i;
      major = at 13 (omega arith) i;
      minor = at 14 (omega arith) i;
      build = at 15 (omega arith) i;
      flags = at 16 (omega arith) i;
      rest = drop_at p added 17 size i;
    }))

-- ---- of a device's reply: what stands behind the nonce
behind : (nonce t : List ℕ) → length nonce ≡ 8 → (k : ℕ) → byte (nonce ++ t) (8 + k) ≡ byte t k
behind nonce t size k = rw size at (get_or-append-add nonce t k 0)

read_back : (nonce : List ℕ) (c : ℕ) (set : Settings) (added : List ℕ) → length nonce ≡ 8 → c < 2 ^ 32 → length added ≤ 7592
    → init_of 6 (init_reply nonce c set ++ added)
    ≡ init_fields (record { nonce = nonce; channel = c; protocol = 2; major = 1; minor = 0; build = 0; flags = capabilities set.u2f; rest = added })
unfolding channel_in
read_back nonce c set added size below most =
    let t = four c ++ (2 ∷ 1 ∷ 0 ∷ 0 ∷ capabilities set.u2f ∷ []) in
    let at = behind nonce t size in
    first-17 (nonce ++ t) added (simp length-append (omega arith)) most
    ∙ (λ i. init_fields (record {
      nonce = take_at nonce t 8 size i;
      channel = (ap channel_in (drop_at nonce t 8 size) ∙ four_is c below) i;
      protocol = at 4 i;
      major = at 5 i;
      minor = at 6 i;
      build = at 7 i;
      flags = at 8 i;
      rest = added;
    }))

pub reads-init : ReadsInit
reads-init = record {
  first-17 = first-17;
  read_back = read_back;
  another = init-another;
  short = λ p h. init-short 6 p refl (omega arith);
  long = λ p h. init-long 6 p refl (omega arith) (omega arith);
}
