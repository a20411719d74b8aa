-- Row G of docs/RULES.md, the half that sending owes, and the counts of rows E and F as they are answered. Assumes nothing.
use Prim.Native.Nat.{ℕ, ◌≤◌, ◌<◌}
use native.Mathlib.Omega.{arith}
use mathlib.Core.Path.{◌≡◌, refl}
use mathlib.Core.List.{List}
use lib.ListN.{length}
use Rattle.ctaphid.specs.Choice.{pick}
use Rattle.send.specs.Sending.{left, count_of, write_of}
use Rattle.send.specs.declared.Count.TheVariants.{Packets, Refused as NoCount}
use Rattle.send.specs.declared.Written.TheVariants.{Refused}
use Rattle.send.proofs.Answers.{refuses-7}

-- 7,610 bytes: refusal 7, whichever packet of them is asked for
pub row-g : (cid cmd : ℕ) (payload : List ℕ) (index : ℕ) (old : List ℕ) → length old ≡ 64 → cmd ≤ 127 → length payload ≡ 7610
    → write_of cid cmd payload index old ≡ left (Refused 7) old
row-g cid cmd payload index old size c n = let long : 7609 < length payload = omega arith in refuses-7 cid cmd payload index old size c long

-- 57 bytes: 1 packet; 58: 2; 7,609: 129; 7,610: refusal 7
pub row_counts : (count_of 57 ≡ Packets 1) × (count_of 58 ≡ Packets 2) × (count_of 7609 ≡ Packets 129) × (count_of 7610 ≡ NoCount 7)
unfolding count_of pick
row_counts = (refl, refl, refl, refl)
