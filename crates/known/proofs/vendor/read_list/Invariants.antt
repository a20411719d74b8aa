use Prim.Native.Nat.{◌-◌, ◌≤◌}
use mathlib.Core.Path.{◌≡◌}
use lib.ListN.{length, drop}
use Rattle.known.specs.Vendor.{all_vendor, bits_with, bits_of}
use Rattle.known.proofs.vendor.read_list.Given as goal

abbrev pub invariant-loop-i : goal.invariant-loop-i
invariant-loop-i l = (l.i ≤ length l.numbers) × (all_vendor (drop l.i l.numbers) ≡ all_vendor l.numbers) × (bits_with l.bits (drop l.i l.numbers) ≡ bits_of l.numbers)

abbrev pub decreases-loop-i : goal.decreases-loop-i
decreases-loop-i l = length l.numbers - l.i
