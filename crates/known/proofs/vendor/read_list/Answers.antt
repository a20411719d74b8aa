use Prim.Native.Nat.{ℕ, ◌+◌}
use native.Mathlib.Omega.{arith}
use mathlib.Core.Path.{refl, sym, ap, ◌∙◌}
use lib.Bits.{bit_or}
use lib.ListN.{drop}
use Rattle.ctaphid.proofs.Commands.{vendor-range}
use Rattle.known.specs.Vendor.{bits_with}
use Rattle.known.specs.declared.vendor.Listed.TheVariants.{Bits}
use Rattle.known.proofs.Bits.{vendor-next, vendor-not, vendor-end, bits-next, bits-end, listed-all, listed-not}
use Rattle.std.proofs.Common.{rules}
use Rattle.known.proofs.vendor.read_list.Goals as goal

pub loop-i-init : goal.loop-i-init
loop-i-init c = (search rules, refl, refl)

pub bit_of-bits-requires : goal.bit_of-bits-requires
bit_of-bits-requires c = vendor-range _ (sym c.is_vendor.ensures ∙ c.if-is_vendor.true)

pub loop-i-preserved : goal.loop-i-preserved
loop-i-preserved c =
    let at = c.loop-i in
    let numbers = c.args.numbers.now in (
      search rules,
      sym (vendor-next numbers at.i (omega arith) c.is_vendor.ensures c.if-is_vendor.true) ∙ at.invariant.1,
      ap (λ (b : ℕ). bits_with (bit_or at.bits b) (drop (at.i + 1) numbers)) c.bit_of-bits.ensures ∙ (sym (bits-next numbers at.i (omega arith) at.bits) ∙ at.invariant.2),
    )

pub returns-else-is_vendor : goal.returns-else-is_vendor
returns-else-is_vendor c =
    let at = c.loop-i in
    let numbers = c.args.numbers.now in
    listed-not numbers (sym at.invariant.1 ∙ vendor-not numbers at.i (omega arith) c.is_vendor.ensures c.if-is_vendor.false)

pub returns : goal.returns
returns c =
    let at = c.loop-i in
    let numbers = c.args.numbers.now in
    ap Bits (sym (bits-end numbers at.i (omega arith) at.bits) ∙ at.invariant.2) ∙ listed-all numbers (sym at.invariant.1 ∙ vendor-end numbers at.i (omega arith))
