use native.Mathlib.Omega.{arith}
use mathlib.Core.Path.{sym, ◌∙◌}
use Rattle.ctaphid.proofs.Commands.{vendor-range}
use Rattle.known.proofs.Bits.{tested, not_tested}
use Rattle.known.proofs.vendor.is_allowed.Goals as goal

pub overflow_sub-result : goal.overflow_sub-result
overflow_sub-result c = omega (arith, (vendor-range _ (sym c.is_vendor.ensures ∙ c.if-is_vendor.true)).0)

pub overflow_shr-result : goal.overflow_shr-result
overflow_shr-result c = omega (arith, (vendor-range _ (sym c.is_vendor.ensures ∙ c.if-is_vendor.true)).1)

pub returns-then-is_vendor : goal.returns-then-is_vendor
returns-then-is_vendor c = tested c.args.bits c.args.number c.is_vendor.ensures c.if-is_vendor.true

pub returns : goal.returns
returns c = not_tested c.args.bits c.args.number c.is_vendor.ensures c.if-is_vendor.false
