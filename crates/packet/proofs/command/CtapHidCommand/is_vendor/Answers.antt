use native.Mathlib.Omega.{arith}
use mathlib.Core.Path.{sym}
use Rattle.ctaphid.proofs.Commands.{below-vendor, from-64}
use Rattle.packet.proofs.command.CtapHidCommand.is_vendor.Goals as goal

pub returns-then-cmd-lt-VENDOR_FIRST : goal.returns-then-cmd-lt-VENDOR_FIRST
returns-then-cmd-lt-VENDOR_FIRST c = sym (below-vendor _ (omega arith))

pub returns : goal.returns
returns c = from-64 _ (omega arith)
