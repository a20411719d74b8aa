use Rattle.hid.proofs.Served.{vendor-out, vendor-off}
use Rattle.hid.proofs.commands.vendor.Goals as goal

pub returns-then-is_allowed : goal.returns-then-is_allowed
returns-then-is_allowed c = search vendor-out

pub returns : goal.returns
returns c = search vendor-off
