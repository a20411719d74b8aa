use Rattle.ctaphid.specs.Bluetooth.{is_size}
use Rattle.ctaphid.proofs.Tests.{tests}
use Rattle.ble.proofs.limits.BleLimits.is_size.Goals as goal

pub returns-then-size-lt-SMALLEST_FRAGMENT : goal.returns-then-size-lt-SMALLEST_FRAGMENT
unfolding is_size
returns-then-size-lt-SMALLEST_FRAGMENT c = search tests depth 20

pub returns : goal.returns
unfolding is_size
returns c = search tests depth 20
