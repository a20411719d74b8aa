use mathlib.Core.Path.{sym, ap}
use Rattle.ctaphid.specs.Choice.{pick, is_in}
use Rattle.ctaphid.specs.Bluetooth.{is_command}
use Rattle.ctaphid.proofs.Tests.{tests}
use Rattle.ble.proofs.command.BleCommand.is_command.Goals as goal

pub returns-in-129 : goal.returns-in-129
unfolding is_command is_in pick
returns-in-129 c = sym (ap is_command c.in-129.is)

pub returns-in-130 : goal.returns-in-130
unfolding is_command is_in pick
returns-in-130 c = sym (ap is_command c.in-130.is)

pub returns-in-131 : goal.returns-in-131
unfolding is_command is_in pick
returns-in-131 c = sym (ap is_command c.in-131.is)

pub returns-in-190 : goal.returns-in-190
unfolding is_command is_in pick
returns-in-190 c = sym (ap is_command c.in-190.is)

pub returns-in-191 : goal.returns-in-191
unfolding is_command is_in pick
returns-in-191 c = sym (ap is_command c.in-191.is)

pub returns-in_default : goal.returns-in_default
unfolding is_command is_in
returns-in_default c = search tests depth 20
