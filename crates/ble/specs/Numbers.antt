-- What each case of the code's commands is in the definition. Assumes nothing.
use Rattle.ctaphid.specs.Bluetooth as standard
use Rattle.ble.specs.declared.command.BleCommand.{BleCommand}
use Rattle.ble.specs.declared.command.BleCommand.TheVariants.{Ping, Keepalive, Msg, Cancel, Error}

abbrev pub command_meant : BleCommand → standard.BleCommand
command_meant Ping = standard.PING
command_meant Keepalive = standard.KEEPALIVE
command_meant Msg = standard.MSG
command_meant Cancel = standard.CANCEL
command_meant Error = standard.ERROR
