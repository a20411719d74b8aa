use Rattle.hid.proofs.Served.{commands, vendor-low, vendor-high}
use Rattle.std.proofs.Common.{rules}
use Rattle.hid.proofs.commands.preprocess_message.Goals as goal

pub vendor-requires : goal.vendor-requires
vendor-requires c = search (rules, vendor-low, vendor-high)

pub returns-in-Msg : goal.returns-in-Msg
returns-in-Msg c = search commands

pub returns-in-Cbor : goal.returns-in-Cbor
returns-in-Cbor c = search commands

pub returns-in-Init : goal.returns-in-Init
returns-in-Init c = search commands

pub returns-in-Ping : goal.returns-in-Ping
returns-in-Ping c = search commands

pub returns-in-Cancel : goal.returns-in-Cancel
returns-in-Cancel c = search commands

pub returns-in-Wink : goal.returns-in-Wink
returns-in-Wink c = search commands

pub returns-in-Lock : goal.returns-in-Lock
returns-in-Lock c = search commands

pub returns-in-Keepalive : goal.returns-in-Keepalive
returns-in-Keepalive c = search commands

pub returns-in-Error : goal.returns-in-Error
returns-in-Error c = search commands
