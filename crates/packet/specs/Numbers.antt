-- What each case of the code's enums is in the definition. Assumes nothing.
use Rattle.ctaphid.specs.Commands as standard
use Rattle.ctaphid.specs.Errors as errors
use Rattle.ctaphid.specs.Capabilities as capabilities
use Rattle.ctaphid.specs.Refusals as refusals
use Rattle.packet.specs.declared.command.CtapHidCommand.{CtapHidCommand}
use Rattle.packet.specs.declared.command.CtapHidCommand.TheVariants.{Msg, Cbor, Init, Ping, Cancel, Error, Keepalive, Wink, Lock, Vendor}
use Rattle.packet.specs.declared.error.CtapHidError.{CtapHidError}
use Rattle.packet.specs.declared.error.CtapHidError.TheVariants.{InvalidCmd, InvalidPar, InvalidLen, InvalidSeq, MsgTimeout, ChannelBusy, InvalidChannel}
use Rattle.packet.specs.declared.capability.Capability.{Capability}
use Rattle.packet.specs.declared.capability.Capability.TheVariants.{Wink as HasWink, Cbor as HasCbor, Nmsg}
use Rattle.packet.specs.declared.refusal.Refusal.{Refusal}
use Rattle.packet.specs.declared.refusal.Refusal.TheVariants.{PacketSize, ShortBuffer, Unsound, Time, Maximum, Index, LongPayload, Sequence, LongReply, NotInit, Command, Vendor as NotVendor, FragmentSize, FragmentLength, FragmentNumber, LongMessage, Excess}

abbrev pub command_meant : CtapHidCommand → standard.Command
command_meant Msg = standard.MSG
command_meant Cbor = standard.CBOR
command_meant Init = standard.INIT
command_meant Ping = standard.PING
command_meant Cancel = standard.CANCEL
command_meant Error = standard.ERROR
command_meant Keepalive = standard.KEEPALIVE
command_meant Wink = standard.WINK
command_meant Lock = standard.LOCK
command_meant (Vendor n) = standard.VENDOR n

-- and the case for each of the standard's commands
abbrev pub command_case : standard.Command → CtapHidCommand
command_case standard.MSG = Msg
command_case standard.CBOR = Cbor
command_case standard.INIT = Init
command_case standard.PING = Ping
command_case standard.CANCEL = Cancel
command_case standard.ERROR = Error
command_case standard.KEEPALIVE = Keepalive
command_case standard.WINK = Wink
command_case standard.LOCK = Lock
command_case (standard.VENDOR n) = Vendor n

abbrev pub error_meant : CtapHidError → errors.Error
error_meant InvalidCmd = errors.InvalidCmd
error_meant InvalidPar = errors.InvalidPar
error_meant InvalidLen = errors.InvalidLen
error_meant InvalidSeq = errors.InvalidSeq
error_meant MsgTimeout = errors.MsgTimeout
error_meant ChannelBusy = errors.ChannelBusy
error_meant InvalidChannel = errors.InvalidChannel

abbrev pub capability_meant : Capability → capabilities.Capability
capability_meant HasWink = capabilities.wink
capability_meant HasCbor = capabilities.cbor
capability_meant Nmsg = capabilities.nmsg

abbrev pub refusal_meant : Refusal → refusals.Refusal
refusal_meant PacketSize = refusals.PacketSize
refusal_meant ShortBuffer = refusals.ShortBuffer
refusal_meant Unsound = refusals.Unsound
refusal_meant Time = refusals.Time
refusal_meant Maximum = refusals.Maximum
refusal_meant Index = refusals.Index
refusal_meant LongPayload = refusals.LongPayload
refusal_meant Sequence = refusals.Sequence
refusal_meant LongReply = refusals.LongReply
refusal_meant NotInit = refusals.NotInit
refusal_meant Command = refusals.Command
refusal_meant NotVendor = refusals.Vendor
refusal_meant FragmentSize = refusals.FragmentSize
refusal_meant FragmentLength = refusals.FragmentLength
refusal_meant FragmentNumber = refusals.FragmentNumber
refusal_meant LongMessage = refusals.LongMessage
refusal_meant Excess = refusals.Excess
