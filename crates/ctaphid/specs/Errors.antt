-- §11.2.9.1.6: the errors that an ERROR message tells, by its one byte. Assumes nothing.
use Rattle.std.specs.Prelude.{ℕ}

pub data Error : Type 0 where
  InvalidCmd InvalidPar InvalidLen InvalidSeq MsgTimeout ChannelBusy LockRequired InvalidChannel Other : Error

abbrev pub code : Error → ℕ
code InvalidCmd = 0x01
code InvalidPar = 0x02
code InvalidLen = 0x03
code InvalidSeq = 0x04
code MsgTimeout = 0x05
code ChannelBusy = 0x06
code LockRequired = 0x0a
code InvalidChannel = 0x0b
code Other = 0x7f
