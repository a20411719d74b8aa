use Rattle.hid.proofs.SettingUp.{setting_up}
use Rattle.hid.proofs.MainHid.new.Goals as goal

pub returns-in-Hid : goal.returns-in-Hid
returns-in-Hid c = search setting_up

pub returns-in-Refused : goal.returns-in-Refused
returns-in-Refused c = search setting_up
