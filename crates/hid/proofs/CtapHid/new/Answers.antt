use Rattle.hid.proofs.SettingUp.{setting_up}
use Rattle.hid.proofs.CtapHid.new.Goals as goal

pub returns-then-max-gt-LARGEST_PAYLOAD : goal.returns-then-max-gt-LARGEST_PAYLOAD
returns-then-max-gt-LARGEST_PAYLOAD c = search setting_up

pub returns-in-Bits : goal.returns-in-Bits
returns-in-Bits c = search setting_up

pub returns-in-Foreign : goal.returns-in-Foreign
returns-in-Foreign c = search setting_up
