use Rattle.key.proofs.SettingUp.{ready}
use Rattle.key.proofs.Key.new.Goals as goal

pub returns-then-vendor-gt-LARGEST_PAYLOAD : goal.returns-then-vendor-gt-LARGEST_PAYLOAD
returns-then-vendor-gt-LARGEST_PAYLOAD c = search ready

pub returns-in-Hid : goal.returns-in-Hid
returns-in-Hid c = search ready

pub returns-in-Refused : goal.returns-in-Refused
returns-in-Refused c = search ready
