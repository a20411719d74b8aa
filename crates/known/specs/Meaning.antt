-- What the bits of a list mean among the settings. Assumes nothing.
use Rattle.std.specs.Prelude.{ℕ, Bool, false}
use Rattle.ctaphid.specs.Commands.{command_of}
use Rattle.ctaphid.specs.Settings.{Settings, knows}
use Rattle.known.specs.Vendor.{vendor_of}

-- settings with this maximum and this list: what a receiver goes by, for which U2F makes no difference
abbrev pub settings_of : (maximum bits : ℕ) → Settings
settings_of max bits = record { maximum = max; u2f = false; vendor = vendor_of bits }

-- whether a command's number is known by this list, for which the maximum makes none
abbrev pub is_known : (bits command : ℕ) → Bool
is_known bits cmd = knows (settings_of 0 bits) (command_of cmd)
