-- What a device is set up with, and the commands that it knows by it (§11.2.9). Assumes nothing.
use Rattle.std.specs.Prelude.{ℕ, List, Bool, true, false}
use Rattle.ctaphid.specs.Choice.{is_in}
use Rattle.ctaphid.specs.Commands.{Command, MSG, CBOR, INIT, PING, CANCEL, ERROR, KEEPALIVE, WINK, LOCK, VENDOR}

-- the largest message that is taken, whether the device has U2F, and the numbers of the vendor commands that it allows
pub record Settings : Type 0 where
  pub maximum : ℕ
  pub u2f : Bool
  pub vendor : List ℕ

-- the same with another list
abbrev pub listing : List ℕ → Settings → Settings
listing l set = record { maximum = set.maximum; u2f = set.u2f; vendor = l }

-- the commands that a device knows, by its settings: of the vendor's (§11.2.9.3) those on its list, and of the others all but KEEPALIVE and ERROR, which are
-- no requests, nor is what reads as ERROR (DIFFERENCES 1 and 21)
unfoldable pub knows : Settings → Command → Bool
knows set MSG = true
knows set CBOR = true
knows set INIT = true
knows set PING = true
knows set CANCEL = true
knows set ERROR = false
knows set KEEPALIVE = false
knows set WINK = true
knows set LOCK = true
knows set (VENDOR n) = is_in n set.vendor
