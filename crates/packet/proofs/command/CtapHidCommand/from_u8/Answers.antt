use Prim.Native.Nat.{ℕ, ◌≤◌, ◌<◌}
use native.Mathlib.Omega.{arith}
use mathlib.Core.Path.{◌≡◌}
use mathlib.Core.Bool.{false}
use Rattle.std.proofs.Common.{rules}
use Rattle.ctaphid.specs.Commands.{MSG, CBOR, INIT, PING, CANCEL, ERROR, KEEPALIVE, WINK, LOCK, VENDOR, is_vendor, command_of}
use Rattle.ctaphid.proofs.Commands.{named-read, vendor-read, rest_read, is-vendor, below-vendor, above-vendor}
use Rattle.packet.proofs.command.CtapHidCommand.from_u8.Goals as goal

from-63 : (n : ℕ) → 63 ≤ n → (n ≡ 0x3f → ⊥) → n < 128 → VENDOR n ≡ command_of n
from-63 n h other k = vendor-read n (is-vendor n (omega (arith, h, other)) (omega (arith, k)))

below-63 : (n : ℕ) → n < 63 → is_vendor n ≡ false
below-63 n h = below-vendor n (omega (arith, h))

pub returns-in-3 : goal.returns-in-3
returns-in-3 c = named-read MSG tt c.in-3.is

pub returns-in-16 : goal.returns-in-16
returns-in-16 c = named-read CBOR tt c.in-16.is

pub returns-in-6 : goal.returns-in-6
returns-in-6 c = named-read INIT tt c.in-6.is

pub returns-in-1 : goal.returns-in-1
returns-in-1 c = named-read PING tt c.in-1.is

pub returns-in-17 : goal.returns-in-17
returns-in-17 c = named-read CANCEL tt c.in-17.is

pub returns-in-63 : goal.returns-in-63
returns-in-63 c = named-read ERROR tt c.in-63.is

pub returns-in-59 : goal.returns-in-59
returns-in-59 c = named-read KEEPALIVE tt c.in-59.is

pub returns-in-8 : goal.returns-in-8
returns-in-8 c = named-read WINK tt c.in-8.is

pub returns-in-4 : goal.returns-in-4
returns-in-4 c = named-read LOCK tt c.in-4.is

pub returns-in-64-to-127 : goal.returns-in-64-to-127
returns-in-64-to-127 c = from-63 _ (omega arith) (search rules) (omega arith)

-- 0x3F has a line of its own, so the code asks for 63 and up where it means 64 and up
pub returns-in_default : goal.returns-in_default
returns-in_default c = rest_read _ c.in_default.in_default-own.rest (below-63 _ c.in_default.if-cmd-lt63-own.true)

pub returns-in_default-2 : goal.returns-in_default-2
returns-in_default-2 c = rest_read _ c.in_default.in_default-own.rest (above-vendor _ (omega arith))
