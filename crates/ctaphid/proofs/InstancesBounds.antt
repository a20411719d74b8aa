-- Runs that meet the premises of what bounds transactions and locks, computed. Assumes nothing.
use Prim.Native.Nat.{ℕ, zero, suc, ◌-◌, ◌≤◌}
use native.Mathlib.Omega.{arith}
use mathlib.Core.Path.{◌≡◌, refl}
use mathlib.Core.List.{List, [], ◌∷◌, ◌++◌}
use mathlib.Core.Bool.{Bool, true, false}
use borrow.Author.Tests.{ltb-true}
use lib.Dec.{ltb}
use lib.ListN.{length, replicate}
use Rattle.ctaphid.specs.Choice.{pick}
use Rattle.ctaphid.specs.Packets.{Bytes, channel_in, declared_in, read}
use Rattle.ctaphid.specs.Commands.{PING, among, is_vendor}
use Rattle.ctaphid.specs.Settings.{Settings, knows}
use Rattle.ctaphid.specs.Receiver.{collect, start_known, start, when_idle, when_over, when_busy, receive, is_on}
use Rattle.ctaphid.specs.Transport.{Event, reply, is_allocated, is_valid, is_locked_by, is_locked_against, is_shut, next_channel, on_init, lock_for, on_lock, dispatch, settle, hear, obey}
use Rattle.ctaphid.specs.Demands.{Permitted, standard, Proper, Taken, after, answer, Since, Holding, busy_on, HeldBy, HeldByKnown}
use Rattle.ctaphid.proofs.Histories.{none-permitted}
use Rattle.ctaphid.proofs.Tests.{pick_true}
use Rattle.ctaphid.proofs.Bounds.{transactions-end-sharp, transactions-end, locks-end}
use Rattle.ctaphid.proofs.Shut.{none-shut-out}
use Rattle.ctaphid.proofs.Unknown.{none-shut-out-by-unknown}

-- ---- events

-- an enabled packet at a time; bytes that are left off are 0
abbrev pub at : (time : ℕ) → List ℕ → Event
at t bytes = record { time = t; disabled = false; packet = bytes ++ replicate (64 - length bytes) 0 }

unfoldable pub all_bytes : List ℕ → Bool
all_bytes [] = true
all_bytes (b ∷ rest) = pick (ltb b 0x100) (all_bytes rest) false

all-bytes : (l : List ℕ) → all_bytes l ≡ true → Bytes l
unfolding all_bytes
all-bytes [] h i = omega arith
all-bytes (b ∷ rest) h zero = ltb-true b 0x100 (pick_true (ltb b 0x100) (all_bytes rest) h).0
all-bytes (b ∷ rest) h (suc i) = all-bytes rest (pick_true (ltb b 0x100) (all_bytes rest) h).1 i

pub proper : (e : Event) → length e.packet ≡ 64 → all_bytes e.packet ≡ true → e.time ≤ 0xffff_ffff_ffff → Proper e
proper e size bytes early = record { size = size; bytes = all-bytes e.packet bytes; early = early }

abbrev pub channel : ℕ → List ℕ
channel c = 0 ∷ 0 ∷ 0 ∷ c ∷ []

-- INIT on the broadcast channel
abbrev pub init : List ℕ
init = 0xff ∷ 0xff ∷ 0xff ∷ 0xff ∷ 0x86 ∷ 0 ∷ 8 ∷ 1 ∷ 2 ∷ 3 ∷ 4 ∷ 5 ∷ 6 ∷ 7 ∷ 8 ∷ []

-- PING with 2 bytes
abbrev pub ping : ℕ → List ℕ
ping c = channel c ++ (0x81 ∷ 0 ∷ 2 ∷ 0xab ∷ 0xcd ∷ [])

-- the first packet of a CBOR message of 60 bytes on channel 1
abbrev pub begin : List ℕ
begin = channel 1 ++ (0x90 ∷ 0 ∷ 60 ∷ replicate 57 7)

-- LOCK of channel 1 for so many seconds
abbrev pub lock : ℕ → List ℕ
lock k = channel 1 ++ (0x84 ∷ 0 ∷ 1 ∷ k ∷ [])

abbrev pub settings : Settings
settings = record { maximum = 7609; u2f = true; vendor = [] }

pub permitted : Permitted settings
permitted = none-permitted settings (omega arith) refl

-- ---- histories

-- two channels are allocated
abbrev pub two : List Event
two = at 0 init ∷ at 0 init ∷ []

pub two-taken : Taken two
unfolding all_bytes pick
two-taken = (proper (at 0 init) refl refl (omega arith), omega arith, (proper (at 0 init) refl refl (omega arith), omega arith, tt))

-- and channel 1 begins at 5
abbrev pub begun : List Event
begun = at 5 begin ∷ two

pub begun-taken : Taken begun
unfolding all_bytes pick
begun-taken = (proper (at 5 begin) refl refl (omega arith), omega arith, two-taken)

-- or takes the lock for 1 s at 5
abbrev pub locked : List Event
locked = at 5 (lock 1) ∷ two

pub locked-taken : Taken locked
unfolding all_bytes pick
locked-taken = (proper (at 5 (lock 1)) refl refl (omega arith), omega arith, two-taken)

-- ---- the transaction is on at 104, and not at 105
transaction-on : standard.is_on (after standard settings begun) 1 104 ≡ true
unfolding read channel_in declared_in hear is_shut settle dispatch knows obey is_vendor among on_init next_channel is_allocated is_valid is_locked_against is_on receive when_idle start start_known collect pick
transaction-on = refl

pub transaction-off : standard.is_on (after standard settings begun) 1 105 ≡ false
unfolding read channel_in declared_in hear is_shut settle dispatch knows obey is_vendor among on_init next_channel is_allocated is_valid is_locked_against is_on receive when_idle start start_known collect pick
transaction-off = refl

pub transaction-ends : Since 12800 standard settings 1 begun 104
transaction-ends = transactions-end settings permitted begun begun-taken 104 (omega arith) 1 transaction-on

pub transaction-ends-sharp : Since 12673 standard settings 1 begun 104
transaction-ends-sharp = transactions-end-sharp settings permitted begun begun-taken 104 (omega arith) 1 transaction-on

-- ---- the lock runs at 1,004, and not at 1,005
lock-on : standard.is_locked_by (after standard settings locked) 1 1004 ≡ true
unfolding read channel_in declared_in hear is_shut settle dispatch knows obey is_vendor among on_init on_lock lock_for next_channel is_allocated is_valid is_locked_by is_locked_against receive when_idle start start_known collect pick
lock-on = refl

pub lock-off : standard.is_locked_by (after standard settings locked) 1 1005 ≡ false
unfolding read channel_in declared_in hear is_shut settle dispatch knows obey is_vendor among on_init on_lock lock_for next_channel is_allocated is_valid is_locked_by is_locked_against receive when_idle start start_known collect pick
lock-off = refl

pub lock-ends : Holding standard settings 1 locked 1004
lock-ends = locks-end settings permitted locked locked-taken 1004 (omega arith) 1 lock-on

-- ---- channel 2 is turned away by each, and by neither when it is over
busy-by-transaction : answer standard settings begun (at 104 (ping 2)) ≡ busy_on 2
unfolding read channel_in declared_in hear is_shut settle dispatch knows obey is_vendor among on_init next_channel is_allocated is_valid is_locked_against receive when_idle when_busy start start_known collect pick
busy-by-transaction = refl

busy-by-lock : answer standard settings locked (at 1004 (ping 2)) ≡ busy_on 2
unfolding read channel_in declared_in hear is_shut settle dispatch knows obey is_vendor among on_init on_lock lock_for next_channel is_allocated is_valid is_locked_against receive when_idle start start_known collect pick
busy-by-lock = refl

pub turned-away-by-transaction : HeldBy standard settings begun 2 104
unfolding all_bytes pick
turned-away-by-transaction =
    none-shut-out settings permitted begun (at 104 (ping 2)) (proper (at 104 (ping 2)) refl refl (omega arith), omega arith, begun-taken) refl busy-by-transaction

-- by a command that is known
pub turned-away-by-known : HeldByKnown standard settings begun 2 104
unfolding all_bytes pick
turned-away-by-known =
    none-shut-out-by-unknown settings permitted begun (at 104 (ping 2)) (proper (at 104 (ping 2)) refl refl (omega arith), omega arith, begun-taken) refl busy-by-transaction

pub turned-away-by-lock : HeldBy standard settings locked 2 1004
unfolding all_bytes pick
turned-away-by-lock =
    none-shut-out settings permitted locked (at 1004 (ping 2)) (proper (at 1004 (ping 2)) refl refl (omega arith), omega arith, locked-taken) refl busy-by-lock

pub served-after-transaction : answer standard settings begun (at 105 (ping 2)) ≡ reply 2 PING (0xab ∷ 0xcd ∷ [])
unfolding read channel_in declared_in hear is_shut settle dispatch knows obey is_vendor among on_init next_channel is_allocated is_valid is_locked_against receive when_idle when_over start start_known collect pick
served-after-transaction = refl

pub served-after-lock : answer standard settings locked (at 1005 (ping 2)) ≡ reply 2 PING (0xab ∷ 0xcd ∷ [])
unfolding read channel_in declared_in hear is_shut settle dispatch knows obey is_vendor among on_init on_lock lock_for next_channel is_allocated is_valid is_locked_against receive when_idle start start_known collect pick
served-after-lock = refl
