-- Runs that meet all premises of Delivery, by computation, and what follows of any device that delivers. Assumes nothing.
use Prim.Native.Nat.{ℕ, zero, suc, ◌+◌, ◌-◌, ◌≤◌, ◌<◌}
use native.Mathlib.Omega.{arith}
use mathlib.Core.Path.{◌≡◌, refl, sym}
use mathlib.Core.List.{List, [], ◌∷◌, ◌++◌}
use mathlib.Core.Bool.{Bool, true, false, true≢false}
use mathlib.Core.Logic.{inl, inr}
use borrow.Author.Tests.{ltb-true, eqb-true}
use lib.Dec.{ltb, eqb}
use lib.ListN.{length, get_or, replicate}
use Rattle.ctaphid.specs.Choice.{pick, is_in}
use Rattle.ctaphid.specs.Packets.{channel_in, declared_in, read, written}
use Rattle.ctaphid.specs.Messages.{later, chunks, padded, fields, numbered, packets}
use Rattle.ctaphid.specs.Commands.{PING, CBOR, VENDOR, is_vendor, among}
use Rattle.ctaphid.specs.Settings.{Settings, knows}
use Rattle.ctaphid.specs.Receiver.{collect, start_known, start, when_idle, when_over, on_own, when_busy, receive, is_on}
use Rattle.ctaphid.specs.Transport.{Event, reply, request, is_allocated, is_valid, is_locked_by, is_locked_against, is_shut, next_channel, on_init, dispatch, settle, hear, obey}
use Rattle.ctaphid.specs.Demands.{AnyDevice, standard, Permitted, Proper, Taken, after, answer, busy_on, Open, Sending, Ends, aPing, aCbor, aVendor, Delivery}
use Rattle.ctaphid.proofs.Tests.{pick_true, pick_known}
use Rattle.ctaphid.proofs.Histories.{none-permitted}
use Rattle.ctaphid.proofs.Deliver.{delivery}

-- ---- packets that are bytes

unfoldable pub all_below : ℕ → List ℕ → Bool
all_below n [] = true
all_below n (b ∷ bytes) = pick (ltb b n) (all_below n bytes) false

pub below : (n : ℕ) (l : List ℕ) → 0 < n → all_below n l ≡ true → (i : ℕ) → get_or l i 0 < n
unfolding all_below
below n [] some h i = some
below n (b ∷ bytes) some h zero = ltb-true b n (pick_true (ltb b n) (all_below n bytes) h).0
below n (b ∷ bytes) some h (suc i) = below n bytes some (pick_true (ltb b n) (all_below n bytes) h).1 i

-- an enabled packet at a time; bytes that are left off are 0
abbrev pub at : (time : ℕ) → List ℕ → Event
at t bytes = record { time = t; disabled = false; packet = bytes ++ replicate (64 - length bytes) 0 }

pub proper : (t : ℕ) (bytes : List ℕ) → t ≤ 0xffff_ffff_ffff → length (at t bytes).packet ≡ 64 → all_below 256 (at t bytes).packet ≡ true → Proper (at t bytes)
proper t bytes e s h = record { size = s; bytes = below 256 (at t bytes).packet (omega arith) h; early = e }

-- ---- the packets of the runs

abbrev pub channel : ℕ → List ℕ
channel c = 0 ∷ 0 ∷ 0 ∷ c ∷ []

-- a broadcast INIT
abbrev pub init : List ℕ
init = 0xff ∷ 0xff ∷ 0xff ∷ 0xff ∷ 0x86 ∷ 0 ∷ 8 ∷ 1 ∷ 2 ∷ 3 ∷ 4 ∷ 5 ∷ 6 ∷ 7 ∷ 8 ∷ []

-- a PING of two bytes
abbrev pub ping : (channel : ℕ) → List ℕ
ping c = channel c ++ (0x81 ∷ 0 ∷ 2 ∷ 0xab ∷ 0xcd ∷ [])

-- a message of 58 bytes on channel 1, and its two packets
abbrev pub message : (first : ℕ) → List ℕ
message b = b ∷ replicate 57 7

abbrev pub begins : (command first : ℕ) → List ℕ
begins cmd b = channel 1 ++ ((cmd + 0x80) ∷ 0 ∷ 58 ∷ b ∷ replicate 56 7)

abbrev pub ends : List ℕ
ends = channel 1 ++ (0 ∷ 7 ∷ [])

-- ---- the history: two broadcast INITs after set-up allocate channels 1 and 2

-- with these vendor commands, and with none
abbrev pub allowing : List ℕ → Settings
allowing l = record { maximum = 7609; u2f = true; vendor = l }

abbrev pub settings : Settings
settings = allowing []

pub permitted : Permitted settings
permitted = none-permitted settings (omega arith) refl

abbrev pub two : List Event
two = at 0 init ∷ at 0 init ∷ []

pub two-taken : Taken two
unfolding all_below pick
two-taken = (proper 0 init (omega arith) refl refl, omega arith, (proper 0 init (omega arith) refl refl, omega arith, tt))

-- channel 1 may begin
pub two-open : (l : List ℕ) → Open (allowing l) two 5 1
unfolding read channel_in declared_in hear is_shut settle dispatch knows obey is_vendor on_init next_channel is_allocated is_valid is_locked_by is_locked_against is_on receive when_idle start start_known collect among pick
two-open l = record { allocated = refl; quiet = λ o. refl; unlocked = λ o h. refl }

-- ---- a message in one packet

pub ping-sent : Sending two 1 1 (0xab ∷ 0xcd ∷ []) (at 5 (ping 1)) []
unfolding written later chunks padded fields numbered packets all_below pick
ping-sent = record { proper = proper 5 (ping 1) (omega arith) refl refl; onward = omega arith; enabled = refl; following = []; cut = refl; followed = refl }

pub one-packet : (D : AnyDevice) → Delivery D → answer D settings two (at 5 (ping 1)) ≡ reply 1 PING (0xab ∷ 0xcd ∷ [])
one-packet D delivers =
    delivers settings permitted two two-taken 1 aPing tt (0xab ∷ 0xcd ∷ []) (omega arith) (at 5 (ping 1)) [] (two-open []) ping-sent

-- ---- 58 bytes in two packets, the second 99 ms after the first, and a packet of channel 2 in between

abbrev pub between : List Event
between = at 50 (ping 2) ∷ at 104 ends ∷ []

pub message-sent : (cmd b : ℕ) → all_below 256 (at 5 (begins cmd b)).packet ≡ true → Sending two 1 cmd (message b) (at 5 (begins cmd b)) between
unfolding written later chunks padded fields numbered packets all_below pick
message-sent cmd b h =
    record {
      proper = proper 5 (begins cmd b) (omega arith) refl h;
      onward = omega arith;
      enabled = refl;
      following = (at 104 ends).packet ∷ [];
      cut = refl;
      followed = (
        proper 50 (ping 2) (omega arith) refl refl,
        omega arith,
        inr ((λ e. omega arith), (proper 104 ends (omega arith) refl refl, omega arith, inl (refl, refl, omega arith, refl))),
      );
    }

pub two-packets : (D : AnyDevice) → Delivery D → (b : ℕ) → all_below 256 (at 5 (begins 16 b)).packet ≡ true → Ends D (after D settings two) 1 (request 1 CBOR (message b)) (at 5 (begins 16 b) ∷ between)
two-packets D delivers b h =
    delivers settings permitted two two-taken 1 aCbor tt (message b) (omega arith) (at 5 (begins 16 b)) between (two-open []) (message-sent 16 b h)

-- of the standard's transport: its premises are met, so that this run is one that Delivery speaks of
pub message-delivered : Ends standard (after standard settings two) 1 (request 1 CBOR (message 7)) (at 5 (begins 16 7) ∷ between)
unfolding all_below pick
message-delivered = two-packets standard delivery 7 refl

-- ---- the same of the vendor's command 127, on a device that allows it

pub branded : Permitted (allowing (127 ∷ []))
unfolding is_in
branded = record {
  most = omega arith;
  vendor = λ n. pick_known (λ (b : Bool). b ≡ true → (64 ≤ n) × (n ≤ 127)) (eqb n 127) _ _ (λ e h. let is : n ≡ 127 = eqb-true n 127 e in (omega arith, omega arith)) (λ e h. absurd (true≢false (sym h)));
}

pub vendor-packets : (D : AnyDevice) → Delivery D → Ends D (after D (allowing (127 ∷ [])) two) 1 (request 1 (VENDOR 127) (message 7)) (at 5 (begins 127 7) ∷ between)
unfolding all_below is_in pick
vendor-packets D delivers =
    delivers (allowing (127 ∷ [])) branded two two-taken 1 (aVendor 127) refl (message 7) (omega arith) (at 5 (begins 127 7)) between (two-open (127 ∷ [])) (message-sent 127 7 refl)

pub vendor-delivered : Ends standard (after standard (allowing (127 ∷ [])) two) 1 (request 1 (VENDOR 127) (message 7)) (at 5 (begins 127 7) ∷ between)
vendor-delivered = vendor-packets standard delivery

-- the packet in between is told that the device is busy, by computation
pub between-busy : answer standard settings (at 5 (begins 16 7) ∷ two) (at 50 (ping 2)) ≡ busy_on 2
unfolding read channel_in declared_in hear is_shut settle dispatch knows obey is_vendor on_init next_channel is_allocated is_valid is_locked_against receive when_idle when_over when_busy on_own start start_known collect among pick
between-busy = refl
