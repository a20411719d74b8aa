-- Rows A to L of docs/RULES.md, and further ones. Packets are bytes and numbers are bare, so that a wrong number in a table is noticed. Assumes nothing.
use Rattle.std.specs.Prelude.{ℕ, zero, suc, ◌+◌, ◌-◌, ◌≤◌, ◌≡◌, List, [], ◌∷◌, ◌++◌, map, true, false, length, get_or, replicate}
use Rattle.ctaphid.specs.Choice.{pick, refusing, is_in}
use Rattle.ctaphid.specs.Packets.{initialization, continuation, byte, read, Bytes, Formed}
use Rattle.ctaphid.specs.Messages.{count, wire, split_wire}
use Rattle.ctaphid.specs.Commands.{MSG, CBOR, INIT, PING, CANCEL, ERROR, KEEPALIVE, WINK, LOCK, VENDOR, number, is_vendor, is, command_of}
use Rattle.ctaphid.specs.Errors.{InvalidCmd, InvalidPar, InvalidLen, InvalidSeq, MsgTimeout, ChannelBusy, LockRequired, InvalidChannel, Other, code}
use Rattle.ctaphid.specs.Capabilities.{wink, cbor, nmsg, bit, capabilities}
use Rattle.ctaphid.specs.Limits.{packet_size, largest, short_reply, timeout, wink_time, last_time}
use Rattle.ctaphid.specs.Settings.{Settings, knows}
use Rattle.ctaphid.specs.Receiver.{Receiver, idle, busy, is_on, still_due}
use Rattle.ctaphid.specs.Transport.{Lock, free, Transport, fresh, Event, Answer, nothing, reply, request, is_valid, is_locked, is_locked_by, is_locked_against, with_allocated, with_lock, with_receiver, step, afterwards, run}
use Rattle.ctaphid.specs.Refusals.{PacketSize, ShortBuffer, Unsound, Time, Maximum, Index, LongPayload, Sequence, LongReply, NotInit, Command, Vendor, FragmentSize, FragmentLength, FragmentNumber, LongMessage, Excess, refusal_number}
use Rattle.ctaphid.specs.Device.{Device, device, set_up, device_step, device_run, is_winking}

-- ---- what a row is made of

-- an answer with its command as a number: nothing, a message to be sent, or one that is handed out
pub data Shown : Type 0 where
  none : Shown
  sends hands : (channel command : ℕ) (payload : List ℕ) → Shown

abbrev pub shown : Answer → Shown
shown nothing = none
shown (reply c cmd payload) = sends c (number cmd) payload
shown (request c cmd payload) = hands c (number cmd) payload

-- an error reply, with its number
abbrev pub told : (channel error : ℕ) → Shown
told c e = sends c 0x3f (e ∷ [])

-- 64 bytes, of which those that are left off are 0
abbrev pub sixty_four : List ℕ → List ℕ
sixty_four front = front ++ replicate (64 - length front) 0

-- a packet at a time, with the transport enabled, and with it disabled
abbrev pub at : ℕ → List ℕ → Event
at t front = record { time = t; disabled = false; packet = sixty_four front }

abbrev pub shut_at : ℕ → List ℕ → Event
shut_at t front = record { time = t; disabled = true; packet = sixty_four front }

-- a transport, and a device, with so many channels
abbrev pub transport_of : Settings → (channels : ℕ) → Transport
transport_of set n = record { settings = set; allocated = n; lock = free; receiver = idle }

abbrev pub full : Settings
full = record { maximum = 7609; u2f = true; vendor = [] }

abbrev pub having : (channels : ℕ) → Device
having n = device (transport_of full n) 0

-- without U2F, and with a maximum of 100
abbrev pub without : Device
without = device (transport_of (record { maximum = 7609; u2f = false; vendor = [] }) 2) 0

abbrev pub small : Device
small = device (transport_of (record { maximum = 100; u2f = true; vendor = [] }) 2) 0

-- with two of the vendor's commands, of which one stands twice on the list
abbrev pub branded : Device
branded = device (transport_of (record { maximum = 7609; u2f = true; vendor = 127 ∷ 64 ∷ 127 ∷ [] }) 2) 0

-- how a device answers a run of events, and what it has become
abbrev pub answers : Device → List Event → List Shown
answers o events = map shown (device_run o events)

abbrev pub left : Device → List Event → Device
left o events = afterwards device_step o events

-- how many continuations are still due then, and after each event of a run
abbrev pub due : Device → List Event → ℕ
due o events = still_due (left o events).transport.receiver

abbrev pub dues : Device → List Event → List ℕ
dues o [] = []
dues o (e ∷ rest) = due o (e ∷ []) ∷ dues (device_step o e).state rest

-- ---- packets, by their front bytes

abbrev pub on : ℕ → List ℕ
on c = 0 ∷ 0 ∷ 0 ∷ c ∷ []

abbrev pub everywhere : List ℕ
everywhere = 0xff ∷ 0xff ∷ 0xff ∷ 0xff ∷ []

abbrev pub nonce : List ℕ
nonce = 11 ∷ 12 ∷ 13 ∷ 14 ∷ 15 ∷ 16 ∷ 17 ∷ 18 ∷ []

-- INIT of 8 bytes on a channel, and the reply to it that names another or the same
abbrev pub init_on : (channel : List ℕ) → List ℕ
init_on c = c ++ (0x86 ∷ 0 ∷ 8 ∷ nonce)

abbrev pub welcome : (channel : ℕ) → (named : List ℕ) → Shown
welcome c named = sends c 0x06 (nonce ++ (named ++ (2 ∷ 1 ∷ 0 ∷ 0 ∷ 5 ∷ [])))

-- PING of 2 bytes on a channel below 256, and its echo
abbrev pub ping_on : ℕ → List ℕ
ping_on c = on c ++ (0x81 ∷ 0 ∷ 2 ∷ 0xab ∷ 0xcd ∷ [])

abbrev pub echo : ℕ → Shown
echo c = sends c 0x01 (0xab ∷ 0xcd ∷ [])

-- LOCK on channel 1 for so many seconds, and its reply
abbrev pub lock_of : ℕ → List ℕ
lock_of seconds = on 1 ++ (0x84 ∷ 0 ∷ 1 ∷ seconds ∷ [])

abbrev pub locks : Shown
locks = sends 1 0x04 []

-- WINK with no data on channel 1, and its echo
abbrev pub wink_on1 : List ℕ
wink_on1 = on 1 ++ (0x88 ∷ 0 ∷ 0 ∷ [])

abbrev pub winks : Shown
winks = sends 1 0x08 []

-- the first packet of a CBOR message of 60 bytes on channel 1, a continuation of channel 1 with 3 bytes, and the message handed out
abbrev pub begin60 : List ℕ
begin60 = on 1 ++ (0x90 ∷ 0 ∷ 60 ∷ replicate 57 7)

abbrev pub go_on : (number : ℕ) → List ℕ
go_on k = on 1 ++ (k ∷ 8 ∷ 9 ∷ 10 ∷ [])

abbrev pub done60 : Shown
done60 = hands 1 0x10 (replicate 57 7 ++ (8 ∷ 9 ∷ 10 ∷ []))

-- the same of 118 bytes, which take two continuations
abbrev pub begin118 : List ℕ
begin118 = on 1 ++ (0x90 ∷ 0 ∷ 118 ∷ replicate 57 7)

abbrev pub done118 : Shown
done118 = hands 1 0x10 (replicate 57 7 ++ (8 ∷ 9 ∷ 10 ∷ (replicate 56 0 ++ (8 ∷ 9 ∷ []))))

-- ---- the table

pub record Rows : Type 0 where
  -- a fresh broadcast INIT: channel 1
  pub a : answers (set_up full) (at 0 (init_on everywhere) ∷ []) ≡ welcome 0xffff_ffff (on 1) ∷ []
  -- count FFFFFFFE: next is 1, and channel 2 then gets InvalidChannel
  pub b : answers (having 0xffff_fffe) (at 0 (ping_on 2) ∷ at 0 (init_on everywhere) ∷ at 0 (ping_on 2) ∷ at 0 (ping_on 1) ∷ [])
      ≡ echo 2 ∷ welcome 0xffff_ffff (on 1) ∷ told 2 11 ∷ echo 1 ∷ []
  -- broadcast PING: InvalidChannel
  pub c : answers (having 2) (at 0 (everywhere ++ (0x81 ∷ [])) ∷ []) ≡ told 0xffff_ffff 11 ∷ []
  -- channel 0: InvalidChannel; its continuation, nothing
  pub d : answers (having 2) (at 0 (ping_on 0) ∷ at 0 (on 0) ∷ []) ≡ told 0 11 ∷ none ∷ []
  -- 57 bytes: 1 packet; 58: 2
  pub e : (channel command : ℕ) (payload : List ℕ)
      → (length payload ≡ 57 → length (wire channel command payload) ≡ 1) × (length payload ≡ 58 → length (wire channel command payload) ≡ 2)
  -- 7,609: 129, last number 127
  pub f : (channel command : ℕ) (payload : List ℕ) → length payload ≡ 7609
      → (length (wire channel command payload) ≡ 129) × (byte (get_or (wire channel command payload) 128 []) 4 ≡ 127)
  -- 7,610 declared: InvalidLen. That 7,610 bytes to be sent meet refusal 7 is in the crate send
  pub g : answers (having 2) (at 0 (on 1 ++ (0x81 ∷ 0x1d ∷ 0xba ∷ [])) ∷ []) ≡ told 1 3 ∷ []
  -- a continuation at 99 ms is taken, at 100 gets MsgTimeout
  pub h : (answers (having 2) (at 0 begin60 ∷ at 99 (go_on 0) ∷ []) ≡ none ∷ done60 ∷ [])
      × (answers (having 2) (at 0 begin60 ∷ at 100 (go_on 0) ∷ []) ≡ none ∷ told 1 5 ∷ [])
  -- a timed-out channel's first packet proceeds
  pub i : answers (having 2) (at 0 begin60 ∷ at 100 (ping_on 1) ∷ []) ≡ none ∷ echo 1 ∷ []
  -- LOCK 10 taken, 11 InvalidPar, 2 bytes InvalidLen
  pub j : (answers (having 2) (at 0 (lock_of 10) ∷ at 9999 (ping_on 2) ∷ at 10000 (ping_on 2) ∷ []) ≡ locks ∷ told 2 6 ∷ echo 2 ∷ [])
      × (answers (having 2) (at 0 (lock_of 11) ∷ at 1 (ping_on 2) ∷ []) ≡ told 1 2 ∷ echo 2 ∷ [])
      × (answers (having 2) (at 0 (on 1 ++ (0x84 ∷ 0 ∷ 2 ∷ 1 ∷ 1 ∷ [])) ∷ at 1 (ping_on 2) ∷ []) ≡ told 1 3 ∷ echo 2 ∷ [])
  -- lock 1 at 0: another channel is busy at 999, served at 1,000
  pub k : answers (having 2) (at 0 (lock_of 1) ∷ at 999 (ping_on 2) ∷ at 1000 (ping_on 2) ∷ []) ≡ locks ∷ told 2 6 ∷ echo 2 ∷ []
  -- live transaction, own INIT: reply on the same channel; own CANCEL: InvalidSeq
  pub l : (answers (having 2) (at 0 begin60 ∷ at 1 (init_on (on 1)) ∷ []) ≡ none ∷ welcome 1 (on 1) ∷ [])
      × (answers (having 2) (at 0 begin60 ∷ at 1 (on 1 ++ (0x91 ∷ [])) ∷ []) ≡ none ∷ told 1 4 ∷ [])

-- ---- further rows

-- so many numbers, from the least on
abbrev pub up_from : (least many : ℕ) → List ℕ
up_from n zero = []
up_from n (suc k) = n ∷ up_from (n + 1) k

-- 64 bytes that count from 1 on, but for byte 4
abbrev pub counted : (byte4 : ℕ) → List ℕ
counted b = 1 ∷ 2 ∷ 3 ∷ 4 ∷ b ∷ up_from 6 59

-- those of these numbers that a device with these settings knows as a command
abbrev pub known : Settings → List ℕ → List ℕ
known set [] = []
known set (n ∷ rest) = pick (knows set (command_of n)) (n ∷ known set rest) (known set rest)

-- the first packet of a message of so many bytes on channel 1, with a command by its byte 4; and all 129 packets of one of 7,609, with command 2
abbrev pub opens : (byte4 high low : ℕ) → List ℕ
opens b high low = on 1 ++ (b ∷ high ∷ low ∷ replicate 57 7)

abbrev pub unknown129 : (time : ℕ) → List Event
unknown129 t = at t (opens 0x82 0x1d 0xb9) ∷ map (λ (k : ℕ). at t (go_on k)) (up_from 0 128)

-- a device to which a caller's state brings a transaction of command 2, with 60 bytes, on channel 1
abbrev pub brought : Device
brought =
    device (with_receiver (transport_of full 2) (busy (record { channel = 1; command = 2; declared = 60; collected = replicate 57 7; due = 0; deadline = 100 }))) 0

-- the lock and the receiver after LOCK 1 on channel 1 at 0, and after the first packet of 60 bytes
abbrev pub locked_at0 : Lock
locked_at0 = (step (transport_of full 2) (at 0 (lock_of 1))).state.lock

abbrev pub begun_at0 : Receiver
begun_at0 = (step (transport_of full 2) (at 0 begin60)).state.receiver

pub record FurtherRows : Type 0 where
  -- tables of numbers
  pub commands : map number (MSG ∷ CBOR ∷ INIT ∷ PING ∷ CANCEL ∷ ERROR ∷ KEEPALIVE ∷ WINK ∷ LOCK ∷ VENDOR 65 ∷ []) ≡ 3 ∷ 16 ∷ 6 ∷ 1 ∷ 17 ∷ 63 ∷ 59 ∷ 8 ∷ 4 ∷ 65 ∷ []
  pub read-commands : map command_of (0 ∷ 1 ∷ 2 ∷ 3 ∷ 4 ∷ 5 ∷ 6 ∷ 7 ∷ 8 ∷ 9 ∷ 16 ∷ 17 ∷ 59 ∷ 62 ∷ 63 ∷ 64 ∷ 127 ∷ 128 ∷ [])
      ≡ ERROR ∷ PING ∷ ERROR ∷ MSG ∷ LOCK ∷ ERROR ∷ INIT ∷ ERROR ∷ WINK ∷ ERROR ∷ CBOR ∷ CANCEL ∷ KEEPALIVE ∷ ERROR ∷ ERROR ∷ VENDOR 64 ∷ VENDOR 127 ∷ ERROR ∷ []
  pub vendor-numbers : map is_vendor (0 ∷ 63 ∷ 64 ∷ 127 ∷ 128 ∷ []) ≡ false ∷ false ∷ true ∷ true ∷ false ∷ []
  -- whether a number is in a list
  pub in_list : map (λ (n : ℕ). is_in n (127 ∷ 64 ∷ 127 ∷ [])) (63 ∷ 64 ∷ 65 ∷ 127 ∷ []) ≡ false ∷ true ∷ false ∷ true ∷ []
  pub same-commands : (is WINK WINK ≡ true) × (is WINK MSG ≡ false)
  pub errors : map code (InvalidCmd ∷ InvalidPar ∷ InvalidLen ∷ InvalidSeq ∷ MsgTimeout ∷ ChannelBusy ∷ LockRequired ∷ InvalidChannel ∷ Other ∷ [])
      ≡ 1 ∷ 2 ∷ 3 ∷ 4 ∷ 5 ∷ 6 ∷ 10 ∷ 11 ∷ 127 ∷ []
  pub capability-bits : map bit (wink ∷ cbor ∷ nmsg ∷ []) ≡ 1 ∷ 4 ∷ 8 ∷ []
  pub capability-bytes : map capabilities (true ∷ false ∷ []) ≡ 5 ∷ 13 ∷ []
  pub refusal-numbers : map refusal_number (PacketSize ∷ ShortBuffer ∷ Unsound ∷ Time ∷ Maximum ∷ Index ∷ LongPayload ∷ Sequence ∷ LongReply ∷ NotInit ∷ Command ∷ Vendor ∷ FragmentSize ∷ FragmentLength ∷ FragmentNumber ∷ LongMessage ∷ Excess ∷ [])
      ≡ 1 ∷ 2 ∷ 3 ∷ 4 ∷ 5 ∷ 6 ∷ 7 ∷ 9 ∷ 10 ∷ 11 ∷ 12 ∷ 13 ∷ 14 ∷ 15 ∷ 16 ∷ 17 ∷ 18 ∷ []
  pub limits : packet_size ∷ largest ∷ short_reply ∷ timeout ∷ wink_time ∷ last_time ∷ [] ≡ 64 ∷ 7609 ∷ 17 ∷ 100 ∷ 5000 ∷ 281474976710655 ∷ []
  -- the first test that holds refuses; where none does, none
  pub refuses : (refusing (λ (n : ℕ). n) ((false, 3) ∷ (true, 4) ∷ (true, 5) ∷ []) 9 ≡ 4) × (refusing (λ (n : ℕ). n) ((false, 3) ∷ []) 9 ≡ 9)
  -- past its end a packet has 0
  pub past_the_end : byte [] 0 ≡ 0
  -- packets read and written: each byte at its place, and a top bit in byte 4 or none
  pub reads_first : read (counted 0x80) ≡ initialization 0x0102_0304 0 0x0607 (up_from 8 57)
  pub reads-first-255 : read (counted 0xff) ≡ initialization 0x0102_0304 127 0x0607 (up_from 8 57)
  pub reads-later : read (counted 0x7f) ≡ continuation 0x0102_0304 127 (up_from 6 59)
  pub writes-300 : wire 0x0102_0304 16 (up_from 20 60 ++ replicate 240 9)
      ≡ (1 ∷ 2 ∷ 3 ∷ 4 ∷ 0x90 ∷ 1 ∷ 44 ∷ up_from 20 57)
      ∷ (1 ∷ 2 ∷ 3 ∷ 4 ∷ 0 ∷ 77 ∷ 78 ∷ 79 ∷ replicate 56 9)
      ∷ (1 ∷ 2 ∷ 3 ∷ 4 ∷ 1 ∷ replicate 59 9)
      ∷ (1 ∷ 2 ∷ 3 ∷ 4 ∷ 2 ∷ replicate 59 9)
      ∷ (1 ∷ 2 ∷ 3 ∷ 4 ∷ 3 ∷ replicate 59 9)
      ∷ (1 ∷ 2 ∷ 3 ∷ 4 ∷ 4 ∷ (replicate 7 9 ++ replicate 52 0))
      ∷ []
  pub writes-none : wire 1 1 [] ≡ (0 ∷ 0 ∷ 0 ∷ 1 ∷ 0x81 ∷ replicate 59 0) ∷ []
  pub writes-2 : wire 1 1 (7 ∷ 8 ∷ []) ≡ (0 ∷ 0 ∷ 0 ∷ 1 ∷ 0x81 ∷ 0 ∷ 2 ∷ 7 ∷ 8 ∷ replicate 55 0) ∷ []
  pub counts : map (count 57 59) (0 ∷ 57 ∷ 58 ∷ 116 ∷ 117 ∷ 7609 ∷ []) ≡ 1 ∷ 1 ∷ 2 ∷ 2 ∷ 3 ∷ 129 ∷ []
  -- a reply of 7,609 bytes is sent; one of 7,610 is replaced by CBOR with one byte
  pub split-7609 : (payload : List ℕ) → length payload ≡ 7609 → split_wire 5 3 payload 0xf3 ≡ wire 5 3 payload
  pub split-7610 : (payload : List ℕ) → length payload ≡ 7610
      → split_wire 5 3 payload 0xf3 ≡ (0 ∷ 0 ∷ 0 ∷ 5 ∷ 0x90 ∷ 0 ∷ 1 ∷ 0xf3 ∷ replicate 56 0) ∷ []
  -- bytes are 0 to 255
  pub bytes-255 : Bytes (255 ∷ [])
  pub bytes-256 : Bytes (256 ∷ []) → ⊥
  -- the ranges of a packet's parts
  pub formed-first : (channel command declared : ℕ) (field : List ℕ) → Formed (initialization channel command declared field)
      → (channel ≤ 0xffff_ffff) × (command ≤ 127) × (declared ≤ 0xffff) × (length field ≡ 57)
  pub formed-later : (channel number : ℕ) (field : List ℕ) → Formed (continuation channel number field) → (channel ≤ 0xffff_ffff) × (number ≤ 127) × (length field ≡ 59)
  -- channels: 1 up to the count, which grows by one
  pub channels : answers (having 2) (at 0 (ping_on 1) ∷ at 0 (ping_on 2) ∷ at 0 (ping_on 3) ∷ []) ≡ echo 1 ∷ echo 2 ∷ told 3 11 ∷ []
  pub none-at-first : answers (set_up full) (at 0 (ping_on 1) ∷ []) ≡ told 1 11 ∷ []
  pub grows : answers (having 2) (at 0 (init_on everywhere) ∷ at 0 (ping_on 3) ∷ at 0 (init_on everywhere) ∷ at 0 (ping_on 4) ∷ [])
      ≡ welcome 0xffff_ffff (on 3) ∷ echo 3 ∷ welcome 0xffff_ffff (on 4) ∷ echo 4 ∷ []
  pub last-channel : answers (having 0xffff_fffd) (at 0 (init_on everywhere) ∷ at 0 (init_on (0xff ∷ 0xff ∷ 0xff ∷ 0xfe ∷ [])) ∷ [])
      ≡ welcome 0xffff_ffff (0xff ∷ 0xff ∷ 0xff ∷ 0xfe ∷ []) ∷ welcome 0xffff_fffe (0xff ∷ 0xff ∷ 0xff ∷ 0xfe ∷ []) ∷ []
  pub four_bytes : answers (having 0x0102_0304) (at 0 (init_on (1 ∷ 2 ∷ 3 ∷ 4 ∷ [])) ∷ []) ≡ welcome 0x0102_0304 (1 ∷ 2 ∷ 3 ∷ 4 ∷ []) ∷ []
  -- INIT on a channel alters no count
  pub init-stays : answers (having 2) (at 0 (init_on (on 1)) ∷ at 0 (ping_on 2) ∷ at 0 (ping_on 3) ∷ []) ≡ welcome 1 (on 1) ∷ echo 2 ∷ told 3 11 ∷ []
  -- INIT of 7 and of 9 bytes: InvalidLen, and no channel
  pub init-7 : answers (having 2) (at 0 (everywhere ++ (0x86 ∷ 0 ∷ 7 ∷ nonce)) ∷ at 0 (ping_on 3) ∷ []) ≡ told 0xffff_ffff 3 ∷ told 3 11 ∷ []
  pub init-9 : answers (having 2) (at 0 (everywhere ++ (0x86 ∷ 0 ∷ 9 ∷ nonce)) ∷ at 0 (on 1 ++ (0x86 ∷ 0 ∷ 9 ∷ nonce)) ∷ []) ≡ told 0xffff_ffff 3 ∷ told 1 3 ∷ []
  -- the broadcast channel is for INIT alone, whatever the count
  pub broadcast-others : answers (having 2)
      (at 0 (everywhere ++ (0x85 ∷ [])) ∷ at 0 (everywhere ++ (0x87 ∷ [])) ∷ at 0 (everywhere ++ (0x90 ∷ [])) ∷ at 0 everywhere ∷ [])
      ≡ told 0xffff_ffff 11 ∷ told 0xffff_ffff 11 ∷ told 0xffff_ffff 11 ∷ none ∷ []
  pub broadcast-continuation : is_valid 0xffff_ffff (continuation 0xffff_ffff 0 []) ≡ false
  -- a channel that isn't valid is told so, or gets nothing, before anything else: disabled, locked, or with a transaction that goes on
  pub invalid-first : answers (having 2)
      (at 0 (lock_of 1) ∷ at 0 begin60 ∷ shut_at 1 (ping_on 3) ∷ shut_at 1 (on 3) ∷ at 2 (ping_on 3) ∷ at 2 (on 3) ∷ at 3 everywhere ∷ at 4 (go_on 0) ∷ [])
      ≡ locks ∷ none ∷ told 3 11 ∷ none ∷ told 3 11 ∷ none ∷ none ∷ done60 ∷ []
  -- disabled: ChannelBusy, to continuations and to INIT too, and nothing alters
  pub disabled : answers (having 2)
      (at 0 begin60 ∷ shut_at 1 (ping_on 2) ∷ shut_at 2 (go_on 0) ∷ shut_at 3 (init_on (on 1)) ∷ shut_at 4 (init_on everywhere) ∷ shut_at 99 (go_on 1) ∷ at 99 (go_on 0) ∷ [])
      ≡ none ∷ told 2 6 ∷ told 1 6 ∷ told 1 6 ∷ told 0xffff_ffff 6 ∷ told 1 6 ∷ done60 ∷ []
  -- disabled past the deadline: ChannelBusy, and MsgTimeout is told once it is enabled
  pub disabled-late : answers (having 2) (at 0 begin60 ∷ shut_at 100 (go_on 0) ∷ at 101 (go_on 0) ∷ at 102 (go_on 0) ∷ []) ≡ none ∷ told 1 6 ∷ told 1 5 ∷ none ∷ []
  -- a lock: its channel is served, others are busy, a broadcast INIT and continuations too
  pub locked : answers (having 2) (at 500 (lock_of 1) ∷ at 501 (ping_on 1) ∷ at 502 (init_on everywhere) ∷ at 503 (on 2) ∷ at 1499 (ping_on 2) ∷ at 1500 (ping_on 2) ∷ [])
      ≡ locks ∷ echo 1 ∷ told 0xffff_ffff 6 ∷ told 2 6 ∷ told 2 6 ∷ echo 2 ∷ []
  pub locked-other-way : answers (having 2) (at 0 (on 2 ++ (0x84 ∷ 0 ∷ 1 ∷ 1 ∷ [])) ∷ at 1 (ping_on 1) ∷ at 1 (ping_on 2) ∷ []) ≡ sends 2 4 [] ∷ told 1 6 ∷ echo 2 ∷ []
  -- the lock is asked before the transaction: another channel's packet past the deadline leaves it
  pub lock-first : answers (having 2) (at 0 (lock_of 1) ∷ at 1 begin60 ∷ at 101 (ping_on 2) ∷ at 102 (go_on 0) ∷ []) ≡ locks ∷ none ∷ told 2 6 ∷ told 1 5 ∷ []
  -- LOCK 0 releases, and a second LOCK counts anew
  pub released : answers (having 2) (at 0 (lock_of 1) ∷ at 0 (lock_of 0) ∷ at 0 (ping_on 2) ∷ []) ≡ locks ∷ locks ∷ echo 2 ∷ []
  pub locked-anew : answers (having 2) (at 0 (lock_of 9) ∷ at 500 (lock_of 1) ∷ at 1499 (ping_on 2) ∷ at 1500 (ping_on 2) ∷ []) ≡ locks ∷ locks ∷ told 2 6 ∷ echo 2 ∷ []
  -- a lock stays through errors of its channel's LOCK: of 0 bytes, of 11 seconds and of 2 bytes
  pub lock-errors : answers (having 2)
      (at 0 (lock_of 1) ∷ at 1 (on 1 ++ (0x84 ∷ [])) ∷ at 2 (lock_of 11) ∷ at 3 (on 1 ++ (0x84 ∷ 0 ∷ 2 ∷ [])) ∷ at 999 (ping_on 2) ∷ at 1000 (ping_on 2) ∷ [])
      ≡ locks ∷ told 1 3 ∷ told 1 2 ∷ told 1 3 ∷ told 2 6 ∷ echo 2 ∷ []
  -- LOCK of 2 bytes is told its length before its seconds
  pub lock-length-first : answers (having 2) (at 0 (on 1 ++ (0x84 ∷ 0 ∷ 2 ∷ 11 ∷ [])) ∷ []) ≡ told 1 3 ∷ []
  -- a lock survives any error of its channel
  pub lock-through-errors : answers (having 2) (at 0 (lock_of 1) ∷ at 1 begin60 ∷ at 2 (go_on 1) ∷ at 3 (on 1 ++ (0x82 ∷ [])) ∷ at 4 (ping_on 2) ∷ [])
      ≡ locks ∷ none ∷ told 1 4 ∷ told 1 1 ∷ told 2 6 ∷ []
  -- a lock survives INIT on its channel
  pub lock-kept : answers (having 2) (at 0 (lock_of 1) ∷ at 1 (init_on (on 1)) ∷ at 2 (ping_on 2) ∷ []) ≡ locks ∷ welcome 1 (on 1) ∷ told 2 6 ∷ []
  -- the questions whether a lock runs, whose it is and against whom
  pub lock-999 : (is_locked locked_at0 999 ≡ true)
      × (is_locked_by locked_at0 1 999 ≡ true)
      × (is_locked_by locked_at0 2 999 ≡ false)
      × (is_locked_against locked_at0 1 999 ≡ false)
      × (is_locked_against locked_at0 2 999 ≡ true)
      × (is_locked_by locked_at0 0 999 ≡ false)
      × (is_locked_against locked_at0 0 999 ≡ true)
  pub lock-1000 : (is_locked locked_at0 1000 ≡ false)
      × (is_locked_by locked_at0 1 1000 ≡ false)
      × (is_locked_against locked_at0 2 1000 ≡ false)
  pub no-lock : (is_locked (fresh full).lock 0 ≡ false) × ((fresh full).lock.holder ≡ 0)
  -- the question whether a transaction is on
  pub on-99 : (is_on begun_at0 1 99 ≡ true)
      × (is_on begun_at0 1 100 ≡ false)
      × (is_on begun_at0 2 99 ≡ false)
      × (is_on begun_at0 0 99 ≡ false)
      × (is_on (fresh full).receiver 0 0 ≡ false)
  -- the largest message that is taken is the maximum: 7,609, or a smaller one
  pub length-7609 : answers (having 2) (at 0 (on 1 ++ (0x81 ∷ 0x1d ∷ 0xb9 ∷ [])) ∷ at 1 (ping_on 2) ∷ []) ≡ none ∷ told 2 6 ∷ []
  pub length-100 : answers small (at 0 (on 1 ++ (0x81 ∷ 0 ∷ 100 ∷ [])) ∷ at 1 (on 2) ∷ at 2 (on 1) ∷ []) ≡ none ∷ told 2 6 ∷ sends 1 1 (replicate 100 0) ∷ []
  pub length-101 : answers small (at 0 (on 1 ++ (0x81 ∷ 0 ∷ 101 ∷ [])) ∷ at 1 (ping_on 2) ∷ []) ≡ told 1 3 ∷ echo 2 ∷ []
  -- a message is whole when its declared length is there, cut at it
  pub whole-0 : answers (having 2) (at 0 (on 1 ++ (0x81 ∷ 0 ∷ 0 ∷ 5 ∷ [])) ∷ []) ≡ sends 1 1 [] ∷ []
  pub whole-57 : answers (having 2) (at 0 (on 1 ++ (0x81 ∷ 0 ∷ 57 ∷ replicate 57 7)) ∷ []) ≡ sends 1 1 (replicate 57 7) ∷ []
  pub whole-58 : answers (having 2) (at 0 (on 1 ++ (0x81 ∷ 0 ∷ 58 ∷ replicate 57 7)) ∷ at 1 (go_on 0) ∷ at 2 (go_on 1) ∷ [])
      ≡ none ∷ sends 1 1 (replicate 57 7 ++ (8 ∷ [])) ∷ none ∷ []
  pub whole-116 : answers (having 2) (at 0 (on 1 ++ (0x81 ∷ 0 ∷ 116 ∷ replicate 57 7)) ∷ at 1 (on 1 ++ replicate 60 0) ∷ [])
      ≡ none ∷ sends 1 1 (replicate 57 7 ++ replicate 59 0) ∷ []
  -- a right continuation restarts the timer, another channel's packet does not
  pub restarts : answers (having 2) (at 0 begin118 ∷ at 99 (go_on 0) ∷ at 198 (go_on 1) ∷ []) ≡ none ∷ none ∷ done118 ∷ []
  pub restarts-late : answers (having 2) (at 0 begin118 ∷ at 99 (go_on 0) ∷ at 199 (go_on 1) ∷ []) ≡ none ∷ none ∷ told 1 5 ∷ []
  pub no-life : answers (having 2) (at 0 begin60 ∷ at 50 (ping_on 2) ∷ at 99 (ping_on 2) ∷ at 100 (go_on 0) ∷ []) ≡ none ∷ told 2 6 ∷ told 2 6 ∷ told 1 5 ∷ []
  -- other channels during a transaction: ChannelBusy, INIT, CANCEL and continuations too, and nothing alters
  pub others : answers (having 2)
      (at 7 begin60 ∷ at 7 (ping_on 2) ∷ at 7 (init_on (on 2)) ∷ at 7 (init_on everywhere) ∷ at 7 (on 2 ++ (0x91 ∷ [])) ∷ at 7 (on 2) ∷ at 106 (go_on 0) ∷ [])
      ≡ none ∷ told 2 6 ∷ told 2 6 ∷ told 0xffff_ffff 6 ∷ told 2 6 ∷ told 2 6 ∷ done60 ∷ []
  -- MsgTimeout is told once, to the transaction's channel; another channel's packet is served, and drops the transaction
  pub timeout-once : answers (having 2) (at 0 begin60 ∷ at 100 (go_on 0) ∷ at 100 (go_on 0) ∷ []) ≡ none ∷ told 1 5 ∷ none ∷ []
  pub timeout-other : answers (having 2) (at 0 begin60 ∷ at 100 (on 2) ∷ at 100 (go_on 0) ∷ []) ≡ none ∷ none ∷ none ∷ []
  pub timeout-served : answers (having 2) (at 0 begin60 ∷ at 100 (ping_on 2) ∷ at 100 (go_on 0) ∷ []) ≡ none ∷ echo 2 ∷ none ∷ []
  -- the same of a transaction on channel 2, with channel 1 as the other
  pub other_way : answers (having 2)
      (at 0 (on 2 ++ (0x90 ∷ 0 ∷ 60 ∷ [])) ∷ at 1 (ping_on 1) ∷ at 1 (go_on 0) ∷ at 100 (go_on 0) ∷ at 100 (on 2) ∷ [])
      ≡ none ∷ told 1 6 ∷ told 1 6 ∷ none ∷ none ∷ []
  -- a wrong number: InvalidSeq, and the transaction is dropped
  pub wrong-number : answers (having 2) (at 0 begin118 ∷ at 1 (go_on 1) ∷ at 2 (go_on 0) ∷ []) ≡ none ∷ told 1 4 ∷ none ∷ []
  pub same_number : answers (having 2) (at 0 begin118 ∷ at 1 (go_on 0) ∷ at 2 (go_on 0) ∷ at 3 (go_on 1) ∷ []) ≡ none ∷ none ∷ told 1 4 ∷ none ∷ []
  -- an own first packet: InvalidSeq, and the transaction is dropped
  pub own_first : answers (having 2) (at 0 begin60 ∷ at 1 (ping_on 1) ∷ at 2 (go_on 0) ∷ []) ≡ none ∷ told 1 4 ∷ none ∷ []
  pub own-cancel : answers (having 2) (at 0 begin60 ∷ at 1 (on 1 ++ (0x91 ∷ [])) ∷ at 2 (go_on 0) ∷ []) ≡ none ∷ told 1 4 ∷ none ∷ []
  -- an own INIT drops it, and starts a transaction of its own
  pub own-init : answers (having 2) (at 0 begin60 ∷ at 1 (init_on (on 1)) ∷ at 2 (go_on 0) ∷ []) ≡ none ∷ welcome 1 (on 1) ∷ none ∷ []
  pub own-init-60 : answers (having 2) (at 0 begin118 ∷ at 50 (on 1 ++ (0x86 ∷ 0 ∷ 60 ∷ [])) ∷ at 149 (go_on 0) ∷ []) ≡ none ∷ none ∷ told 1 3 ∷ []
  pub own-init-7610 : answers (having 2) (at 0 begin60 ∷ at 1 (on 1 ++ (0x86 ∷ 0x1d ∷ 0xba ∷ [])) ∷ at 2 (go_on 0) ∷ []) ≡ none ∷ told 1 3 ∷ none ∷ []
  -- a declared length above the maximum is asked last: an own first packet is out of sequence, and another channel's meets a busy device
  pub long-last : answers (having 2) (at 0 begin60 ∷ at 1 (on 2 ++ (0x81 ∷ 0x1d ∷ 0xba ∷ [])) ∷ at 2 (on 1 ++ (0x81 ∷ 0x1d ∷ 0xba ∷ [])) ∷ []) ≡ none ∷ told 2 6 ∷ told 1 4 ∷ []
  pub long-late : answers (having 2) (at 0 begin60 ∷ at 100 (on 1 ++ (0x81 ∷ 0x1d ∷ 0xba ∷ [])) ∷ at 101 (go_on 0) ∷ []) ≡ none ∷ told 1 3 ∷ none ∷ []
  -- a continuation with nothing before it
  pub no-first : answers (having 2) (at 0 (go_on 0) ∷ at 0 (go_on 1) ∷ []) ≡ none ∷ none ∷ []
  -- a broadcast INIT declared 60 blocks all others for 100 ms, and its continuation gets nothing
  pub blocks : answers (having 2) (at 0 (everywhere ++ (0x86 ∷ 0 ∷ 60 ∷ [])) ∷ at 99 (ping_on 1) ∷ at 99 everywhere ∷ at 100 (ping_on 1) ∷ [])
      ≡ none ∷ told 1 6 ∷ none ∷ echo 1 ∷ []
  -- continuations still due: none at set-up, and after a first packet those of its declared length: of 0, 57, 58, 116, 117, 7,609 and 7,610 bytes
  pub due-none : due (set_up full) [] ≡ 0
  pub due-first : map (λ (n : List ℕ). due (having 2) (at 0 (on 1 ++ (0x81 ∷ n)) ∷ []))
      ((0 ∷ 0 ∷ []) ∷ (0 ∷ 57 ∷ []) ∷ (0 ∷ 58 ∷ []) ∷ (0 ∷ 116 ∷ []) ∷ (0 ∷ 117 ∷ []) ∷ (0x1d ∷ 0xb9 ∷ []) ∷ (0x1d ∷ 0xba ∷ []) ∷ [])
      ≡ 0 ∷ 0 ∷ 1 ∷ 1 ∷ 2 ∷ 128 ∷ 0 ∷ []
  -- one fewer with each that is taken, until the message is whole
  pub due-down : dues (having 2) (at 0 begin118 ∷ at 1 (go_on 0) ∷ at 2 (go_on 1) ∷ at 3 (go_on 2) ∷ []) ≡ 2 ∷ 1 ∷ 0 ∷ 0 ∷ []
  -- as many while others are answered, on channels that are valid or not, and while disabled
  pub due-stays : dues (having 2)
      (at 0 begin118 ∷ at 1 (ping_on 2) ∷ at 1 (on 2) ∷ at 1 (init_on everywhere) ∷ at 1 (ping_on 3) ∷ at 1 (on 3) ∷ shut_at 1 (go_on 0) ∷ at 2 (go_on 0) ∷ at 3 (ping_on 2) ∷ [])
      ≡ 2 ∷ 2 ∷ 2 ∷ 2 ∷ 2 ∷ 2 ∷ 2 ∷ 1 ∷ 1 ∷ []
  -- none when it is dropped: by a wrong number, an own first packet, an own INIT; by one of 60 bytes as many as that needs
  pub due-dropped : map (λ (front : List ℕ). due (having 2) (at 0 begin118 ∷ at 1 front ∷ [])) (go_on 1 ∷ ping_on 1 ∷ init_on (on 1) ∷ (on 1 ++ (0x86 ∷ 0 ∷ 60 ∷ [])) ∷ [])
      ≡ 0 ∷ 0 ∷ 0 ∷ 1 ∷ []
  -- past the deadline as many until check 3 drops it, which a packet does not get to while disabled, on a channel that isn't valid, or against a lock
  pub due-late : dues (having 2) (at 0 begin118 ∷ shut_at 100 (go_on 0) ∷ shut_at 101 (ping_on 2) ∷ at 102 (ping_on 3) ∷ at 103 (on 3) ∷ at 104 (on 2) ∷ []) ≡ 2 ∷ 2 ∷ 2 ∷ 2 ∷ 2 ∷ 0 ∷ []
  pub due-late-locked : dues (having 2) (at 0 (lock_of 1) ∷ at 1 begin118 ∷ at 101 (ping_on 2) ∷ at 102 (go_on 0) ∷ []) ≡ 0 ∷ 2 ∷ 2 ∷ 0 ∷ []
  pub due-anew : dues (having 2) (at 0 begin118 ∷ at 100 (on 2 ++ (0x90 ∷ 0 ∷ 60 ∷ [])) ∷ []) ≡ 2 ∷ 1 ∷ []
  -- CANCEL gets nothing; KEEPALIVE, ERROR and an unknown command get InvalidCmd
  pub no-requests : answers (having 2) (at 0 (on 1 ++ (0x91 ∷ [])) ∷ at 0 (on 1 ++ (0xbb ∷ [])) ∷ at 0 (on 1 ++ (0xbf ∷ [])) ∷ at 0 (on 1 ++ (0x82 ∷ [])) ∷ [])
      ≡ none ∷ told 1 1 ∷ told 1 1 ∷ told 1 1 ∷ []
  -- the commands that are known: without a list, and with 64 and 127 on it
  pub known-commands : (known full (up_from 0 128) ≡ 1 ∷ 3 ∷ 4 ∷ 6 ∷ 8 ∷ 16 ∷ 17 ∷ [])
      × (known branded.transport.settings (up_from 0 128) ≡ 1 ∷ 3 ∷ 4 ∷ 6 ∷ 8 ∷ 16 ∷ 17 ∷ 64 ∷ 127 ∷ [])
  -- 129 packets of another command: InvalidCmd to the first, nothing to each of the others. The same under one's own lock, which stays, and after a transaction timed out
  pub unknown-at-once : answers (having 2) (unknown129 0) ≡ told 1 1 ∷ replicate 128 none
  pub unknown-locked : answers (having 2) (at 0 (lock_of 1) ∷ (unknown129 1 ++ (at 999 (ping_on 2) ∷ []))) ≡ locks ∷ told 1 1 ∷ (replicate 128 none ++ (told 2 6 ∷ []))
  pub unknown-late : answers (having 2) (at 0 begin60 ∷ unknown129 100) ≡ none ∷ told 1 1 ∷ replicate 128 none
  -- it begins no transaction: nothing is due, and another channel is served
  pub unknown-begins-none : (dues (having 2) (at 0 (opens 0x82 0 60) ∷ []) ≡ 0 ∷ []) × (answers (having 2) (at 0 (opens 0x82 0 60) ∷ at 1 (ping_on 2) ∷ []) ≡ told 1 1 ∷ echo 2 ∷ [])
  -- inside a transaction of its channel: InvalidSeq, and that one is dropped. Inside another's: ChannelBusy, and that one goes on
  pub unknown-inside : answers (having 2) (at 0 begin60 ∷ at 1 (opens 0x82 0 60) ∷ at 2 (go_on 0) ∷ []) ≡ none ∷ told 1 4 ∷ none ∷ []
  pub unknown-beside : answers (having 2) (at 0 begin60 ∷ at 1 (on 2 ++ (0x82 ∷ 0 ∷ 60 ∷ [])) ∷ at 2 (go_on 0) ∷ []) ≡ none ∷ told 2 6 ∷ done60 ∷ []
  -- before its length is: 7,610 bytes, and one above a maximum of 100. KEEPALIVE and ERROR, and of the vendor's 65, are such commands
  pub unknown-long : (answers (having 2) (at 0 (opens 0x82 0x1d 0xba) ∷ []) ≡ told 1 1 ∷ []) × (answers small (at 0 (opens 0x82 0 101) ∷ []) ≡ told 1 1 ∷ [])
  pub unknown-others : map (λ (b : ℕ). answers branded (at 0 (opens b 0 60) ∷ at 1 (go_on 0) ∷ [])) (0xbb ∷ 0xbf ∷ 0xc1 ∷ [])
      ≡ (told 1 1 ∷ none ∷ []) ∷ (told 1 1 ∷ none ∷ []) ∷ (told 1 1 ∷ none ∷ []) ∷ []
  -- behind checks 1 and 2: on broadcast, on channel 3, disabled, and against another's lock
  pub unknown-turned-away : answers (having 2)
      (at 0 (everywhere ++ (0x82 ∷ 0 ∷ 60 ∷ [])) ∷ at 0 (on 3 ++ (0x82 ∷ 0 ∷ 60 ∷ [])) ∷ shut_at 0 (opens 0x82 0 60) ∷ at 0 (lock_of 1) ∷ at 1 (on 2 ++ (0x82 ∷ 0 ∷ 60 ∷ [])) ∷ [])
      ≡ told 0xffff_ffff 11 ∷ told 3 11 ∷ told 1 6 ∷ locks ∷ told 2 6 ∷ []
  -- CANCEL of 60 bytes is known, and gets nothing when it is whole; MSG without U2F is known, and is told InvalidCmd when it is whole
  pub cancel-60 : answers (having 2) (at 0 (opens 0x91 0 60) ∷ at 1 (ping_on 2) ∷ at 2 (go_on 0) ∷ at 3 (ping_on 2) ∷ []) ≡ none ∷ told 2 6 ∷ none ∷ echo 2 ∷ []
  pub msg-out-60 : answers without (at 0 (opens 0x83 0 60) ∷ at 1 (ping_on 2) ∷ at 2 (go_on 0) ∷ []) ≡ none ∷ told 2 6 ∷ told 1 1 ∷ []
  -- a transaction of such a command that a caller's state brings along is told so when it is whole
  pub unknown-brought : answers brought (at 98 (ping_on 2) ∷ at 99 (go_on 0) ∷ []) ≡ told 2 6 ∷ told 1 1 ∷ []
  -- with 64 and 127 allowed: both are handed out, of any length; 65 gets InvalidCmd, as each does where none is allowed
  pub vendor-out : answers branded (at 0 (on 1 ++ (0xc0 ∷ 0 ∷ 1 ∷ 9 ∷ [])) ∷ at 0 (on 2 ++ (0xff ∷ [])) ∷ at 0 (on 1 ++ (0xc1 ∷ 0 ∷ 1 ∷ 9 ∷ [])) ∷ [])
      ≡ hands 1 64 (9 ∷ []) ∷ hands 2 127 [] ∷ told 1 1 ∷ []
  pub vendor-60 : answers branded (at 0 (on 1 ++ (0xff ∷ 0 ∷ 60 ∷ replicate 57 7)) ∷ at 99 (go_on 0) ∷ []) ≡ none ∷ hands 1 127 (replicate 57 7 ++ (8 ∷ 9 ∷ 10 ∷ [])) ∷ []
  pub vendor-none : answers (having 2) (at 0 (on 1 ++ (0xc0 ∷ [])) ∷ at 0 (on 1 ++ (0xff ∷ [])) ∷ []) ≡ told 1 1 ∷ told 1 1 ∷ []
  -- on the broadcast channel, and on one that isn't allocated: InvalidChannel
  pub vendor-nowhere : answers branded (at 0 (everywhere ++ (0xc0 ∷ [])) ∷ at 0 (on 3 ++ (0xc0 ∷ [])) ∷ []) ≡ told 0xffff_ffff 11 ∷ told 3 11 ∷ []
  -- MSG and CBOR are handed out; without U2F, MSG gets InvalidCmd, and INIT tells capabilities 13
  pub msg-in : answers (having 2) (at 0 (on 1 ++ (0x83 ∷ 0 ∷ 1 ∷ 9 ∷ [])) ∷ []) ≡ hands 1 3 (9 ∷ []) ∷ []
  pub msg-out : answers without (at 0 (on 1 ++ (0x83 ∷ 0 ∷ 1 ∷ 9 ∷ [])) ∷ at 0 (on 1 ++ (0x90 ∷ 0 ∷ 1 ∷ 9 ∷ [])) ∷ []) ≡ told 1 1 ∷ hands 1 16 (9 ∷ []) ∷ []
  pub init-out : answers without (at 0 (init_on (on 1)) ∷ []) ≡ sends 1 6 (nonce ++ (0 ∷ 0 ∷ 0 ∷ 1 ∷ 2 ∷ 1 ∷ 0 ∷ 0 ∷ 13 ∷ [])) ∷ []
  -- the transport alone hands MSG and WINK out, of any length
  pub transport-run : map shown (run (transport_of full 2)
      (at 0 (on 1 ++ (0x83 ∷ 0 ∷ 1 ∷ 9 ∷ [])) ∷ at 0 (on 1 ++ (0x88 ∷ 0 ∷ 1 ∷ 9 ∷ [])) ∷ at 0 (lock_of 1) ∷ at 1 (ping_on 2) ∷ []))
      ≡ hands 1 3 (9 ∷ []) ∷ hands 1 8 (9 ∷ []) ∷ locks ∷ told 2 6 ∷ []
  -- an empty WINK is echoed and runs until 5,000 ms after it, not at that time. WINK with data: InvalidLen, and none runs
  pub wink-echoed : answers (having 2) (at 3 wink_on1 ∷ []) ≡ winks ∷ []
  pub wink-5003 : (is_winking (left (having 2) (at 3 wink_on1 ∷ [])) 5002 ≡ true) × (is_winking (left (having 2) (at 3 wink_on1 ∷ [])) 5003 ≡ false)
  pub wink-1 : answers (having 2) (at 0 (on 1 ++ (0x88 ∷ 0 ∷ 1 ∷ [])) ∷ []) ≡ told 1 3 ∷ []
  pub wink-not-yet : is_winking (set_up full) 0 ≡ false
  -- what ends a wink: any message or reply, error replies included; and what does not: nothing
  pub wink-ended : map (λ (front : List ℕ). is_winking (left (having 2) (at 0 wink_on1 ∷ at 0 front ∷ [])) 0)
      (ping_on 1 ∷ ping_on 9 ∷ lock_of 11 ∷ init_on everywhere ∷ (on 1 ++ (0x88 ∷ 0 ∷ 1 ∷ [])) ∷ (on 1 ++ (0x83 ∷ [])) ∷ (on 1 ++ (0x90 ∷ [])) ∷ (on 1 ++ (0x82 ∷ [])) ∷ [])
      ≡ false ∷ false ∷ false ∷ false ∷ false ∷ false ∷ false ∷ false ∷ []
  pub wink-ended-vendor : map (λ (n : ℕ). is_winking (left branded (at 0 wink_on1 ∷ at 0 (on 1 ++ (n ∷ [])) ∷ [])) 0) (0xc0 ∷ 0xc1 ∷ []) ≡ false ∷ false ∷ []
  pub wink-ended-out : is_winking (left without (at 0 wink_on1 ∷ at 0 (on 1 ++ (0x83 ∷ [])) ∷ [])) 0 ≡ false
  pub wink-stays : map (λ (front : List ℕ). is_winking (left (having 2) (at 0 wink_on1 ∷ at 1 front ∷ [])) 2)
      (begin60 ∷ go_on 0 ∷ (on 1 ++ (0x91 ∷ [])) ∷ wink_on1 ∷ [])
      ≡ true ∷ true ∷ true ∷ true ∷ []
  -- each update alters one part
  pub parts : (d : Transport) (n : ℕ) (l : Lock) (r : Receiver)
      → ((with_allocated d n).settings ≡ d.settings) × ((with_allocated d n).lock ≡ d.lock) × ((with_allocated d n).receiver ≡ d.receiver) × ((with_allocated d n).allocated ≡ n)
      × ((with_lock d l).settings ≡ d.settings) × ((with_lock d l).allocated ≡ d.allocated) × ((with_lock d l).receiver ≡ d.receiver) × ((with_lock d l).lock ≡ l)
      × ((with_receiver d r).settings ≡ d.settings) × ((with_receiver d r).allocated ≡ d.allocated) × ((with_receiver d r).lock ≡ d.lock) × ((with_receiver d r).receiver ≡ r)
