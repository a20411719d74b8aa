-- Small cases of a wait for a touch, as one table. Channel 1 of interface 1 waits from time 0 on, with a limit of 100 ms. Packets are bytes: those that come
-- without the zeros that fill them up, those that are sent by their first 8. Numbers are bare here. Assumes nothing.
use Rattle.std.specs.Prelude.{ℕ, ◌-◌, ◌≡◌, length, take, replicate}
use mathlib.Core.List.{List, [], ◌∷◌, ◌++◌, map, flatten}
use Rattle.ctaphid.specs.Commands.{number}
use Rattle.ctaphid.specs.Messages.{wire}
use Rattle.ctaphid.specs.Touch.{place, begun, Arrival, none, packet, Sensor, touch, timeout, error, Message, Ending, not_yet as goes_on, touched, cancelled, timed_out, failed, Response, touch_step}

-- a packet of 64 bytes
abbrev pub filled : List ℕ → List ℕ
filled front = front ++ replicate (64 - length front) 0

-- an interface, and the first 8 bytes of a packet that is sent there
abbrev pub packets_of : Message → List (ℕ × List ℕ)
packets_of m = map (λ p. (m.to.interface, take 8 p)) (wire m.to.channel (number m.command) m.payload)

-- what a step sends, and how it ends the wait
abbrev pub shown : Response → List (ℕ × List ℕ) × Ending
shown r = (flatten (map packets_of r.sent), r.ending)

abbrev pub stepped : (time : ℕ) → Arrival → Sensor → List (ℕ × List ℕ) × Ending
stepped time a s = shown (touch_step (begun (place 1 1) 0 100) (record { time = time; arrival = a; sensor = s }))

-- PING on channel 2
abbrev pub ping-2 : List ℕ
ping-2 = filled (0 ∷ 0 ∷ 0 ∷ 2 ∷ 0x81 ∷ [])

-- on channel 1: CANCEL of 0 and of 65,535 bytes, INIT, and a continuation with number 11
abbrev pub cancel-1 : List ℕ
cancel-1 = filled (0 ∷ 0 ∷ 0 ∷ 1 ∷ 0x91 ∷ [])

abbrev pub cancel-long : List ℕ
cancel-long = filled (0 ∷ 0 ∷ 0 ∷ 1 ∷ 0x91 ∷ 0xff ∷ 0xff ∷ [])

abbrev pub init-1 : List ℕ
init-1 = filled (0 ∷ 0 ∷ 0 ∷ 1 ∷ 0x86 ∷ 0 ∷ 8 ∷ [])

abbrev pub later-11 : List ℕ
later-11 = filled (0 ∷ 0 ∷ 0 ∷ 1 ∷ 0x11 ∷ [])

-- CANCEL on broadcast
abbrev pub cancel-all : List ℕ
cancel-all = filled (0xff ∷ 0xff ∷ 0xff ∷ 0xff ∷ 0x91 ∷ [])

-- a KEEPALIVE with 2 on channel 1, and a busy error on channel 2
abbrev pub alive-1 : List ℕ
alive-1 = 0 ∷ 0 ∷ 0 ∷ 1 ∷ 0xbb ∷ 0 ∷ 1 ∷ 2 ∷ []

abbrev pub busy-2 : List ℕ
busy-2 = 0 ∷ 0 ∷ 0 ∷ 2 ∷ 0xbf ∷ 0 ∷ 1 ∷ 6 ∷ []

pub record WaitRows : Type 0 where
  -- nothing came: the sensor's word alone
  pub not_yet : stepped 0 none timeout ≡ ((1, alive-1) ∷ [], goes_on)
  pub a_touch : stepped 0 none touch ≡ ([], touched)
  pub an-error : stepped 0 none (error 39) ≡ ([], failed 39)
  -- another channel is told busy, whatever the sensor said, and before the KEEPALIVE
  pub busy-first : stepped 0 (packet 1 ping-2) timeout ≡ ((1, busy-2) ∷ (1, alive-1) ∷ [], goes_on)
  pub busy-at-touch : stepped 0 (packet 1 ping-2) touch ≡ ((1, busy-2) ∷ [], touched)
  pub busy-at-error : stepped 0 (packet 1 ping-2) (error 39) ≡ ((1, busy-2) ∷ [], failed 39)
  -- CANCEL goes before a touch and sends nothing, whatever its length
  pub cancel-first : stepped 0 (packet 1 cancel-1) touch ≡ ([], cancelled)
  pub cancel-silent : stepped 0 (packet 1 cancel-1) timeout ≡ ([], cancelled)
  pub cancel-any : stepped 0 (packet 1 cancel-long) (error 39) ≡ ([], cancelled)
  -- the same number on another interface is another channel, and so is broadcast
  pub elsewhere : stepped 0 (packet 2 cancel-1) timeout ≡ ((2, 0 ∷ 0 ∷ 0 ∷ 1 ∷ 0xbf ∷ 0 ∷ 1 ∷ 6 ∷ []) ∷ (1, alive-1) ∷ [], goes_on)
  pub broadcast : stepped 0 (packet 1 cancel-all) touch ≡ ((1, 0xff ∷ 0xff ∷ 0xff ∷ 0xff ∷ 0xbf ∷ 0 ∷ 1 ∷ 6 ∷ []) ∷ [], touched)
  -- what else comes on the channel that waits is dropped: INIT, and a continuation with the number of CANCEL
  pub init-dropped : stepped 0 (packet 1 init-1) timeout ≡ ((1, alive-1) ∷ [], goes_on)
  pub no-cancel : stepped 0 (packet 1 later-11) touch ≡ ([], touched)
  -- the limit: at 99 ms the wait is on; at 100 it is over, and nothing is looked at
  pub last : stepped 99 (packet 1 ping-2) touch ≡ ((1, busy-2) ∷ [], touched)
  pub over : stepped 100 (packet 1 ping-2) touch ≡ ([], timed_out)
  pub over-at-cancel : stepped 100 (packet 1 cancel-1) timeout ≡ ([], timed_out)
