-- The transport: channels, lock and the commands that it serves itself (§11.2.3, §11.2.5, §11.2.6, §11.2.9). Checks 1 to 7 of docs/RULES.md. Assumes nothing.
use Rattle.std.specs.Prelude.{ℕ, ◌+◌, ◌*◌, List, [], ◌∷◌, ◌++◌, Bool, true, false, not, length, get_or, ltb, leb, eqb}
use Rattle.ctaphid.specs.Choice.{pick}
use Rattle.ctaphid.specs.Packets.{Packet, initialization, continuation, read, four}
use Rattle.ctaphid.specs.Commands.{Command, MSG, CBOR, INIT, PING, CANCEL, ERROR, KEEPALIVE, WINK, LOCK, VENDOR, number, command_of}
use Rattle.ctaphid.specs.Errors.{Error, InvalidCmd, InvalidPar, InvalidLen, ChannelBusy, InvalidChannel, code}
use Rattle.ctaphid.specs.Capabilities.{capabilities}
use Rattle.ctaphid.specs.Settings.{Settings, knows}
use Rattle.ctaphid.specs.Receiver.{Receiver, idle, Reception, silent, fault, whole, Turn, channel_of, receive}

-- §11.2.6: the channel that has locked the device, and the time from which on it no longer has
pub record Lock : Type 0 where
  pub holder : ℕ
  pub until : ℕ

-- nobody's lock
abbrev pub free : Lock
free = record { holder = 0; until = 0 }

-- channels 1 up to `allocated` are allocated: DIFFERENCES 13
pub record Transport : Type 0 where
  pub settings : Settings
  pub allocated : ℕ
  pub lock : Lock
  pub receiver : Receiver

abbrev pub fresh : Settings → Transport
fresh set = record { settings = set; allocated = 0; lock = free; receiver = idle }

-- a packet arrives at a time, with the transport disabled or not
pub record Event : Type 0 where
  pub time : ℕ
  pub disabled : Bool
  pub packet : List ℕ

-- nothing, a message to be sent, or a message that is handed out
pub data Answer : Type 0 where
  nothing : Answer
  reply : (channel : ℕ) (command : Command) (payload : List ℕ) → Answer
  request : (channel : ℕ) (command : Command) (payload : List ℕ) → Answer

-- what a step leads to
pub record Next (S : Type 0) : Type 0 where
  pub state : S
  pub answer : Answer

abbrev pub next : {S : Type 0} → S → Answer → Next S
next s a = record { state = s; answer = a }

-- §11.2.9.1.6
abbrev pub error : (channel : ℕ) → Error → Answer
error c e = reply c ERROR (code e ∷ [])

-- ---- channels (§11.2.3)

abbrev pub broadcast : ℕ
broadcast = 0xffff_ffff

unfoldable pub is_allocated : (allocated channel : ℕ) → Bool
is_allocated allocated c = pick (leb 1 c) (leb c allocated) false

-- §11.2.3: the broadcast channel is there to allocate others, by INIT
unfoldable pub is_valid : (allocated : ℕ) → Packet → Bool
is_valid allocated (initialization c cmd n field) = pick (eqb c broadcast) (eqb cmd (number INIT)) (is_allocated allocated c)
is_valid allocated (continuation c k field) = pick (eqb c broadcast) false (is_allocated allocated c)

-- a packet on a channel that isn't valid: DIFFERENCES 14
abbrev pub not_valid : Packet → Answer
not_valid (initialization c cmd n field) = error c InvalidChannel
not_valid (continuation c k field) = nothing

-- ---- lock (§11.2.6)

-- whether a lock runs, and whether it is this channel's or another's
abbrev pub is_locked : Lock → (time : ℕ) → Bool
is_locked l time = ltb time l.until

unfoldable pub is_locked_by : Lock → (channel time : ℕ) → Bool
is_locked_by l c time = pick (is_locked l time) (eqb l.holder c) false

unfoldable pub is_locked_against : Lock → (channel time : ℕ) → Bool
is_locked_against l c time = pick (is_locked l time) (not (eqb l.holder c)) false

-- §11.2.6: while another channel's lock runs, a channel can't communicate, nor get a channel or cancel (DIFFERENCES 16 and 9). A transport that is disabled
-- answers the same: DIFFERENCES 15
unfoldable pub is_shut : Lock → (time : ℕ) → (disabled : Bool) → (channel : ℕ) → Bool
is_shut l time disabled c = pick disabled true (is_locked_against l c time)

-- ---- commands (§11.2.9)

-- §11.2.9.1.3 leaves the allocation to the device: DIFFERENCES 13
unfoldable pub next_channel : ℕ → ℕ
next_channel allocated = pick (eqb allocated 0xffff_fffe) 1 (allocated + 1)

-- §11.2.9.1.3: the nonce, the channel, protocol version 2, device version 1.0.0 and the capabilities
abbrev pub init_reply : (nonce : List ℕ) → (channel : ℕ) → Settings → List ℕ
init_reply nonce c set = nonce ++ (four c ++ (2 ∷ 1 ∷ 0 ∷ 0 ∷ capabilities set.u2f ∷ []))

abbrev pub with_allocated : Transport → ℕ → Transport
with_allocated d n = record { settings = d.settings; allocated = n; lock = d.lock; receiver = d.receiver }

-- §11.2.9.1.3: 8 bytes, told when it is whole (DIFFERENCES 16). On the broadcast channel a channel is allocated; elsewhere the channel stays, and so does its lock (DIFFERENCES 17)
unfoldable pub on_init : Transport → (channel : ℕ) → List ℕ → Next Transport
on_init d c nonce =
    pick (eqb (length nonce) 8)
    (pick (eqb c broadcast)
    (next (with_allocated d (next_channel d.allocated)) (reply c INIT (init_reply nonce (next_channel d.allocated) d.settings)))
    (next d (reply c INIT (init_reply nonce c d.settings))))
    (next d (error c InvalidLen))

abbrev pub with_lock : Transport → Lock → Transport
with_lock d l = record { settings = d.settings; allocated = d.allocated; lock = l; receiver = d.receiver }

-- §11.2.9.2.2: seconds, of which 0 releases the lock at once
unfoldable pub lock_for : (time channel seconds : ℕ) → Lock
lock_for time c seconds = pick (eqb seconds 0) free (record { holder = c; until = time + 1000 * seconds })

-- §11.2.9.2.2: 1 byte, 0 to 10, no data in the reply. What else: DIFFERENCES 18
unfoldable pub on_lock : Transport → (time channel : ℕ) → List ℕ → Next Transport
on_lock d time c payload =
    pick (eqb (length payload) 1)
    (pick (ltb 10 (get_or payload 0 0))
    (next d (error c InvalidPar))
    (next (with_lock d (lock_for time c (get_or payload 0 0))) (reply c LOCK [])))
    (next d (error c InvalidLen))

-- what it does with one that it knows, which ERROR and KEEPALIVE never are. §11.2.9.1: PING is answered with the same data, CANCEL never (DIFFERENCES 19). MSG,
-- CBOR and WINK are handed out, of any length (DIFFERENCES 20), and so are the vendor's, whose data is not the standard's
unfoldable pub obey : Transport → (time channel : ℕ) → Command → List ℕ → Next Transport
obey d time c MSG payload = next d (request c MSG payload)
obey d time c CBOR payload = next d (request c CBOR payload)
obey d time c INIT payload = on_init d c payload
obey d time c PING payload = next d (reply c PING payload)
obey d time c CANCEL payload = next d nothing
obey d time c ERROR payload = next d nothing
obey d time c KEEPALIVE payload = next d nothing
obey d time c WINK payload = next d (request c WINK payload)
obey d time c LOCK payload = on_lock d time c payload
obey d time c (VENDOR n) payload = next d (request c (VENDOR n) payload)

-- §11.2.9.1.6: a command that it doesn't know is told so. The receiver starts no such message (`start`): one comes here only from a transaction that was there already
unfoldable pub dispatch : Transport → (time channel : ℕ) → Command → List ℕ → Next Transport
dispatch d time c cmd payload = pick (knows d.settings cmd) (obey d time c cmd payload) (next d (error c InvalidCmd))

-- ---- a step

abbrev pub with_receiver : Transport → Receiver → Transport
with_receiver d r = record { settings = d.settings; allocated = d.allocated; lock = d.lock; receiver = r }

-- what the receiver makes of a packet of channel c
unfoldable pub settle : Transport → (time channel : ℕ) → Reception → Next Transport
settle d time c silent = next d nothing
settle d time c (fault e) = next d (error c e)
settle d time c (whole own cmd payload) = dispatch d time own (command_of cmd) payload

abbrev pub settled : Transport → (time channel : ℕ) → Turn → Next Transport
settled d time c t = settle (with_receiver d t.receiver) time c t.reception

-- checks 3 to 7
abbrev pub serve : Transport → (time : ℕ) → Packet → Next Transport
serve d time p = settled d time (channel_of p) (receive d.settings time d.receiver p)

-- checks 1 to 7
unfoldable pub hear : Transport → (time : ℕ) → (disabled : Bool) → Packet → Next Transport
hear d time disabled p =
    pick (is_valid d.allocated p)
    (pick (is_shut d.lock time disabled (channel_of p)) (next d (error (channel_of p) ChannelBusy)) (serve d time p))
    (next d (not_valid p))

abbrev pub step : Transport → Event → Next Transport
step d e = hear d e.time e.disabled (read e.packet)

-- the answers of a run of steps, and the state after it
abbrev pub answers_of : {S : Type 0} → (S → Event → Next S) → S → List Event → List Answer
answers_of f s [] = []
answers_of f s (e ∷ rest) = (f s e).answer ∷ answers_of f (f s e).state rest

abbrev pub afterwards : {S : Type 0} → (S → Event → Next S) → S → List Event → S
afterwards f s [] = s
afterwards f s (e ∷ rest) = afterwards f (f s e).state rest

abbrev pub run : Transport → List Event → List Answer
run d es = answers_of step d es
