-- §11.2.5: the receiving side. A transaction holds the bytes that it has collected, and a message that is whole holds its payload. Assumes nothing.
use Rattle.std.specs.Prelude.{ℕ, ◌+◌, ◌-◌, List, [], ◌++◌, Bool, false, length, take, ltb, leb, eqb}
use Rattle.ctaphid.specs.Choice.{pick}
use Rattle.ctaphid.specs.Packets.{Packet, initialization, continuation}
use Rattle.ctaphid.specs.Messages.{count}
use Rattle.ctaphid.specs.Commands.{INIT, number, command_of}
use Rattle.ctaphid.specs.Errors.{Error, InvalidCmd, InvalidLen, InvalidSeq, MsgTimeout, ChannelBusy}
use Rattle.ctaphid.specs.Limits.{timeout}
use Rattle.ctaphid.specs.Settings.{Settings, knows}

-- what its initialization packet said, the bytes collected so far, the sequence number that is due, and the time at which it is over
pub record Transaction : Type 0 where
  pub channel : ℕ
  pub command : ℕ
  pub declared : ℕ
  pub collected : List ℕ
  pub due : ℕ
  pub deadline : ℕ

-- §11.2.5.1
pub data Receiver : Type 0 where
  idle : Receiver
  busy : Transaction → Receiver

-- what a packet brings about: nothing to say yet, an error on the packet's channel, or a whole message
pub data Reception : Type 0 where
  silent : Reception
  fault : Error → Reception
  whole : (channel command : ℕ) (payload : List ℕ) → Reception

pub record Turn : Type 0 where
  pub receiver : Receiver
  pub reception : Reception

abbrev pub turn : Receiver → Reception → Turn
turn r b = record { receiver = r; reception = b }

abbrev pub channel_of : Packet → ℕ
channel_of (initialization c cmd n field) = c
channel_of (continuation c k field) = c

-- §11.2.5.4: data fields are put together until all is there, which is as much as was declared. For the device and the host alike
abbrev pub put_together : {A : Type 0} → (declared : ℕ) → (bytes : List ℕ) → (more : A) → (all : List ℕ → A) → A
put_together declared bytes more all = pick (ltb (length bytes) declared) more (all (take declared bytes))

-- until all is there nothing is said
unfoldable pub collect : Transaction → List ℕ → Turn
collect t field =
    put_together t.declared (t.collected ++ field)
    (turn (busy (record {
      channel = t.channel;
      command = t.command;
      declared = t.declared;
      collected = t.collected ++ field;
      due = t.due;
      deadline = t.deadline;
    })) silent)
    (λ payload. turn idle (whole t.channel t.command payload))

-- §11.2.4: an initialization packet starts a transaction, and the first sequence number is 0. A declared length above the maximum is an error (DIFFERENCES 6)
unfoldable pub start_known : (maximum time channel command declared : ℕ) → List ℕ → Turn
start_known max time c cmd n field =
    pick (ltb max n)
    (turn idle (fault InvalidLen))
    (collect (record { channel = c; command = cmd; declared = n; collected = []; due = 0; deadline = time + timeout }) field)

-- §11.2.9.1.6: but a command that the device doesn't know is told so, at once and whatever its length, and starts none (DIFFERENCES 21)
unfoldable pub start : Settings → (time channel command declared : ℕ) → List ℕ → Turn
start set time c cmd n field =
    pick (knows set (command_of cmd)) (start_known set.maximum time c cmd n field) (turn idle (fault InvalidCmd))

-- §11.2.5.4: a continuation packet with no initialization packet before it is ignored
unfoldable pub when_idle : Settings → (time : ℕ) → Packet → Turn
when_idle set time (initialization c cmd n field) = start set time c cmd n field
when_idle set time (continuation c k field) = turn idle silent

-- §11.2.5.2: the time is over, the transaction with it, and the device is idle again. That its channel's continuation packet is told so, if it is the
-- first to come, is DIFFERENCES 7
unfoldable pub when_over : Settings → (time : ℕ) → Transaction → Packet → Turn
when_over set time t (initialization c cmd n field) = when_idle set time (initialization c cmd n field)
when_over set time t (continuation c k field) =
    pick (eqb c t.channel) (turn idle (fault MsgTimeout)) (when_idle set time (continuation c k field))

-- a packet on the transaction's own channel. §11.2.5.3: INIT aborts the transaction and starts anew. Any other initialization packet aborts it with an error
-- (DIFFERENCES 8, and 9 for CANCEL). §11.2.5.4: continuation packets come in ascending order; another number aborts with an error (DIFFERENCES 10), and the
-- right one gives the transaction its time anew (DIFFERENCES 2)
unfoldable pub on_own : Settings → (time : ℕ) → Transaction → Packet → Turn
on_own set time t (initialization c cmd n field) =
    pick (eqb cmd (number INIT)) (start set time c cmd n field) (turn idle (fault InvalidSeq))
on_own set time t (continuation c k field) =
    pick (eqb k t.due)
    (collect (record {
      channel = t.channel;
      command = t.command;
      declared = t.declared;
      collected = t.collected;
      due = t.due + 1;
      deadline = time + timeout;
    }) field)
    (turn idle (fault InvalidSeq))

-- §11.2.5.1: while a transaction is on, any other channel is told that the device is busy, and nothing alters. To continuation packets, CANCEL and INIT too:
-- DIFFERENCES 11, 9 and 16
unfoldable pub when_busy : Settings → (time : ℕ) → Transaction → Packet → Turn
when_busy set time t p =
    pick (eqb (channel_of p) t.channel) (on_own set time t p) (turn (busy t) (fault ChannelBusy))

-- a packet. The transaction is on until its deadline; a message that is whole ends it, and not the response to it: DIFFERENCES 12
unfoldable pub receive : Settings → (time : ℕ) → Receiver → Packet → Turn
receive set time idle p = when_idle set time p
receive set time (busy t) p = pick (leb t.deadline time) (when_over set time t p) (when_busy set time t p)

-- whether a transaction of channel c is on at a time
unfoldable pub is_on : Receiver → (channel time : ℕ) → Bool
is_on idle c time = false
is_on (busy t) c time = pick (eqb t.channel c) (ltb time t.deadline) false

-- how many continuation packets a transaction still needs: the packets of its declared length (§11.2.4), less those taken, which are the initialization packet and
-- the continuation packets before the one that is due. Without a transaction it is 0. One whose time is over keeps its number until a packet drops it (DECISIONS 45)
abbrev pub still_due : Receiver → ℕ
still_due idle = 0
still_due (busy t) = count 57 59 t.declared - (1 + t.due)
