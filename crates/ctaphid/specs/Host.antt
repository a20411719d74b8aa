-- The host's side of §11.2: what a host makes of the packets that a device sends on one channel. What a host does with them is not the standard's affair:
-- the refusals, by their numbers, are ours (docs/RULES.md). Assumes nothing.
use Rattle.std.specs.Prelude.{ℕ, ◌+◌, ◌≤◌, ◌<◌, ◌^◌, ◌≡◌, List, [], ◌∷◌, ◌++◌, not, length, take, drop, get_or, ltb, eqb}
use Rattle.ctaphid.specs.Choice.{pick, refusing}
use Rattle.ctaphid.specs.Commands.{INIT, KEEPALIVE, number}
use Rattle.ctaphid.specs.Limits.{largest}
use Rattle.ctaphid.specs.Packets.{Packet, initialization, continuation, byte, channel_in, read}
use Rattle.ctaphid.specs.Messages.{wire}
use Rattle.ctaphid.specs.Readers.{told, left, lastly}
use Rattle.ctaphid.specs.Capabilities.{capabilities}
use Rattle.ctaphid.specs.Settings.{Settings}
use Rattle.ctaphid.specs.Receiver.{channel_of, put_together}
use Rattle.ctaphid.specs.Transport.{init_reply}

-- a reply that is begun: what its initialization packet said, the bytes collected so far, and the sequence number that is due
pub record Begun : Type 0 where
  pub command : ℕ
  pub declared : ℕ
  pub collected : List ℕ
  pub due : ℕ

pub data Collection : Type 0 where
  none : Collection
  collecting : Begun → Collection

-- what a packet brings about: a refusal by its number, nothing of the host's concern, a KEEPALIVE with its byte, nothing to hand out yet, or a reply.
-- Its command number is as it stands
pub data Heard : Type 0 where
  refused : (number : ℕ) → Heard
  ignored : Heard
  keepalive : (status : ℕ) → Heard
  waiting : Heard
  reply : (command : ℕ) (payload : List ℕ) → Heard

pub record Got : Type 0 where
  pub collection : Collection
  pub answer : Heard

abbrev pub got : Collection → Heard → Got
got s a = record { collection = s; answer = a }

-- ---- a step

-- §11.2.5.4: data fields are put together until all is there. Then the reply is handed out, and none is begun
unfoldable pub gather : Begun → List ℕ → Got
gather b field =
    put_together b.declared (b.collected ++ field)
    (got (collecting (record { command = b.command; declared = b.declared; collected = b.collected ++ field; due = b.due })) waiting)
    (λ payload. got none (reply b.command payload))

-- §11.2.9.1.7: a KEEPALIVE has one byte. It comes between request and response (§11.2.4), and is no part of a reply
unfoldable pub alive : (declared : ℕ) → List ℕ → Got
alive n field = refusing (λ number. got none (refused number)) ((not (eqb n 1), 10) ∷ []) (got none (keepalive (byte field 0)))

-- §11.2.4: an initialization packet begins a reply, and the first sequence number is 0. No more may be declared than 129 packets hold, or than there is room for
unfoldable pub begin : (space command declared : ℕ) → List ℕ → Got
begin space cmd n field =
    refusing (λ number. got none (refused number))
    ((ltb largest n, 10) ∷ (ltb space n, 10) ∷ [])
    (gather (record { command = cmd; declared = n; collected = []; due = 0 }) field)

-- §11.2.5.4: a continuation packet with no initialization packet before it is ignored
unfoldable pub when_none : (space : ℕ) → Packet → Got
when_none space (initialization c cmd n field) = pick (eqb cmd (number KEEPALIVE)) (alive n field) (begin space cmd n field)
when_none space (continuation c k field) = got none ignored

-- §11.2.5.4: continuation packets come in ascending order. Refusal 9: another number, or an initialization packet, of a KEEPALIVE too
unfoldable pub when_begun : Begun → Packet → Got
when_begun b (initialization c cmd n field) = got (collecting b) (refused 9)
when_begun b (continuation c k field) =
    pick (eqb k b.due)
    (gather (record { command = b.command; declared = b.declared; collected = b.collected; due = b.due + 1 }) field)
    (got (collecting b) (refused 9))

-- a packet of the host's own channel
unfoldable pub on_own : (space : ℕ) → Collection → Packet → Got
on_own space none p = when_none space p
on_own space (collecting b) p = when_begun b p

-- §11.2.3: each client has its own channel. Packets of another are ignored
unfoldable pub hear : (channel space : ℕ) → Collection → Packet → Got
hear c space s p = pick (eqb (channel_of p) c) (on_own space s p) (got s ignored)

-- packets one after another: what they are answered, and what is left
abbrev pub answers : (channel space : ℕ) → Collection → List (List ℕ) → List Heard
answers c space = told (λ s p. (hear c space s (read p)).collection) (λ s p. (hear c space s (read p)).answer)

abbrev pub after : (channel space : ℕ) → Collection → List (List ℕ) → Collection
after c space = left (λ s p. (hear c space s (read p)).collection)

-- ---- the reply to INIT

-- §11.2.9.1.3: the fields, and what follows them, of which nothing is said
pub record InitFields : Type 0 where
  pub nonce : List ℕ
  pub channel : ℕ
  pub protocol : ℕ
  pub major : ℕ
  pub minor : ℕ
  pub build : ℕ
  pub flags : ℕ
  pub rest : List ℕ

pub data InitHeard : Type 0 where
  not_init : (number : ℕ) → InitHeard
  init_fields : InitFields → InitHeard

-- §11.2.9.1.3: 8 bytes of nonce, the channel (4), protocol version, device version (3) and capabilities: 17 bytes. Later versions may add fields after these
abbrev pub init_fields_of : List ℕ → InitFields
init_fields_of payload =
    record {
      nonce = take 8 payload;
      channel = channel_in (drop 8 payload);
      protocol = byte payload 12;
      major = byte payload 13;
      minor = byte payload 14;
      build = byte payload 15;
      flags = byte payload 16;
      rest = drop 17 payload;
    }

-- §11.2.9.1.3: a host takes a longer reply too, up to what a message holds (§11.2.4). Refusal 11: no reply to INIT, fewer than 17 bytes, or more than 7,609
unfoldable pub init_of : (command : ℕ) → List ℕ → InitHeard
init_of cmd payload =
    refusing not_init
    ((not (eqb cmd (number INIT)), 11) ∷ (ltb (length payload) 17, 11) ∷ (ltb largest (length payload), 11) ∷ [])
    (init_fields (init_fields_of payload))

-- what that comes to. Numbers are bare here
pub record ReadsInit : Type 0 where
  -- 17 bytes are read alike whatever follows them, and that is handed back
  pub first-17 : (p added : List ℕ) → length p ≡ 17 → length added ≤ 7592
      → init_of 0x06 (p ++ added)
      ≡ init_fields (record { nonce = take 8 p; channel = channel_in (drop 8 p); protocol = byte p 12; major = byte p 13; minor = byte p 14; build = byte p 15; flags = byte p 16; rest = added })
  -- what a device replies is read as it was meant
  pub read_back : (nonce : List ℕ) (c : ℕ) (set : Settings) (added : List ℕ) → length nonce ≡ 8 → c < 2 ^ 32 → length added ≤ 7592
      → init_of 0x06 (init_reply nonce c set ++ added)
      ≡ init_fields (record { nonce = nonce; channel = c; protocol = 2; major = 1; minor = 0; build = 0; flags = capabilities set.u2f; rest = added })
  pub another : (cmd : ℕ) (payload : List ℕ) → (cmd ≡ 0x06 → ⊥) → init_of cmd payload ≡ not_init 11
  pub short : (payload : List ℕ) → length payload ≤ 16 → init_of 0x06 payload ≡ not_init 11
  pub long : (payload : List ℕ) → 7610 ≤ length payload → init_of 0x06 payload ≡ not_init 11

-- ---- the round trip: a message that is cut into packets, and read with none begun, is given back

-- each packet but the last waits, and the last is answered so
abbrev pub at_last : Heard → List (List ℕ) → List Heard
at_last a ps = lastly waiting a ps

-- those of these packets that are the channel's own
unfoldable pub own : (channel : ℕ) → List (List ℕ) → List (List ℕ)
own c [] = []
own c (p ∷ rest) = pick (eqb (channel_in p) c) (p ∷ own c rest) (own c rest)

-- the answers to those, and `ignored` to each of the others
unfoldable pub woven : (channel : ℕ) → List (List ℕ) → List Heard → List Heard
woven c [] told = []
woven c (p ∷ rest) told = pick (eqb (channel_in p) c) (get_or told 0 ignored ∷ woven c rest (drop 1 told)) (ignored ∷ woven c rest told)

-- a message that a device can send, and that there is room for. Numbers are bare here
pub record Sendable (c cmd : ℕ) (payload : List ℕ) (space : ℕ) : Type 0 where
  pub channel : c < 2 ^ 32
  pub command : cmd ≤ 127
  pub other : cmd ≡ 0x3b → ⊥
  pub size : length payload ≤ 7609
  pub fits : length payload ≤ space

pub record RoundTrip (c cmd : ℕ) (payload : List ℕ) (space : ℕ) : Type 0 where
  -- its packets alone
  pub given_back : answers c space none (wire c cmd payload) ≡ at_last (reply cmd payload) (wire c cmd payload)
  pub done : after c space none (wire c cmd payload) ≡ none
  -- its packets in their order, and packets of other channels before, between and after them
  pub given-back-among : (ps : List (List ℕ)) → own c ps ≡ wire c cmd payload
      → answers c space none ps ≡ woven c ps (at_last (reply cmd payload) (wire c cmd payload))
  pub done-among : (ps : List (List ℕ)) → own c ps ≡ wire c cmd payload → after c space none ps ≡ none
  -- a KEEPALIVE before it is reported with its byte, and none is begun by it
  pub reported : (status : ℕ) → answers c space none (wire c 0x3b (status ∷ [])) ≡ keepalive status ∷ []
  pub reported-none : (status : ℕ) → after c space none (wire c 0x3b (status ∷ [])) ≡ none

abbrev pub RoundTrips : Type 0
RoundTrips = (c cmd : ℕ) (payload : List ℕ) (space : ℕ) → Sendable c cmd payload space → RoundTrip c cmd payload space
