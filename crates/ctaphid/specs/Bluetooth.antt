-- CTAP 2.1, section 11.4, Bluetooth: messages in fragments. Written from memory, as the rest: no copy is at hand, so parts of the section are cited by their
-- headings. What a reader does with fragments that are wrong is not the standard's affair: the refusals, by their numbers, are ours (docs/RULES.md). Assumes nothing.
use Rattle.std.specs.Prelude.{ℕ, ◌+◌, ◌-◌, ◌*◌, ◌/◌, ◌%◌, ◌^◌, ◌≤◌, ◌<◌, ◌≡◌, Bool, false, length, get_or, ltb, leb, eqb}
use mathlib.Core.List.{List, [], ◌∷◌, ◌++◌, map, flatten}
use Rattle.ctaphid.specs.Choice.{pick, refusing, is_in}
use Rattle.ctaphid.specs.Messages.{chunks, framed}
use Rattle.ctaphid.specs.Readers.{told, left, lastly}
use Rattle.ctaphid.specs.Receiver.{put_together}
use Rattle.ctaphid.specs.Host.{Begun, Collection, none, collecting}

-- ---- numbers

-- §11.4, 'Framing fragmentation': the size of a fragment, 20 to 512 bytes, is the link's
abbrev pub smallest_fragment : ℕ
smallest_fragment = 20

abbrev pub largest_fragment : ℕ
largest_fragment = 512

unfoldable pub is_size : ℕ → Bool
is_size size = pick (leb smallest_fragment size) (leb size largest_fragment) false

-- §11.4, 'Framing': a length has two bytes
abbrev pub longest_message : ℕ
longest_message = 2 ^ 16 - 1

-- §11.4, 'Command, Status, and Error constants': the byte of each, bit 7 included
pub data BleCommand : Type 0 where
  PING KEEPALIVE MSG CANCEL ERROR : BleCommand

abbrev pub command_byte : BleCommand → ℕ
command_byte PING = 0x81
command_byte KEEPALIVE = 0x82
command_byte MSG = 0x83
command_byte CANCEL = 0xbe
command_byte ERROR = 0xbf

-- whether a byte is one of these
unfoldable pub is_command : ℕ → Bool
is_command byte = is_in byte (map command_byte (PING ∷ KEEPALIVE ∷ MSG ∷ CANCEL ∷ ERROR ∷ []))

-- ---- fragments

-- §11.4, 'Framing fragmentation': an initialization fragment has a command byte, the declared length of the whole payload and data; a continuation fragment
-- has a sequence number and data
pub data Fragment : Type 0 where
  initialization : (command declared : ℕ) (field : List ℕ) → Fragment
  continuation : (number : ℕ) (field : List ℕ) → Fragment

-- the length in two bytes, high and low. Nothing is padded
unfoldable pub written : Fragment → List ℕ
written (initialization cmd n field) = cmd ∷ (n / 0x100) ∷ (n % 0x100) ∷ field
written (continuation k field) = k ∷ field

-- bytes read as a fragment, or too few for its head
pub data Read : Type 0 where
  too_short : Read
  fragment : Fragment → Read

abbrev pub read_first : (command : ℕ) → List ℕ → Read
read_first cmd [] = too_short
read_first cmd (high ∷ []) = too_short
read_first cmd (high ∷ (low ∷ field)) = fragment (initialization cmd (high * 0x100 + low) field)

-- bit 7 of the first byte is set in an initialization fragment, and clear in a continuation fragment
unfoldable pub read : List ℕ → Read
read [] = too_short
read (byte ∷ rest) = pick (leb 0x80 byte) (read_first byte rest) (fragment (continuation byte rest))

-- ---- a message in fragments of a size

-- §11.4, 'Framing fragmentation': a head takes 3 bytes of the first fragment and 1 of each other one. Numbers go from 0 to 127, and then from 0 again
unfoldable pub fragments : (size command : ℕ) → List ℕ → List Fragment
fragments size cmd payload =
    framed (initialization cmd (length payload)) (λ i. continuation (i % 128)) (chunks (size - 3) (size - 1) payload)

abbrev pub fragments_written : (size command : ℕ) → List ℕ → List (List ℕ)
fragments_written size cmd payload = map written (fragments size cmd payload)

-- what that comes to. Numbers are bare here
pub record CutsOverBluetooth (size cmd : ℕ) (payload : List ℕ) : Type 0 where
  pub formula : length (fragments_written size cmd payload) ≡ 1 + (length payload + 1) / (size - 1)
  -- each has 1 to `size` bytes, and none but the last is short
  pub some : (i : ℕ) → i < length (fragments_written size cmd payload) → 1 ≤ length (get_or (fragments_written size cmd payload) i [])
  pub most : (i : ℕ) → length (get_or (fragments_written size cmd payload) i []) ≤ size
  pub full : (i : ℕ) → 1 + i < length (fragments_written size cmd payload) → length (get_or (fragments_written size cmd payload) i []) ≡ size
  -- no fewer fragments of this size hold the message: k of them behind the first have room for so many bytes
  pub fewest : (k : ℕ) → length payload ≤ size - 3 + (size - 1) * k → length (fragments_written size cmd payload) ≤ 1 + k

-- ---- reading

-- what a fragment brings about: a refusal by its number, nothing to hand out yet, or a message. Its command byte is as it stands
pub data Told : Type 0 where
  refused : (number : ℕ) → Told
  waiting : Told
  message : (command : ℕ) (payload : List ℕ) → Told

-- a message that is begun is what it is for a host: the command, here as a byte, the declared length, the bytes collected so far, and the number that is due
pub record Taken : Type 0 where
  pub collection : Collection
  pub answer : Told

abbrev pub taken : Collection → Told → Taken
taken s a = record { collection = s; answer = a }

-- data is put together until all is there. Refusal 18: more than was declared
unfoldable pub gather : (before : Collection) → Begun → List ℕ → Taken
gather s b field =
    refusing (λ number. taken s (refused number))
    ((ltb b.declared (length (b.collected ++ field)), 18) ∷ [])
    (put_together b.declared (b.collected ++ field)
    (taken (collecting (record { command = b.command; declared = b.declared; collected = b.collected ++ field; due = b.due })) waiting)
    (λ payload. taken none (message b.command payload)))

-- an initialization fragment begins a message, and the first sequence number is 0. Refusal 17: more is declared than there is room for
unfoldable pub begin : (space command declared : ℕ) → List ℕ → Taken
begin space cmd n field =
    refusing (λ number. taken none (refused number))
    ((ltb space n, 17) ∷ [])
    (gather none (record { command = cmd; declared = n; collected = []; due = 0 }) field)

-- refusal 16: a continuation fragment with no message begun; with one begun an initialization fragment, or another number than is due
unfoldable pub on_fragment : (space : ℕ) → Collection → Fragment → Taken
on_fragment space none (initialization cmd n field) = begin space cmd n field
on_fragment space none (continuation k field) = taken none (refused 16)
on_fragment space (collecting b) (initialization cmd n field) = taken (collecting b) (refused 16)
on_fragment space (collecting b) (continuation k field) =
    pick (eqb k b.due)
    (gather (collecting b) (record { command = b.command; declared = b.declared; collected = b.collected; due = (b.due + 1) % 128 }) field)
    (taken (collecting b) (refused 16))

abbrev pub on_read : (space : ℕ) → Collection → Read → Taken
on_read space s too_short = taken s (refused 15)
on_read space s (fragment f) = on_fragment space s f

-- refusal 15: above the size, or too short for its head
unfoldable pub hear : (size space : ℕ) → Collection → List ℕ → Taken
hear size space s bytes =
    refusing (λ number. taken s (refused number)) ((ltb size (length bytes), 15) ∷ []) (on_read space s (read bytes))

-- fragments one after another: what they are answered, and what is left
abbrev pub next : (size space : ℕ) → Collection → List ℕ → Collection
next size space s bytes = (hear size space s bytes).collection

abbrev pub answer : (size space : ℕ) → Collection → List ℕ → Told
answer size space s bytes = (hear size space s bytes).answer

abbrev pub answers : (size space : ℕ) → Collection → List (List ℕ) → List Told
answers size space = told (next size space) (answer size space)

abbrev pub after : (size space : ℕ) → Collection → List (List ℕ) → Collection
after size space = left (next size space)

-- ---- the round trip: a message in fragments of a size, read at this size with none begun, is given back. Numbers are bare here

pub record Sendable (size cmd : ℕ) (payload : List ℕ) (space : ℕ) : Type 0 where
  pub smallest : 20 ≤ size
  pub largest : size ≤ 512
  pub command : 128 ≤ cmd
  pub short : length payload ≤ 65535
  pub fits : length payload ≤ space

pub record RoundTrip (size cmd : ℕ) (payload : List ℕ) (space : ℕ) : Type 0 where
  pub given_back : answers size space none (fragments_written size cmd payload) ≡ lastly waiting (message cmd payload) (fragments_written size cmd payload)
  pub done : after size space none (fragments_written size cmd payload) ≡ none

abbrev pub RoundTrips : Type 0
RoundTrips = (size cmd : ℕ) (payload : List ℕ) (space : ℕ) → Sendable size cmd payload space → RoundTrip size cmd payload space

-- ---- what a reader hands out is what was declared

-- those of these fragments that are not refused, as they are read
abbrev pub is_taken : Told → Read → List Fragment
is_taken (refused number) r = []
is_taken waiting too_short = []
is_taken waiting (fragment f) = f ∷ []
is_taken (message cmd payload) too_short = []
is_taken (message cmd payload) (fragment f) = f ∷ []

abbrev pub taken_of : (size space : ℕ) → Collection → List (List ℕ) → List Fragment
taken_of size space s [] = []
taken_of size space s (bytes ∷ rest) = is_taken (answer size space s bytes) (read bytes) ++ taken_of size space (next size space s bytes) rest

-- whatever came before, from none begun: of the fragments that were taken the last are an initialization fragment with this command that declares as many
-- bytes as the payload has, and continuation fragments numbered from 0 to 127 and from 0 again; the payload is their data, one after another
pub record Declared (cmd : ℕ) (payload : List ℕ) (came : List Fragment) : Type 0 where
  pub before : List Fragment
  pub data_of : List (List ℕ)
  pub are : came ≡ before ++ framed (initialization cmd (length payload)) (λ i. continuation (i % 128)) data_of
  pub all : flatten data_of ≡ payload

abbrev pub CollectsDeclared : Type 0
CollectsDeclared =
    (size space : ℕ) (came : List (List ℕ)) (bytes : List ℕ) (cmd : ℕ) (payload : List ℕ)
    → answer size space (after size space none came) bytes ≡ message cmd payload → Declared cmd payload (taken_of size space none (came ++ (bytes ∷ [])))
