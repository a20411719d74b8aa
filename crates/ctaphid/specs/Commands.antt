-- §11.2.9: the commands. Assumes nothing.
use Rattle.std.specs.Prelude.{ℕ, Bool, false, List, [], ◌∷◌, leb, eqb}
use Rattle.ctaphid.specs.Choice.{pick}

pub data Command : Type 0 where
  MSG CBOR INIT PING CANCEL ERROR KEEPALIVE WINK LOCK : Command
  VENDOR : (number : ℕ) → Command

-- the number of each, in the standard's order
abbrev pub number : Command → ℕ
-- §11.2.9.1, mandatory
number MSG = 0x03
number CBOR = 0x10
number INIT = 0x06
number PING = 0x01
number CANCEL = 0x11
number ERROR = 0x3f
number KEEPALIVE = 0x3b
-- §11.2.9.2, optional
number WINK = 0x08
number LOCK = 0x04
-- §11.2.9.3, the vendor's own
number (VENDOR n) = n

-- §11.2.9.3: the numbers that are the vendor's
unfoldable pub is_vendor : ℕ → Bool
is_vendor n = pick (leb 0x40 n) (leb n 0x7f) false

-- whether the two have one number
abbrev pub is : Command → Command → Bool
is a b = eqb (number a) (number b)

abbrev pub commands : List Command
commands = MSG ∷ CBOR ∷ INIT ∷ PING ∷ CANCEL ∷ ERROR ∷ KEEPALIVE ∷ WINK ∷ LOCK ∷ []

-- the first of these commands that has this number, or another where none has
unfoldable pub among : List Command → ℕ → (other : Command) → Command
among [] n other = other
among (c ∷ rest) n other = pick (eqb n (number c)) c (among rest n other)

-- a command's number read: as one that is named, as one of the vendor's, or, where it is neither, as ERROR (DIFFERENCES 1)
abbrev pub command_of : ℕ → Command
command_of n = among commands n (pick (is_vendor n) (VENDOR n) ERROR)
