-- What serving a whole message asks. What it leaves is `served_of` (State) of what the standard's transport does. Assumes nothing.
use Rattle.std.specs.Prelude.{ℕ, ◌≤◌, ◌≡◌, List, length}
use Rattle.receive.specs.Meaning.{none}
use Rattle.hid.specs.declared.CtapHid.{CtapHid}

-- no transaction is left, nor is any packet due, the message is in the buffer, and a reply has room
pub record Serves (s : CtapHid) (len : ℕ) (m r : List ℕ) : Type 0 where
  pub idle : s.assembler ≡ none
  pub due : s.still_due ≡ 0
  pub count : s.allocated ≤ 0xffff_fffe
  pub early : s.last ≤ 0xffff_ffff_ffff
  pub room : len ≤ length m
  pub short : 17 ≤ length r
