-- Set-up: of each interface as of a device, with one last time, one answer for U2F and one list. Assumes nothing.
use Rattle.std.specs.Prelude.{ℕ, List, ◌∷◌, Bool, ltb}
use Rattle.ctaphid.specs.Choice.{refusing}
use Rattle.ctaphid.specs.Limits.{largest}
use Rattle.receive.specs.Meaning.{none}
use Rattle.hid.specs.SetUp.{fresh_main, set_up_refusals}
use Rattle.key.specs.declared.Key as declared
use Rattle.key.specs.declared.VendorHid.{VendorHid}
use Rattle.key.specs.declared.KeyReady.{KeyReady}
use Rattle.key.specs.declared.KeyReady.TheVariants.{Key, Refused}

abbrev pub fresh_vendor : (maximum : ℕ) → VendorHid
fresh_vendor max = record { assembler = none; lock = 0; allocated = 0; locked = 0; max = max; spare = 0; still_due = 0 }

abbrev pub fresh_key : (main vendor : ℕ) → (u2f : Bool) → (commands : List ℕ) → declared.Key
fresh_key m v u2f commands = record { main = fresh_main m u2f commands; vendor = fresh_vendor v }

-- 5 for vendor's maximum, and then the refusals of main
unfoldable pub key_new_of : (main vendor : ℕ) → (u2f : Bool) → (commands : List ℕ) → KeyReady
key_new_of m v u2f commands =
    refusing Refused ((ltb largest v, 5) ∷ set_up_refusals m commands) (Key (fresh_key m v u2f commands))
