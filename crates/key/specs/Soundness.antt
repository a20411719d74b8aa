-- A sound record: each interface by itself, and not two locks that run at the last time; as facts, and as the tests that the code makes. Assumes nothing.
use Rattle.std.specs.Prelude.{ℕ, ◌<◌, [], ◌∷◌, Bool, true, ltb, leb, eqb}
use Rattle.ctaphid.specs.Choice.{pick, every}
use Rattle.hid.specs.declared.CtapHid.{CtapHid}
use Rattle.hid.specs.Soundness.{Sound, is_sound}
use Rattle.key.specs.declared.Key.{Key}
use Rattle.key.specs.Meaning.{vendor_in}

pub record KeySound (k : Key) : Type 0 where
  pub main : Sound k.main.hid k.main.wink
  pub vendor : Sound (vendor_in k) 0
  pub apart : k.main.hid.last < k.main.hid.lock → k.main.hid.last < k.vendor.lock → ⊥

-- ---- the same as a test

-- not both run at this time
unfoldable pub is_apart : (last one another : ℕ) → Bool
is_apart last one another = pick (ltb last one) (leb another last) true

-- an interface beside one that has its lock until then
unfoldable pub is_fit : CtapHid → (wink lock : ℕ) → Bool
is_fit s wink lock = every (is_apart s.last s.lock lock ∷ is_sound s wink ∷ [])

unfoldable pub is_key_sound : Key → Bool
is_key_sound k = every (is_sound k.main.hid k.main.wink ∷ is_fit (vendor_in k) 0 k.main.hid.lock ∷ [])

-- nothing runs, and there is no transaction
unfoldable pub is_quiet : CtapHid → (wink : ℕ) → Bool
is_quiet s wink =
    every (leb s.lock s.last
    ∷ leb wink s.last
    ∷ eqb s.still_due 0
    ∷ leb s.max 7609
    ∷ leb s.allocated 0xffff_fffe
    ∷ leb s.assembler.deadline s.last
    ∷ eqb s.assembler.len 0
    ∷ [])
