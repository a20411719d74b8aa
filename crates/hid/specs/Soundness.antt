-- A sound state, as docs/RULES.md lists it, in its order: as facts, and as the test that the code makes. Assumes nothing.
use Rattle.std.specs.Prelude.{ℕ, ◌+◌, ◌≤◌, ◌<◌, ◌≡◌, [], ◌∷◌, Bool, true, false, ◌⊎◌, ltb, leb, eqb}
use Rattle.ctaphid.specs.Choice.{pick, every}
use Rattle.ctaphid.specs.Transport.{is_allocated}
use Rattle.receive.specs.declared.MessageAssembler.{MessageAssembler}
use Rattle.receive.specs.Assembler as receive
use Rattle.hid.specs.declared.CtapHid.{CtapHid}
use Rattle.hid.specs.Due.{due_by}

abbrev pub Allocated : (allocated channel : ℕ) → Type 0
Allocated allocated c = (1 ≤ c) × (c ≤ allocated)

-- a transaction's channel
abbrev pub Placed : (allocated : ℕ) → MessageAssembler → Type 0
Placed allocated a = Allocated allocated a.cid ⊎ ((a.cid ≡ 0xffff_ffff) × (a.cmd ≡ 6))

-- a transport's state, and until when a wink runs
pub record Sound (s : CtapHid) (until : ℕ) : Type 0 where
  pub maximum : s.max ≤ 7609
  pub count : s.allocated ≤ 0xffff_fffe
  pub last : s.last ≤ 0xffff_ffff_ffff
  pub deadline : s.assembler.deadline ≤ s.last + 100
  pub lock : s.lock ≤ s.last + 10000
  pub wink : until ≤ s.last + 5000
  pub holder : s.last < s.lock → Allocated s.allocated s.locked
  pub transaction : (s.assembler.len ≡ 0 → ⊥) → receive.Sound s.assembler s.max
  pub due : s.still_due ≡ due_by s.assembler
  pub channel : (s.assembler.len ≡ 0 → ⊥) → Placed s.allocated s.assembler

-- ---- the same as a test

unfoldable pub is_on_channel : (allocated channel command : ℕ) → Bool
is_on_channel allocated c cmd = pick (is_allocated allocated c) true (pick (eqb c 0xffff_ffff) (eqb cmd 6) false)

unfoldable pub is_placed : (allocated : ℕ) → MessageAssembler → Bool
is_placed allocated a = pick (eqb a.len 0) true (is_on_channel allocated a.cid a.cmd)

-- sound by itself, and so many packets are still due
unfoldable pub is_counted : (maximum due : ℕ) → MessageAssembler → Bool
is_counted max due a = every (receive.is_sound a max ∷ eqb due (due_by a) ∷ [])

unfoldable pub transacts : CtapHid → Bool
transacts s = every (is_counted s.max s.still_due s.assembler ∷ is_placed s.allocated s.assembler ∷ [])

unfoldable pub is_held : CtapHid → Bool
is_held s = pick (ltb s.last s.lock) (is_allocated s.allocated s.locked) true

unfoldable pub is_timely : CtapHid → (wink : ℕ) → Bool
is_timely s wink =
    every (leb s.assembler.deadline (s.last + 100)
    ∷ leb s.lock (s.last + 10000)
    ∷ leb wink (s.last + 5000)
    ∷ is_held s
    ∷ [])

unfoldable pub is_sound : CtapHid → (wink : ℕ) → Bool
is_sound s wink =
    every (leb s.max 7609
    ∷ leb s.allocated 0xffff_fffe
    ∷ leb s.last 0xffff_ffff_ffff
    ∷ is_timely s wink
    ∷ transacts s
    ∷ [])
