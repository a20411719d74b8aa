-- Three callers: one that leaves both buffers alone, one that overwrites all that it may, and one that overwrites more. Assumes nothing.
use Rattle.std.specs.Prelude.{ℕ, ◌-◌, ◌≤◌, List, [], ◌∷◌, ◌++◌, length, take, replicate, ltb, eqb}
use Rattle.ctaphid.specs.Choice.{pick}
use Rattle.ctaphid.specs.Demands.{GivesShare}
use Rattle.hid.specs.declared.CtapHid.{CtapHid}
use Rattle.runs.specs.Steps.{Buffers, buffers}
use Rattle.runs.specs.Share.{Held, Caller, code}

-- the first pair of buffers goes with the maximum, and is lent back untouched ever after
abbrev pub unless_first : {A B : Type 0} → (past : List A) → (first left : B) → B
unless_first [] first left = first
unless_first (e ∷ past) first left = left

abbrev pub untouched : (first : (maximum : ℕ) → Buffers) → Caller
untouched first h e = unless_first h.past (first h.hid.max) h.left

-- how many bytes a caller must keep: those taken, while a transaction is on
abbrev pub owed : CtapHid → (time : ℕ) → ℕ
owed s time = pick (eqb s.assembler.len 0) 0 (pick (ltb time s.assembler.deadline) s.assembler.taken 0)

-- so many bytes as they were left, and 0xee in all others: the message buffer is just as long as the maximum, and the short one is new each time
abbrev pub overwritten : (kept : ℕ) → Held → Buffers
overwritten kept h = buffers (take kept h.left.message ++ replicate (h.hid.max - kept) 0xee) (replicate 17 0xee)

abbrev pub scribbling : Caller
scribbling h e = overwritten (owed h.hid e.time) h

abbrev pub careless : Caller
careless h e = overwritten 0 h

-- ---- demand 3 with the first two

abbrev pub UntouchedGivesShare : Type 0
UntouchedGivesShare =
    (first : (maximum : ℕ) → Buffers) → ((max : ℕ) → max ≤ 7609 → (max ≤ length (first max).message) × (17 ≤ length (first max).short))
    → GivesShare (code (untouched first))

-- one pair of buffers serves every maximum, if the message buffer is as long as the largest
abbrev pub FixedGivesShare : Type 0
FixedGivesShare = (m r : List ℕ) → 7609 ≤ length m → 17 ≤ length r → GivesShare (code (untouched (λ max. buffers m r)))

abbrev pub ScribblingGivesShare : Type 0
ScribblingGivesShare = GivesShare (code scribbling)
