-- Whether a lock, or a wink, runs at a time. Assumes nothing.
use Rattle.std.specs.Prelude.{ℕ, [], ◌∷◌, Bool, not, ltb}
use Rattle.ctaphid.specs.Choice.{pick, refusing}
use Rattle.ctaphid.specs.Refusals.{untimely}
use Rattle.hid.specs.declared.CtapHid.{CtapHid}
use Rattle.hid.specs.declared.MainHid.{MainHid}
use Rattle.hid.specs.declared.Running.{Running}
use Rattle.hid.specs.declared.Running.TheVariants.{Yes, No, Refused}
use Rattle.hid.specs.Soundness.{is_sound}

-- what ends at the time `until` runs before it. Refusal 4
abbrev pub running_at : (last time until : ℕ) → Running
running_at last time until = refusing Refused (untimely last time) (pick (ltb time until) Yes No)

-- refusals 3 and 4, and no other
abbrev pub running_where : (sound : Bool) → (last time until : ℕ) → Running
running_where sound last time until = refusing Refused ((not sound, 3) ∷ []) (running_at last time until)

unfoldable pub running_of : CtapHid → (wink time until : ℕ) → Running
running_of s wink time until = running_where (is_sound s wink) s.last time until

abbrev pub locked_of : CtapHid → (time : ℕ) → Running
locked_of s time = running_of s 0 time s.lock

abbrev pub winking_of : MainHid → (time : ℕ) → Running
winking_of o time = running_of o.hid o.wink time o.wink
