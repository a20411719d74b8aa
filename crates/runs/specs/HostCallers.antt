-- A host that overwrites all that it may. Assumes nothing.
use Rattle.std.specs.Prelude.{ℕ, ◌-◌, ◌≡◌, List, [], ◌∷◌, ◌++◌, take, replicate, eqb}
use Rattle.ctaphid.specs.Choice.{pick}
use Rattle.ctaphid.specs.Packets.{Bytes}
use Rattle.ctaphid.specs.Messages.{wire}
use Rattle.ctaphid.specs.Host.{reply, at_last, Sendable}
use Rattle.host.specs.declared.Collection.{Collection}
use Rattle.host.specs.Meaning.{none_begun}
use Rattle.host.specs.Reading.{read_of}
use Rattle.runs.specs.HostRuns.{HostCall, host_run_of}

-- how many bytes a caller must keep: those taken, while a reply is begun
abbrev pub host_owed : Collection → ℕ
host_owed s = pick (eqb s.len 0) 0 s.taken

-- so many bytes as they were left, and 0xee in all others of the buffer's n
abbrev pub host_overwritten : (n : ℕ) → Collection → (left : List ℕ) → List ℕ
host_overwritten n s left = take (host_owed s) left ++ replicate (n - host_owed s) 0xee

abbrev pub scribbled : (n : ℕ) → Collection → (channel : ℕ) → (left : List ℕ) → List (List ℕ) → List HostCall
scribbled n s c left [] = []
scribbled n s c left (p ∷ rest) =
    record { packet = p; buffer = host_overwritten n s left }
    ∷ scribbled n (read_of s c p (host_overwritten n s left)).progress.collection c (read_of s c p (host_overwritten n s left)).buffer rest

-- it gets its reply all the same, whatever the buffer's length that there is room in
abbrev pub ScribbledReadsBack : Type 0
ScribbledReadsBack =
    (c cmd : ℕ) (payload : List ℕ) (n : ℕ) → Sendable c cmd payload n → Bytes payload
    → host_run_of none_begun c (scribbled n none_begun c [] (wire c cmd payload)) ≡ at_last (reply cmd payload) (wire c cmd payload)
