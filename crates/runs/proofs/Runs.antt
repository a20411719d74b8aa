-- Runs of the code answer as the standard's do. Assumes nothing.
use Prim.Native.Nat.{ℕ}
use mathlib.Core.Path.{◌≡◌, refl, ap, ◌∙◌}
use mathlib.Core.List.{List, [], ◌∷◌, map}
use Rattle.ctaphid.specs.Receiver.{still_due}
use Rattle.ctaphid.specs.Transport.{Event, Next, answers_of, afterwards, step}
use Rattle.ctaphid.specs.Device.{device_step}
use Rattle.ctaphid.proofs.Forgetting.{forgotten}
use Rattle.ctaphid.proofs.Listing.{run-alike, run-receiver-alike, only-members-count, device-receiver-alike}
use Rattle.answers.specs.Answers.{answered}
use Rattle.hid.specs.declared.CtapHid.{CtapHid}
use Rattle.runs.specs.Steps.{Comes}
use Rattle.runs.specs.Lending.{Call, Lends, Done, run_of, Lent, state_after, on_call, main_on_call, RunsAlike, MainRunsAlike, DueAlike, MainDueAlike}
use Rattle.runs.proofs.Refines.{meant, fresh-means, same-members, set-up-taken}
use Rattle.runs.proofs.Following.{Follows, MainFollows, due-follows, main-due-follows, answers-alike, follows_on, main-answers-alike, main-follows-on}

-- where a state and what was left follow a state of the standard's through any call, they follow it through any run
module _ {S D : Type 0} (hid : S → CtapHid) (f : S → Call → Done S) (g : D → Event → Next D) (Is : S → (left : List ℕ) → D → Type 0)
    (answers : (s : S) (left : List ℕ) (d : D) (c : Call) → Is s left d → Comes (hid s).last c.event → Lends (hid s) c.event.time left c.lent → (f s c).told ≡ answered (g d c.event).answer)
    (goes_on : (s : S) (left : List ℕ) (d : D) (c : Call) → Is s left d → Comes (hid s).last c.event → Lends (hid s) c.event.time left c.lent → Is (f s c).state (f s c).left (g d c.event).state) where
  runs-from : (s : S) (left : List ℕ) (d : D) (cs : List Call) → Is s left d → Lent hid f s left cs → run_of f s cs ≡ map answered (answers_of g d (map (λ (c : Call). c.event) cs))
  runs-from s left d [] is lent = refl
  runs-from s left d (c ∷ cs) is lent =
      let rest = runs-from (f s c).state (f s c).left (g d c.event).state cs (goes_on s left d c is lent.0 lent.1) lent.2 in
      λ i. answers s left d c is lent.0 lent.1 i ∷ rest i

  state-from : (P : S → D → Type 0) → ((s : S) (left : List ℕ) (d : D) → Is s left d → P s d)
      → (s : S) (left : List ℕ) (d : D) (cs : List Call) → Is s left d → Lent hid f s left cs → P (state_after f s cs) (afterwards g d (map (λ (c : Call). c.event) cs))
  state-from P tells s left d [] is lent = tells s left d is
  state-from P tells s left d (c ∷ cs) is lent = state-from P tells (f s c).state (f s c).left (g d c.event).state cs (goes_on s left d c is lent.0 lent.1) lent.2

pub runs-alike : RunsAlike
runs-alike set cs p lent =
    runs-from (λ s. s) on_call step Follows
    (λ s left d c. answers-alike s left d c.event c.lent)
    (λ s left d c. follows_on s left d c.event c.lent)
    _ [] _ cs (record { sound = (set-up-taken set p).sound; means = ap (forgotten 0) (fresh-means set []) }) lent
    ∙ ap (map answered) (run-alike set (meant set).vendor (same-members set p) (map (λ (c : Call). c.event) cs))

pub main-runs-alike : MainRunsAlike
main-runs-alike set cs p lent =
    runs-from (λ o. o.hid) main_on_call device_step MainFollows
    (λ o left d c. main-answers-alike o left d c.event c.lent)
    (λ o left d c. main-follows-on o left d c.event c.lent)
    _ [] _ cs (record { sound = (set-up-taken set p).sound; means = ap (forgotten 0) (fresh-means set []); wink = refl }) lent
    ∙ ap (map answered) (only-members-count set (meant set).vendor (same-members set p) (map (λ (c : Call). c.event) cs))

-- and have as many packets still due
pub due-alike : DueAlike
due-alike set cs p lent =
    state-from (λ s. s) on_call step Follows
    (λ s left d c. answers-alike s left d c.event c.lent)
    (λ s left d c. follows_on s left d c.event c.lent)
    (λ s d. s.still_due ≡ still_due d.receiver) due-follows
    _ [] _ cs (record { sound = (set-up-taken set p).sound; means = ap (forgotten 0) (fresh-means set []) }) lent
    ∙ ap still_due (run-receiver-alike set (meant set).vendor (same-members set p) (map (λ (c : Call). c.event) cs))

pub main-due-alike : MainDueAlike
main-due-alike set cs p lent =
    state-from (λ o. o.hid) main_on_call device_step MainFollows
    (λ o left d c. main-answers-alike o left d c.event c.lent)
    (λ o left d c. main-follows-on o left d c.event c.lent)
    (λ o d. o.hid.still_due ≡ still_due d.transport.receiver) main-due-follows
    _ [] _ cs (record { sound = (set-up-taken set p).sound; means = ap (forgotten 0) (fresh-means set []); wink = refl }) lent
    ∙ ap still_due (device-receiver-alike set (meant set).vendor (same-members set p) (map (λ (c : Call). c.event) cs))
