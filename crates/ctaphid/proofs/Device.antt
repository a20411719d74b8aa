-- The outer layer over its transport. Assumes nothing.
use Prim.Native.Nat.{ℕ}
use mathlib.Core.Path.{◌≡◌, refl, ap, subst}
use mathlib.Core.Bool.{Bool}
use lib.Dec.{eqb}
use lib.ListN.{length}
use Rattle.ctaphid.specs.Choice.{pick}
use Rattle.ctaphid.specs.Commands.{MSG, number}
use Rattle.ctaphid.specs.Errors.{InvalidCmd}
use Rattle.ctaphid.specs.Settings.{Settings}
use Rattle.ctaphid.specs.Transport.{Transport, Answer, nothing, reply, request, Next, next, error}
use Rattle.ctaphid.specs.Device.{Device, device, on_wink, on_msg, on_request, answered}
use Rattle.ctaphid.proofs.Tests.{pick-both, both-pick}

-- it leaves the transport as it is
pub same-transport : (time wink : ℕ) (d : Transport) (a : Answer) → (answered time wink d a).state.transport ≡ d
unfolding answered on_request on_wink on_msg
same-transport time wink d nothing = refl
same-transport time wink d (reply c cmd payload) = refl
same-transport time wink d (request c cmd payload) =
    pick-both Same (eqb (number cmd) 8) _ _ (pick-both Same (eqb (length payload) 0) _ _ refl refl) (pick-both Same (eqb (number cmd) 3) _ _ (pick-both Same d.settings.u2f _ _ refl refl) refl)
  where
    Same : Next Device → Type 0
    Same n = n.state.transport ≡ d

-- and what it answers goes by the settings alone
abbrev pub Like : Next Device → Next Device → Type 0
Like n o = (n.answer ≡ o.answer) × (n.state.wink ≡ o.state.wink)

pub by-settings : (time wink : ℕ) (d e : Transport) (a : Answer) → d.settings ≡ e.settings → Like (answered time wink d a) (answered time wink e a)
unfolding answered on_request on_wink on_msg
by-settings time wink d e nothing set = (refl, refl)
by-settings time wink d e (reply c cmd payload) set = (refl, refl)
by-settings time wink d e (request c cmd payload) set =
    both-pick Like (eqb (number cmd) 8) _ _ _ _
    (λ w. both-pick Like (eqb (length payload) 0) _ _ _ _ (λ z. (refl, refl)) (λ z. (refl, refl)))
    (λ w. both-pick Like (eqb (number cmd) 3) _ _ _ _
    (λ z. subst (λ (b : Bool). Like (pick d.settings.u2f (out d) (off d)) (pick b (out e) (off e))) (ap (λ (t : Settings). t.u2f) set)
    (both-pick Like d.settings.u2f _ _ _ _ (λ u. (refl, refl)) (λ u. (refl, refl))))
    (λ z. (refl, refl)))
  where
    out : Transport → Next Device
    out t = next (device t 0) (request c MSG payload)

    off : Transport → Next Device
    off t = next (device t 0) (error c InvalidCmd)
