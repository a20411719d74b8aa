-- Runs that meet all premises of delivery on each interface, by computation, and what follows of any key that delivers. Assumes nothing.
use Prim.Native.Nat.{ℕ, ◌≤◌}
use native.Mathlib.Omega.{arith}
use mathlib.Core.Path.{◌≡◌, refl, sym}
use mathlib.Core.List.{List, [], ◌∷◌}
use mathlib.Core.Bool.{true}
use mathlib.Core.Logic.{inl, inr}
use Rattle.ctaphid.specs.Choice.{pick, is_in}
use Rattle.ctaphid.specs.Packets.{channel_in, declared_in, read, written}
use Rattle.ctaphid.specs.Messages.{later, chunks, padded, fields, numbered, packets}
use Rattle.ctaphid.specs.Commands.{CBOR, VENDOR, is_vendor, among}
use Rattle.ctaphid.specs.Settings.{knows}
use Rattle.ctaphid.specs.Receiver.{collect, start_known, start, when_idle, when_over, on_own, when_busy, receive, is_on}
use Rattle.ctaphid.specs.Transport.{request, is_allocated, is_valid, is_locked_by, is_locked_against, is_shut, next_channel, on_init, dispatch, settle, hear, obey}
use Rattle.ctaphid.specs.Demands.{aCbor, aVendor}
use Rattle.ctaphid.specs.Interfaces.{Interface, main, vendor, KeySettings, Arrival}
use Rattle.ctaphid.specs.KeyDemands.{AnyKey, standard_key, KeyPermitted, TakenBy, after_by, Behind, checked_request, checked, OpenOn, SendingOn, EndsOn, DeliveryOnEach}
use Rattle.ctaphid.specs.KeyRows.{at}
use Rattle.ctaphid.proofs.Instances.{all_below, proper, init, ping, message, begins, ends, branded}
use Rattle.ctaphid.proofs.Interfaces.{apart, the-both}
use Rattle.ctaphid.proofs.KeyShares.{key-shares}

abbrev pub settings : KeySettings
settings = record { main = 7609; vendor = 64; u2f = true; commands = 127 ∷ [] }

pub permitted : KeyPermitted settings
permitted i = record { most = the-both (λ (n : ℕ). n ≤ 7609) i 7609 64 (omega arith) (omega arith); vendor = branded.vendor }

-- ---- the history: a broadcast INIT allocates channel 1 on each

abbrev pub ready : List Arrival
ready = at vendor 1 init ∷ at main 0 init ∷ []

pub ready-taken : TakenBy ready
unfolding all_below pick
ready-taken = (proper 1 init (omega arith) refl refl, omega arith, (proper 0 init (omega arith) refl refl, omega arith, tt))

ready-open : (i : Interface) → OpenOn i settings ready 5 1
unfolding read channel_in declared_in hear is_shut settle dispatch knows obey is_vendor on_init next_channel is_allocated is_valid is_locked_by is_locked_against is_on receive when_idle start start_known collect among pick
ready-open main = record { allocated = refl; quiet = λ o. refl; unlocked = λ o h. refl }
ready-open vendor = record { allocated = refl; quiet = λ o. refl; unlocked = λ o h. refl }

-- ---- 58 bytes in two packets, the second 99 ms after the first, and a packet of the other interface in between, on a channel of the same number

abbrev pub between : (this that : Interface) → List Arrival
between this that = at that 50 (ping 1) ∷ at this 104 ends ∷ []

sent : (this that : Interface) (cmd : ℕ) → (that ≡ this → ⊥) → all_below 256 (at this 5 (begins cmd 7)).packet ≡ true → SendingOn this ready 1 cmd (message 7) (at this 5 (begins cmd 7)) (between this that)
unfolding written later chunks padded fields numbered packets all_below pick
sent this that cmd another h =
    record {
      interface = refl;
      proper = proper 5 (begins cmd 7) (omega arith) refl h;
      onward = omega arith;
      following = (at this 104 ends).packet ∷ [];
      cut = refl;
      followed = (
        proper 50 (ping 1) (omega arith) refl refl,
        omega arith,
        inr ((λ e. absurd (another e)), (proper 104 ends (omega arith) refl refl, omega arith, inl (refl, refl, omega arith, refl))),
      );
    }

module _ (f : Behind) (D : AnyKey) (delivers : DeliveryOnEach f D) where
  -- CBOR on main
  pub on-main : EndsOn D (after_by D settings ready) main 1 (f main true (request 1 CBOR (message 7))) (at main 5 (begins 16 7) ∷ between main vendor)
  unfolding read channel_in declared_in hear is_shut settle dispatch knows obey is_vendor on_init next_channel is_allocated is_valid is_locked_by is_locked_against receive when_idle when_over when_busy on_own start start_known collect among all_below pick
  on-main =
      delivers settings permitted ready ready-taken main 1 aCbor tt (message 7) (omega arith) (at main 5 (begins 16 7)) (between main vendor) (ready-open main)
      (sent main vendor 16 (λ e. apart (sym e)) refl) ((λ e. refl), ((λ e. refl), ((λ e. refl), tt)))

  -- the allowed vendor command on vendor
  pub on-vendor : EndsOn D (after_by D settings ready) vendor 1 (f vendor true (request 1 (VENDOR 127) (message 7))) (at vendor 5 (begins 127 7) ∷ between vendor main)
  unfolding read channel_in declared_in hear is_shut settle dispatch knows obey is_vendor is_in on_init next_channel is_allocated is_valid is_locked_by is_locked_against receive when_idle when_over when_busy on_own start start_known collect among all_below pick
  on-vendor =
      delivers settings permitted ready ready-taken vendor 1 (aVendor 127) refl (message 7) (omega arith) (at vendor 5 (begins 127 7)) (between vendor main) (ready-open vendor)
      (sent vendor main 127 apart refl) ((λ e. refl), ((λ e. refl), ((λ e. refl), tt)))

-- of the standard's key: these runs are some that its delivery speaks of
pub main-delivered : EndsOn standard_key (after_by standard_key settings ready) main 1 (request 1 CBOR (message 7)) (at main 5 (begins 16 7) ∷ between main vendor)
unfolding checked_request pick
main-delivered = on-main checked standard_key key-shares.delivery

pub vendor-delivered : EndsOn standard_key (after_by standard_key settings ready) vendor 1 (request 1 (VENDOR 127) (message 7)) (at vendor 5 (begins 127 7) ∷ between vendor main)
unfolding checked_request pick
vendor-delivered = on-vendor checked standard_key key-shares.delivery
