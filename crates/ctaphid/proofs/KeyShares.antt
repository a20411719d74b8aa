-- What is asked of a key with two interfaces holds of the two transports, of the standard's key, and of any key that answers as that one does. Assumes nothing.
use mathlib.Core.Path.{refl, ap, sym, ◌∙◌}
use Rattle.ctaphid.specs.Receiver.{is_on}
use Rattle.ctaphid.specs.Transport.{is_locked_by}
use Rattle.ctaphid.specs.Interfaces.{main, vendor, Both, side}
use Rattle.ctaphid.specs.KeyDemands.{AnyKey, standard_both, standard_key, Behind, unchecked, checked, MainIsDevice, SharesOut, KeyAgrees, KeyAnswersAlike}
use Rattle.ctaphid.proofs.Interfaces.{both-agree, both-never-two}
use Rattle.ctaphid.proofs.Behind.{AsBoth, unchecked-keeps, checked-keeps, transports-after, key-agree, main-is-device}
use Rattle.ctaphid.proofs.KeyBounds.{transactions-end-on-each, locks-end-on-each, none-shut-out-on-each, unknown-told-on-each}
use Rattle.ctaphid.proofs.KeyDelivery.{delivery-on-each}

-- of any key that is as the two transports are, with what is behind them
shares_out : {f : Behind} {D : AnyKey} → AsBoth f D → SharesOut f D
shares_out like =
    record {
      agrees = like.agrees;
      locks = λ set permitted past taken time onward c o m v.
          both-never-two set permitted past taken time onward c o
          (sym (like.alike set permitted past taken time onward main c).1 ∙ m) (sym (like.alike set permitted past taken time onward vendor o).1 ∙ v);
      delivery = delivery-on-each like;
      transactions = transactions-end-on-each like;
      lock_times = locks-end-on-each like;
      shut_out = none-shut-out-on-each like;
      unknown = unknown-told-on-each like;
    }

pub both-shares : SharesOut unchecked standard_both
both-shares = shares_out (record { keeps = unchecked-keeps; agrees = both-agree; alike = λ set permitted past taken time onward i c. (refl, refl) })

-- a key that answers as the standard's does
carried : (D : AnyKey) → KeyAgrees D → KeyAnswersAlike D → AsBoth checked D
carried D agrees alike =
    record {
      keeps = checked-keeps;
      agrees = λ set permitted past a taken. agrees set permitted past a taken ∙ key-agree set permitted past a taken;
      alike = λ set permitted past taken time onward i c.
          let same = alike set permitted past taken time onward in (
            same.on i c ∙ ap (λ (b : Both). is_on (side b i).receiver c time) (transports-after set past),
            same.locked i c ∙ ap (λ (b : Both). is_locked_by (side b i).lock c time) (transports-after set past),
          );
    }

pub key-shares-carried : (D : AnyKey) → KeyAgrees D → KeyAnswersAlike D → SharesOut checked D
key-shares-carried D agrees alike = shares_out (carried D agrees alike)

pub main-is-device-carried : (D : AnyKey) → KeyAgrees D → KeyAnswersAlike D → MainIsDevice D
main-is-device-carried D agrees alike =
    record {
      answers = λ set permitted past a taken q. agrees set permitted past a taken ∙ main-is-device.answers set permitted past a taken q;
      winks = λ set permitted past taken time onward. (alike set permitted past taken time onward).winking ∙ main-is-device.winks set permitted past taken time onward;
    }

-- as that one itself does
pub key-shares : SharesOut checked standard_key
key-shares =
    key-shares-carried standard_key (λ set permitted past a taken. refl)
    (λ set permitted past taken time onward. record { on = λ i c. refl; locked = λ i c. refl; winking = refl })
