use Rattle.key.specs.Meaning.{vendor_in}
use Rattle.key.specs.Soundness.{is_key_sound}
use Rattle.key.proofs.Fitting.{Meets, meeting}
use Rattle.key.proofs.Steps.{vendor-stepped}
use Rattle.key.proofs.Key.step_vendor.Goals as goal
use Rattle.key.proofs.Key.step_vendor.Goals.{then-not-is_quiet, else-not-is_quiet}

pub returns : goal.returns
returns c =
    let k = c.args.self in
    -- where the branches meet
    let met : Meets (vendor_in k) 0 (is_key_sound k) c.if-not-is_quiet.own = elim c.if-not-is_quiet.branch [ then-not-is_quiet w ↦ search meeting | else-not-is_quiet w ↦ search meeting ] in
    search (met, vendor-stepped)
