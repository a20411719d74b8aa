use Rattle.hid.proofs.Heard.{hearing}
use Rattle.hid.proofs.hearing.hear_valid.Goals as goal

pub returns-then-is_shut : goal.returns-then-is_shut
returns-then-is_shut c = search hearing

pub returns : goal.returns
returns c = search hearing
