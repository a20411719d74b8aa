use Rattle.hid.proofs.Heard.{hearing}
use Rattle.hid.proofs.hearing.hear.Goals as goal

pub returns : goal.returns
returns c = search hearing

pub hear_valid-requires-clause-data_value : goal.hear_valid-requires-clause-data_value
hear_valid-requires-clause-data_value c = search hearing
