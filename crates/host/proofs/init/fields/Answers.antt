use Rattle.host.proofs.Fields.{fields-are}
use Rattle.host.proofs.init.fields.Goals as goal

pub returns : goal.returns
returns c = search fields-are
