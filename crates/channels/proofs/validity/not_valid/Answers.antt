use Rattle.channels.proofs.Valid.{not-valid-first, not-valid-later}
use Rattle.channels.proofs.validity.not_valid.Goals as goal

pub returns-in-ContinuationPacket : goal.returns-in-ContinuationPacket
returns-in-ContinuationPacket c = search (not-valid-first, not-valid-later)
