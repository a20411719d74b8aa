use Rattle.ctaphid.proofs.Tests.{tests}
use Rattle.touch.proofs.Sending.{cancel-first, cancel-later}
use Rattle.ctaphid.specs.Touch.{is_cancel}
use Rattle.touch.proofs.responding.is_cancel.Goals as goal

pub returns-in-InitPacket : goal.returns-in-InitPacket
unfolding is_cancel
returns-in-InitPacket c = search (tests, cancel-first)

pub returns-in-ContinuationPacket : goal.returns-in-ContinuationPacket
returns-in-ContinuationPacket c = search cancel-later
