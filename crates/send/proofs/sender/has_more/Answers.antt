use mathlib.Core.Path.{sym, ap, ◌∙◌}
use native.Mathlib.Omega.{arith}
use borrow.Author.Tests.{le-ltb}
use lib.Dec.{ltb}
use lib.ListN.{length}
use Rattle.ctaphid.proofs.Splitting.{hid-count}
use Rattle.ctaphid.proofs.Tests.{tests, no-pick}
use Rattle.send.specs.Sender.{has_more}
use Rattle.send.proofs.sender.has_more.Goals as goal

pub returns-then-cmd-gt127 : goal.returns-then-cmd-gt127
unfolding has_more
returns-then-cmd-gt127 c = search tests

pub returns-then-payload-gt-LARGEST_PAYLOAD : goal.returns-then-payload-gt-LARGEST_PAYLOAD
unfolding has_more
returns-then-payload-gt-LARGEST_PAYLOAD c = search tests

pub returns : goal.returns
unfolding has_more
returns c =
    let a = c.args in
    no-pick _ _ _ _ (le-ltb 127 a.cmd (omega arith))
    (no-pick _ _ _ _ (le-ltb 7609 (length a.payload.now) (omega arith)) (ap (ltb a.index) (c.packets_in.ensures ∙ sym (hid-count (length a.payload.now)))))
