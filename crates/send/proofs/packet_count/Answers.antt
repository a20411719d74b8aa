use mathlib.Core.Path.{sym, ap, ◌∙◌}
use native.Mathlib.Omega.{arith}
use borrow.Author.Tests.{le-ltb}
use Rattle.ctaphid.proofs.Tests.{tests, no-pick}
use Rattle.ctaphid.proofs.Splitting.{hid-count}
use Rattle.send.specs.Sending.{count_of}
use Rattle.send.specs.declared.Count.TheVariants.{Packets}
use Rattle.send.proofs.packet_count.Goals as goal

pub returns-then-len-gt-LARGEST_PAYLOAD : goal.returns-then-len-gt-LARGEST_PAYLOAD
unfolding count_of
returns-then-len-gt-LARGEST_PAYLOAD c = search tests

pub returns : goal.returns
unfolding count_of
returns c = no-pick _ _ _ _ (le-ltb 7609 c.args.len (omega arith)) (ap Packets (c.packets_in.ensures ∙ sym (hid-count _)))
