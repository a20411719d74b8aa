use borrow.Author.Tests.{eq-eqb, ne_eqb}
use Rattle.ctaphid.proofs.Tests.{tests}
use Rattle.receive.proofs.Receiving.{turns, yes-turn, no-turn, own_first, reset-fault}
use Rattle.receive.proofs.assembler.on_own.Goals as goal

pub returns-then-cmd-eq-INIT : goal.returns-then-cmd-eq-INIT
returns-then-cmd-eq-INIT c = search (eq-eqb, yes-turn, own_first)

pub returns-else-cmd-eq-INIT : goal.returns-else-cmd-eq-INIT
returns-else-cmd-eq-INIT c = search (ne_eqb, no-turn, own_first, reset-fault)

pub returns-then-seq-due : goal.returns-then-seq-due
returns-then-seq-due c = search (tests, turns)

pub returns-else-seq-due : goal.returns-else-seq-due
returns-else-seq-due c = search (tests, turns)
