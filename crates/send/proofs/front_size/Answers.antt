use borrow.Author.Tests.{eq-eqb, ne_eqb}
use Rattle.ctaphid.specs.Choice.{pick}
use Rattle.send.proofs.front_size.Goals as goal

pub returns-then-index-eq0-clause-value : goal.returns-then-index-eq0-clause-value
unfolding pick
returns-then-index-eq0-clause-value c = simp (eq-eqb _ 0 c.if-index-eq0.true)

pub returns-clause-value : goal.returns-clause-value
unfolding pick
returns-clause-value c = simp (ne_eqb _ 0 c.if-index-eq0.false)
