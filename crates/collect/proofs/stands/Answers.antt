use Rattle.ctaphid.proofs.Tests.{tests}
use Rattle.collect.specs.Standing.{is_standing}
use Rattle.collect.proofs.stands.Goals as goal

pub returns-then-len-le57 : goal.returns-then-len-le57
unfolding is_standing
returns-then-len-le57 c = search tests depth 20

pub returns-then-len-most : goal.returns-then-len-most
unfolding is_standing
returns-then-len-most c = search tests depth 20

pub returns-then-len-at : goal.returns-then-len-at
unfolding is_standing
returns-then-len-at c = search tests depth 20

pub returns : goal.returns
unfolding is_standing
returns c = search tests depth 20
