use Rattle.ctaphid.proofs.Tests.{tests}
use Rattle.ble.specs.Soundness.{is_sound}
use Rattle.ble.proofs.soundness.is_sound.Goals as goal

pub returns-then-collection-eq0 : goal.returns-then-collection-eq0
unfolding is_sound
returns-then-collection-eq0 c = search tests depth 20

pub returns-then-collection : goal.returns-then-collection
unfolding is_sound
returns-then-collection c = search tests depth 20

pub returns-then-collection-space : goal.returns-then-collection-space
unfolding is_sound
returns-then-collection-space c = search tests depth 20

pub returns : goal.returns
unfolding is_sound
returns c = search tests depth 20
