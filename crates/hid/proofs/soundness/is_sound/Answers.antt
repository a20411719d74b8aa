use Rattle.ctaphid.proofs.Tests.{tests}
use Rattle.hid.specs.Soundness.{is_sound}
use Rattle.hid.proofs.Sound.{timely-yes, timely-no}
use Rattle.hid.proofs.soundness.is_sound.Goals as goal

pub returns-then-hid-gt7609 : goal.returns-then-hid-gt7609
unfolding is_sound
returns-then-hid-gt7609 c = search (tests, timely-yes, timely-no) depth 12

pub returns-then-hid-gt4294967294 : goal.returns-then-hid-gt4294967294
unfolding is_sound
returns-then-hid-gt4294967294 c = search (tests, timely-yes, timely-no) depth 12

pub returns-then-hid-gt-LAST_TIME_MS : goal.returns-then-hid-gt-LAST_TIME_MS
unfolding is_sound
returns-then-hid-gt-LAST_TIME_MS c = search (tests, timely-yes, timely-no) depth 12

pub returns-then-is_timely : goal.returns-then-is_timely
unfolding is_sound
returns-then-is_timely c = search (tests, timely-yes, timely-no) depth 12

pub returns : goal.returns
unfolding is_sound
returns c = search (tests, timely-yes, timely-no) depth 12
