use Rattle.hid.specs.Questions.{running_of}
use Rattle.hid.proofs.Refusing.{running-sound, running-unsound}
use Rattle.hid.proofs.questions.running.Goals as goal

pub returns-then-is_sound : goal.returns-then-is_sound
unfolding running_of
returns-then-is_sound c = search (running-sound, running-unsound)

pub returns : goal.returns
unfolding running_of
returns c = search (running-sound, running-unsound)
