use Rattle.hid.proofs.Refusing.{running-sound, running-unsound}
use Rattle.key.specs.Questions.{key_running_of}
use Rattle.key.proofs.questions.running.Goals as goal

pub returns-then-is_key_sound : goal.returns-then-is_key_sound
unfolding key_running_of
returns-then-is_key_sound c = search (running-sound, running-unsound)

pub returns : goal.returns
unfolding key_running_of
returns c = search (running-sound, running-unsound)
