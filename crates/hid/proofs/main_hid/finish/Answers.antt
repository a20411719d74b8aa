use Rattle.hid.proofs.Finishing.{outers}
use Rattle.hid.proofs.main_hid.finish.Goals as goal

pub returns-in-Message : goal.returns-in-Message
returns-in-Message c = search outers

pub returns-in-Nothing : goal.returns-in-Nothing
returns-in-Nothing c = search outers

pub returns-in-Echo : goal.returns-in-Echo
returns-in-Echo c = search outers

pub returns-in-Reply : goal.returns-in-Reply
returns-in-Reply c = search outers
