use Rattle.receive.proofs.Receiving.{refusal}
use Rattle.receive.proofs.assembler.refusal.Goals as goal

pub returns-then-message-max : goal.returns-then-message-max
returns-then-message-max c = search refusal

pub returns-then-time-gt-LAST_TIME_MS : goal.returns-then-time-gt-LAST_TIME_MS
returns-then-time-gt-LAST_TIME_MS c = search refusal

pub returns-then-is_sound : goal.returns-then-is_sound
returns-then-is_sound c = search refusal

pub returns : goal.returns
returns c = search refusal
