use Rattle.hid.proofs.Refusing.{refusal}
use Rattle.hid.proofs.refusals.refusal.Goals as goal

pub returns-then-packet-ne-PACKET_SIZE : goal.returns-then-packet-ne-PACKET_SIZE
returns-then-packet-ne-PACKET_SIZE c = search refusal

pub returns-then-message-hid : goal.returns-then-message-hid
returns-then-message-hid c = search refusal

pub returns-then-reply-lt-SHORT_REPLY_SIZE : goal.returns-then-reply-lt-SHORT_REPLY_SIZE
returns-then-reply-lt-SHORT_REPLY_SIZE c = search refusal

pub returns-then-is_sound : goal.returns-then-is_sound
returns-then-is_sound c = search refusal

pub returns : goal.returns
returns c = search refusal
