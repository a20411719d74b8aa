use Rattle.touch.proofs.Sending.{other-interface, other-channel, own-cancel, own-dropped}
use Rattle.touch.proofs.responding.on_packet.Goals as goal

pub returns-then-from-interface : goal.returns-then-from-interface
returns-then-from-interface c = search (other-interface, other-channel, own-cancel, own-dropped)

pub returns-then-channel-cid : goal.returns-then-channel-cid
returns-then-channel-cid c = search (other-interface, other-channel, own-cancel, own-dropped)

pub returns-then-is_cancel : goal.returns-then-is_cancel
returns-then-is_cancel c = search (other-interface, other-channel, own-cancel, own-dropped)

pub returns : goal.returns
returns c = search (other-interface, other-channel, own-cancel, own-dropped)
