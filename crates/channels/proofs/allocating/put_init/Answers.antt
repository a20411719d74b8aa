use native.Mathlib.Omega.{arith}
use mathlib.Core.Path.{refl}
use Rattle.channels.proofs.Inits.{copied-twice}
use Rattle.channels.proofs.allocating.put_init.Goals as goal

pub returns : goal.returns
returns c = rw (c.copy_from_slice.ensures.after, c.copy_from_slice-2.ensures.after) (copied-twice 8 c.args.reply.now c.args.nonce.now _ _ c.requires.0 (omega arith) refl)
