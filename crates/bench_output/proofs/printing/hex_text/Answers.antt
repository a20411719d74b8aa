use Prim.Native.Nat.{◌*◌}
use lib.ListN.{length}
use native.Mathlib.Omega.{arith}
use Rattle.ctaphid.proofs.Tests.{tests, no-pick}
use borrow.Author.Tests.{le-ltb}
use Rattle.bench_output.specs.Printing.{hex_text_of}
use Rattle.bench_output.proofs.Spelling.{at_front}
use Rattle.bench_output.proofs.printing.hex_text.Goals as goal

pub returns-then-out-bytes : goal.returns-then-out-bytes
unfolding hex_text_of
returns-then-out-bytes c = search tests

pub returns : goal.returns
unfolding hex_text_of
returns c =
    let a = c.args in
    no-pick _ _ _ _ (le-ltb (length a.out.now) (2 * length a.bytes.now) (omega arith)) (at_front c.put_hex.ensures)
