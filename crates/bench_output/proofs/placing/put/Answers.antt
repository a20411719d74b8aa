use Prim.Native.Nat.{◌+◌}
use lib.ListN.{length, take, drop}
use mathlib.Core.Path.{sym, refl}
use mathlib.Core.List.{append_assoc}
use native.Mathlib.Omega.{arith}
use borrow.Rule.Slice.PartMut.{Post-is}
use Rattle.bench_output.proofs.placing.put.Goals as goal

pub returns : goal.returns
returns c =
    let a = c.args in
    let end = a.at + length a.text.now in
    record {
      next = refl;
      bytes = rw (Post-is a.at end a.out.now (omega arith), c.copy_from_slice.ensures.after) (sym (append_assoc (take a.at a.out.now) a.text.now (drop end a.out.now)));
    }
