use Prim.Native.Nat.{◌+◌}
use native.Mathlib.Omega.{arith}
use mathlib.Core.Path.{◌≡◌, sym, ap, ◌∙◌}
use mathlib.Core.List.{◌++◌}
use lib.ListN.{length, take, drop}
use Rattle.collect.specs.Adding.{added}
use Rattle.collect.specs.declared.Added.TheVariants.{Waiting, Whole}
use Rattle.collect.proofs.Adding.{put_front, put-left, add-over, add-room, add-waits, add-whole}
use Rattle.collect.proofs.add_data.Goals as goal

pub returns-then-taken-len : goal.returns-then-taken-len
returns-then-taken-len c = sym (add-over _ _ _ _ (omega arith))

pub returns-then-len-message : goal.returns-then-len-message
returns-then-len-message c = sym (add-room _ _ _ _ (omega arith) (omega arith))

pub returns-then-data-left : goal.returns-then-data-left
returns-then-data-left c =
    let a = c.args in
    let m = a.message.now in
    let field = a.«data».now in
    let put : c.put.new.message ≡ take a.taken m ++ (field ++ drop (a.taken + length field) m) = c.put.ensures in
    ap (added (Waiting (a.taken + length field))) (put ∙ put_front m field a.taken (omega arith))
    ∙ sym (add-waits m a.taken a.len field (omega arith) (omega arith) (omega arith))

pub returns-else-data-left : goal.returns-else-data-left
returns-else-data-left c =
    let a = c.args in
    ap (added Whole) (c.put-else-data-left.ensures ∙ put-left a.message.now a.«data».now a.taken a.len (omega arith) (omega arith))
    ∙ sym (add-whole _ _ _ _ (omega arith) (omega arith) (omega arith))
