use Prim.Native.Nat.{ℕ, ◌+◌}
use native.Mathlib.Omega.{arith}
use mathlib.Core.Path.{◌≡◌, refl, sym, ap, ◌∙◌}
use mathlib.Core.List.{◌++◌}
use lib.ListN.{length, take, drop}
use Rattle.collect.specs.Adding.{front, added, add_of}
use Rattle.collect.specs.declared.Added.TheVariants.{Waiting}
use Rattle.collect.proofs.Adding.{put_front, add-waits}
use Rattle.receive.proofs.Receiving.{collected-waiting}
use Rattle.hid.proofs.shortcut.append_block.Goals as goal

pub returns : goal.returns
returns c =
    let a = c.args.a in
    let m = c.args.message.now in
    let field = c.args.«data».now in
    let size : length field ≡ 59 = c.requires.data_len.0 in
    let there : c.put_block.new.message ≡ take a.taken m ++ (field ++ drop (a.taken + length field) m) = c.put_block.ensures in
    let put : c.put_block.new.message ≡ front (take a.taken m ++ field) m = there ∙ put_front m field a.taken (omega (arith, c.requires.adds.taken, c.requires.adds.room)) in
    let e : added (Waiting (a.taken + 59)) c.put_block.new.message ≡ add_of m a.taken a.len field =
    ap (added (Waiting (a.taken + 59))) put
    ∙ (ap (λ (n : ℕ). added (Waiting (a.taken + n)) (front (take a.taken m ++ field) m)) (sym size)
    ∙ sym (add-waits m a.taken a.len field c.requires.adds.taken c.requires.adds.room (omega (arith, size, c.requires.data_len.1)))) in
    collected-waiting a m field c.requires.adds {r = Waiting (a.taken + 59)} c.put_block.new.message e {n = a.taken + 59} _ refl refl
