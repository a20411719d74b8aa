use Prim.Native.Nat.{ℕ, suc, ◌+◌, ◌-◌, ◌*◌, ◌%◌}
use native.Mathlib.Omega.{arith}
use mathlib.Core.Path.{◌≡◌, sym, ap, ◌∙◌}
use mathlib.Core.List.{List, [], ◌∷◌}
use lib.ListN.{take, get_or}
use Rattle.ctaphid.specs.Bluetooth.{written, fragments_written}
use Rattle.ctaphid.proofs.Bluetooth.{wire-first, wire-later, wire-length}
use Rattle.packet.proofs.Parts.{rest}
use Rattle.ble.specs.Writing.{put}
use Rattle.ble.proofs.writing.put_fragment.Goals as goal

pub returns-then-index-eq0 : goal.returns-then-index-eq0
unfolding written
returns-then-index-eq0 c =
    let a = c.args in
    let zero : a.index ≡ 0 = omega arith in
    c.lay.ensures ∙ ap (λ (f : List ℕ). put f a.buffer.now) (sym (ap (λ (i : ℕ). get_or (fragments_written a.size a.cmd a.payload.now) i []) zero ∙ wire-first a.size a.cmd a.payload.now))

pub returns : goal.returns
unfolding written
returns c =
    let a = c.args in
    let up : a.index ≡ suc (a.index - 1) = omega arith in
    let many = wire-length a.size a.cmd a.payload.now c.requires.smallest in
    let part = rest (a.size - 3 + (a.size - 1) * (a.index - 1)) a.payload.now in
    let is = wire-later a.size a.cmd a.payload.now c.requires.smallest (a.index - 1) (omega (arith, many, c.requires.within, up)) in
    (c.lay-2.ensures ∙ ap (λ (d : List ℕ). put ((a.index - 1) % 128 ∷ take (a.size - 1) d) a.buffer.now) part)
    ∙ ap (λ (f : List ℕ). put f a.buffer.now) (sym (ap (λ (i : ℕ). get_or (fragments_written a.size a.cmd a.payload.now) i []) up ∙ is))
