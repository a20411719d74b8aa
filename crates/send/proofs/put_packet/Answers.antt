use Prim.Native.Nat.{ℕ, suc, ◌+◌, ◌*◌, ◌-◌, ◌/◌, ◌<◌}
use native.Mathlib.Omega.{arith}
use mathlib.Core.Path.{◌≡◌, sym, ap, ◌∙◌}
use mathlib.Core.List.{[]}
use borrow.Author.Tests.{eq-eqb, ne_eqb}
use lib.ListN.{length, take, drop, get_or}
use Rattle.ctaphid.specs.Choice.{pick}
use Rattle.ctaphid.specs.Messages.{padded, wire}
use Rattle.ctaphid.proofs.Messages.{wire-first, wire-later}
use Rattle.packet.proofs.Parts.{rest}
use Rattle.send.proofs.put_packet.Goals as goal

pub returns-then-index-eq0 : goal.returns-then-index-eq0
unfolding pick
returns-then-index-eq0 c =
    let a = c.args in
    let first : a.index ≡ 0 = omega arith in
    let size : c.front_size.result ≡ 7 = c.front_size.ensures.value ∙ simp (eq-eqb _ 0 first) in
    let room : length a.packet.now - 7 ≡ 57 = omega (arith, c.requires.size) in
    let place : c.data_at-at.result ≡ 0 = omega arith in
    let field : drop 7 c.consume_data.new.packet ≡ padded 57 (take 57 a.payload.now) =
    rw (size, room, rest c.data_at-at.result a.payload.now, place) at c.consume_data.ensures in
    c.init_packet.ensures ∙ rw (field, first) (sym (wire-first a.cid a.cmd a.payload.now))

pub returns : goal.returns
unfolding pick
returns c =
    let a = c.args in
    let later : a.index ≡ suc (a.index - 1) = omega arith in
    let within : 1 + (a.index - 1) < 1 + (length a.payload.now + 1) / 59 = omega (arith, c.requires.within, later) in
    let size : c.front_size.result ≡ 5 = c.front_size.ensures.value ∙ simp (ne_eqb _ 0 c.if-index-eq0.false) in
    let room : length a.packet.now - 5 ≡ 59 = omega (arith, c.requires.size) in
    let place : c.data_at-at.result ≡ 57 + 59 * (a.index - 1) = omega arith in
    let field : drop 5 c.consume_data.new.packet ≡ padded 59 (take 59 (drop (57 + 59 * (a.index - 1)) a.payload.now)) =
    rw (size, room, rest c.data_at-at.result a.payload.now, place) at c.consume_data.ensures in
    c.continuation_packet.ensures ∙ (rw field (sym (wire-later a.cid a.cmd a.payload.now (a.index - 1) within)) ∙ ap (λ (i : ℕ). get_or (wire a.cid a.cmd a.payload.now) i []) (sym later))
