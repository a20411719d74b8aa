use Prim.Native.Nat.{ℕ, ◌+◌, ◌≤◌}
use native.Mathlib.Omega.{arith}
use mathlib.Core.Path.{◌≡◌, refl, sym, ap, ◌∙◌}
use mathlib.Core.Bool.{Bool, true, false, cond}
use borrow.Author.Tests.{ltb-false}
use lib.Dec.{eqb, ltb}
use lib.ListN.{length, drop, length-drop}
use Rattle.std.proofs.Common.{Option, Some, None, rules, tests}
use Rattle.std.proofs.lemmas.Iterator.{YieldsList-from_slice}
use Rattle.std.proofs.lemmas.Iterator.Search.{position_from_yields_List}
use Rattle.std.proofs.lemmas.List.Sums.{prefix_len-le-length}
use Rattle.std.specs.List.{position_or_len}
use Rattle.packet.proofs.Parts.{rest}
use Rattle.bench_input.specs.Pieces.{newline}
use Rattle.bench_input.proofs.pieces.line_end.Goals as goal

some-is : (found : Bool) (n place : ℕ) → Some n ≡ cond found (Some place) None → n ≡ place
some-is true n place e = cc
some-is false n place e = cc

none-is : (found : Bool) (place : ℕ) → ◌≡◌ {A = Option ℕ} None (cond found (Some place) None) → found ≡ false
none-is true place e = cc
none-is false place e = refl

pub returns-in-Some-clause-value : goal.returns-in-Some-clause-value
returns-in-Some-clause-value c =
    let left = drop c.args.from c.args.input.now in
    let place = position_or_len (λ b. eqb b newline) left in
    let is : c.position.result ≡ cond (ltb place (length left)) (Some place) None =
    position_from_yields_List (λ b. eqb b newline) _ _ c.position.result c.position.ensures.ran (YieldsList-from_slice left (c.iter.ensures.rest ∙ rest c.args.from c.args.input.now)) (λ x b q k. search (rules, tests)) in
    ap (λ (n : ℕ). c.args.from + n) (some-is (ltb place (length left)) c.in-Some.n place (sym c.in-Some.is ∙ is))

pub returns-in-None-clause-value : goal.returns-in-None-clause-value
returns-in-None-clause-value c =
    let left = drop c.args.from c.args.input.now in
    let place = position_or_len (λ b. eqb b newline) left in
    let is : c.position.result ≡ cond (ltb place (length left)) (Some place) None =
    position_from_yields_List (λ b. eqb b newline) _ _ c.position.result c.position.ensures.ran (YieldsList-from_slice left (c.iter.ensures.rest ∙ rest c.args.from c.args.input.now)) (λ x b q k. search (rules, tests)) in
    let past : length left ≤ place = ltb-false place (length left) (none-is (ltb place (length left)) place (sym c.in-None.is ∙ is)) in
    let most : place ≤ length left = prefix_len-le-length _ left in
    omega (arith, length-drop c.args.from c.args.input.now)
