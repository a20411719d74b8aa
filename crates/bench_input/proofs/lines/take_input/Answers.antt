use Prim.Native.Nat.{ℕ, ◌+◌}
use native.Mathlib.Omega.{arith}
use mathlib.Core.Path.{◌≡◌, ap, subst⁻¹, ◌∙◌}
use mathlib.Core.List.{List}
use lib.ListN.{length, take, get_or}
use lib.Seq.{length-take-le}
use lib.Dec.{eqb}
use Rattle.bench_input.specs.Hex.{'1', bytes_of, is_hex}
use Rattle.ctaphid.specs.Messages.{padded}
use Rattle.bench_input.specs.Lines.{Decimal, input_of, read}
use Rattle.std.proofs.Common.{Ok, Some}
use Rattle.packet.proofs.Parts.{rest}
use Rattle.bench_input.proofs.Digits.{in-front}
use Rattle.bench_input.proofs.AsWritten.{form-is}
use Rattle.bench_input.proofs.lines.take_input.Goals as goal

pub overflow_add-flag : goal.overflow_add-flag
overflow_add-flag c = omega (arith, form-is c.args.line.now c.args.digits c.requires.1)

pub overflow_add-hex : goal.overflow_add-hex
overflow_add-hex c = omega (arith, form-is c.args.line.now c.args.digits c.requires.1)

pub slice_bounds-decode-count : goal.slice_bounds-decode-count
slice_bounds-decode-count c = omega (arith, form-is c.args.line.now c.args.digits c.requires.1)

pub slice_bounds-decode-start : goal.slice_bounds-decode-start
slice_bounds-decode-start c = omega (arith, form-is c.args.line.now c.args.digits c.requires.1)

pub decode-requires : goal.decode-requires
decode-requires c =
    let f = form-is c.args.line.now c.args.digits c.requires.1 in
    (ap is_hex (rest (c.args.digits + 3) c.args.line.now) ∙ f.hex, c.requires.2)

pub slice_bounds-number-end : goal.slice_bounds-number-end
slice_bounds-number-end c =
    let f = form-is c.args.line.now c.args.digits c.requires.1 in
    omega (arith, length-take-le c.args.digits c.args.line.now (omega (arith, f.long)))

pub number-requires : goal.number-requires
number-requires c =
    let l = c.args.line.now in
    let n = c.args.digits in
    let f = form-is l n c.requires.1 in
    let size : length (take n l) ≡ n = length-take-le n l (omega (arith, f.long)) in
    (omega (arith, f.most), subst⁻¹ (λ (k : ℕ). Decimal (take k l)) c.requires.0 (in-front l))

pub bounds-line-flag : goal.bounds-line-flag
bounds-line-flag c = omega (arith, form-is c.args.line.now c.args.digits c.requires.1)

pub returns : goal.returns
unfolding input_of
returns c =
    let l = c.args.line.now in
    let n = c.args.digits in
    let bytes = c.decode.ensures ∙ ap (λ (h : List ℕ). padded 64 (bytes_of h)) (rest (n + 3) l) in
    λ i. read (Ok (Some (record { time = c.number.ensures i; disabled = eqb (get_or l (n + 1) 0) '1' }))) (bytes i)
