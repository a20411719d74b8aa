use native.Mathlib.Omega.{arith}
use mathlib.Core.Path.{◌≡◌, sym, ◌∙◌}
use lib.ListN.{length}
use lib.Seq.{take_all}
use Rattle.ctaphid.specs.Messages.{padded}
use Rattle.bench_input.specs.Hex.{bytes_of}
use Rattle.bench_input.proofs.ReadBack.{hex-is, read_length, padded-at, padded-length, front-more}
use Rattle.bench_input.proofs.hex.decode.Goals as goal

pub byte_at-requires : goal.byte_at-requires
byte_at-requires c = ((hex-is c.args.hex.now c.requires.0).all, omega arith)

pub loop-i-preserved : goal.loop-i-preserved
loop-i-preserved c =
    let at = c.loop-i in
    let hex = c.args.hex.now in
    let h = hex-is hex c.requires.0 in
    let size : length (padded 64 (bytes_of hex)) ≡ 64 = padded-length 64 (bytes_of hex) (omega (arith, read_length hex h.even)) in
    front-more (padded 64 (bytes_of hex)) at.packet at.i _ (omega arith) (omega arith) at.invariant (c.byte_at.ensures ∙ sym (padded-at 64 (bytes_of hex) at.i))

pub returns : goal.returns
returns c =
    let at = c.loop-i in
    let hex = c.args.hex.now in
    let h = hex-is hex c.requires.0 in
    let size : length (padded 64 (bytes_of hex)) ≡ 64 = padded-length 64 (bytes_of hex) (omega (arith, read_length hex h.even)) in
    sym (take_all at.i at.packet (omega arith)) ∙ (at.invariant ∙ take_all at.i (padded 64 (bytes_of hex)) (omega arith))
