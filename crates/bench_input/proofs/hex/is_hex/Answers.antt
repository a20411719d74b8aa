use Rattle.ctaphid.proofs.Tests.{tests}
use Rattle.bench_input.specs.Hex.{is_hex}
use Rattle.bench_input.proofs.hex.is_hex.Goals as goal
use Rattle.bench_input.proofs.hex.is_hex.Goals.{then-hex-lt2-via-then-hex-lt2, then-hex-lt2-via-else-hex-lt2+then-hex-gt-MOST_HEX, then-hex-lt2-via-else-hex-lt2+else-hex-gt-MOST_HEX+then-hex-ne0}

pub returns-then-hex-lt2 : goal.returns-then-hex-lt2
unfolding is_hex
returns-then-hex-lt2 c =
    elim c.then-hex-lt2.branch [
      | then-hex-lt2-via-then-hex-lt2 w ↦ search tests depth 20
      | then-hex-lt2-via-else-hex-lt2+then-hex-gt-MOST_HEX w ↦ search tests depth 20
      | then-hex-lt2-via-else-hex-lt2+else-hex-gt-MOST_HEX+then-hex-ne0 w ↦ search tests depth 20
    ]

pub returns : goal.returns
unfolding is_hex
returns c = search (tests, c.all_hex.ensures) depth 20
