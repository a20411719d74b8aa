-- The loop returns nothing, and what it is lent is only read, so that its contract leaves one outcome, whatever reads and prints. Assumes nothing.
use mathlib.Core.Path.{refl}
use denote.RattleType.{RattleType}
use mir.Syntax.{Dict}
use Rattle.std.specs.declared.io.Input as Input
use Rattle.std.specs.declared.io.Print as Print
use Rattle.std.specs.declared.io.traits.BufRead as BufRead
use Rattle.std.specs.declared.io.traits.Read as Read
use Rattle.outcome.specs.One.{OneOutcome, from-facts}
use Rattle.bench_run.specs.contracts.run as run

module _ (R Reader : RattleType) (input : Input.Ghosts R.Denot Reader.Denot) (input-by : Dict) (buffered : BufRead.Ghosts Reader.Denot) (buffered-by : Dict)
    (read : Read.Ghosts Reader.Denot) (read-by : Dict) (prints : Print.Ghosts R.Denot) (prints-by : Dict) (dropped-by : Dict) where
  pub run-one : OneOutcome (run.ended R Reader input input-by buffered buffered-by read read-by prints prints-by dropped-by)
      (λ M 𝓤 𝓛. run.clauses R Reader input input-by buffered buffered-by read read-by prints prints-by dropped-by 𝓛)
      (λ M 𝓤 𝓛. run.spec R Reader input input-by buffered buffered-by read read-by prints prints-by dropped-by 𝓛)
  run-one = record {
    stated = λ M 𝓤 𝓛 mem run. refl;
    one = λ {𝓤 = 𝓤} 𝓛 mem run κs a g x y v w. from-facts 𝓤 (λ p q. (refl, refl));
  }
