-- What is returned is nothing, and what is lent is only read, so that each contract leaves one outcome, whatever prints. Assumes nothing.
use mathlib.Core.Path.{refl}
use denote.RattleType.{RattleType}
use mir.Syntax.{Dict}
use Rattle.std.specs.declared.fmt.Display as Display
use Rattle.std.specs.declared.io.Print as Print
use Rattle.outcome.specs.One.{OneOutcome, from-facts}
use Rattle.report.specs.contracts.text as text
use Rattle.report.specs.contracts.hex as hex
use Rattle.report.specs.contracts.print as print

module _ (R : RattleType) (prints : Print.Ghosts R.Denot) (prints-by : Dict) where
  pub text-one : OneOutcome (text.ended R prints prints-by) (λ M 𝓤 𝓛. text.clauses R prints prints-by 𝓛) (λ M 𝓤 𝓛. text.spec R prints prints-by 𝓛)
  text-one = record {
    stated = λ M 𝓤 𝓛 mem run. refl;
    one = λ {𝓤 = 𝓤} 𝓛 mem run κs a g x y v w. from-facts 𝓤 (λ p q. (refl, refl));
  }

  pub hex-one : OneOutcome (hex.ended R prints prints-by) (λ M 𝓤 𝓛. hex.clauses R prints prints-by 𝓛) (λ M 𝓤 𝓛. hex.spec R prints prints-by 𝓛)
  hex-one = record {
    stated = λ M 𝓤 𝓛 mem run. refl;
    one = λ {𝓤 = 𝓤} 𝓛 mem run κs a g x y v w. from-facts 𝓤 (λ p q. (refl, refl));
  }

  pub print-one : (D : RattleType) (shown : Display.Ghosts D.Denot) (shown-by dropped-by : Dict)
      → OneOutcome (print.ended D R shown shown-by prints prints-by dropped-by)
      (λ M 𝓤 𝓛. print.clauses D R shown shown-by prints prints-by dropped-by 𝓛)
      (λ M 𝓤 𝓛. print.spec D R shown shown-by prints prints-by dropped-by 𝓛)
  print-one D shown shown-by dropped-by = record {
    stated = λ M 𝓤 𝓛 mem run. refl;
    one = λ {𝓤 = 𝓤} 𝓛 mem run κs a g x y v w. from-facts 𝓤 (λ p q. (refl, refl));
  }
