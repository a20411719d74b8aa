-- What some lines read as, by computing. Assumes nothing.
use mathlib.Core.Path.{refl}
use Rattle.ctaphid.specs.Choice.{pick}
use Rattle.bench_input.specs.Hex.{hex_of, hex_value, bytes_of, is_hex}
use Rattle.bench_input.specs.Lines.{is_formed, input_of, line_of}
use Rattle.bench_input.specs.Examples.{Examples}

pub examples : Examples
unfolding pick hex_of hex_value bytes_of is_hex is_formed input_of line_of
examples = record {
  first = refl;
  flagged = refl;
  digits-15 = refl;
  bytes-64 = refl;
  empty = refl;
  digits-16 = refl;
  bytes-65 = refl;
  no-digits = refl;
  sign = refl;
  flag-2 = refl;
  no_bytes = refl;
  odd = refl;
  capital = refl;
  two-spaces = refl;
  tab = refl;
  space-in-front = refl;
  space-after = refl;
  carriage-return = refl;
}
