-- The definition gives the example's lines. Assumes nothing.
use mathlib.Core.Path.{refl}
use mathlib.Core.List.{flatten}
use Rattle.ctaphid.specs.Choice.{pick}
use Rattle.ctaphid.specs.Packets.{written}
use Rattle.ctaphid.specs.Messages.{later, chunks, padded, fields, numbered, packets}
use Rattle.bench_input.specs.Hex.{hex_of}
use Rattle.bench_output.specs.Placing.{decimal}
use Rattle.bench_output.specs.Packets.{front_zeros_dropped, end_zeros_dropped, trimmed, packet_line, packet_lines}
use Rattle.bench_output.specs.Printing.{command_line, refused_line, answer_lines}
use Rattle.bench_output.specs.Examples.{ExampleLines}

pub example-lines : ExampleLines
unfolding pick flatten written later chunks padded fields numbered packets hex_of decimal front_zeros_dropped end_zeros_dropped trimmed packet_line command_line refused_line packet_lines answer_lines
example-lines = record {
  init = refl;
  ping = refl;
  error = refl;
  command = refl;
  none = refl;
  refusal = refl;
  kept = refl;
  no_payload = refl;
  two_digits = refl;
  three-digits = refl;
}
