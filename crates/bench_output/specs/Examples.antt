-- What some answers print: the example of docs/RULES.md (examples/first.out), and what it leaves out, as 7 bytes kept, an empty payload, numbers of two and
-- three digits. Assumes nothing.
use Rattle.std.specs.Prelude.{◌≡◌, [], ◌∷◌}
use Rattle.ctaphid.specs.Commands.{MSG, CBOR, INIT, PING, ERROR, WINK}
use Rattle.ctaphid.specs.Transport.{nothing, reply, request}
use Rattle.answers.specs.Answers.{refused, answered}
use Rattle.bench_input.specs.Hex.{ascii}
use Rattle.bench_output.specs.Printing.{answer_lines}

pub record ExampleLines : Type 0 where
  pub init : answer_lines (answered (reply 0xffff_ffff INIT (1 ∷ 2 ∷ 3 ∷ 4 ∷ 5 ∷ 6 ∷ 7 ∷ 8 ∷ 0 ∷ 0 ∷ 0 ∷ 1 ∷ 2 ∷ 1 ∷ 0 ∷ 0 ∷ 5 ∷ []))) ≡ ascii "> ffffffff8600110102030405060708000000010201000005\n"
  pub ping : answer_lines (answered (reply 1 PING (0xab ∷ 0xcd ∷ []))) ≡ ascii "> 00000001810002abcd\n"
  pub error : answer_lines (answered (reply 2 ERROR (0x0b ∷ []))) ≡ ascii "> 00000002bf00010b\n"
  pub command : answer_lines (answered (request 1 CBOR (4 ∷ []))) ≡ ascii "command 00000001 10 04\n"
  pub none : answer_lines (answered nothing) ≡ ascii "-\n"
  pub refusal : answer_lines (refused 4) ≡ ascii "refused 4\n"
  pub kept : answer_lines (answered (reply 1 WINK [])) ≡ ascii "> 00000001880000\n"
  pub no_payload : answer_lines (answered (request 0xdead_beef MSG [])) ≡ ascii "command deadbeef 03\n"
  pub two_digits : answer_lines (refused 12) ≡ ascii "refused 12\n"
  pub three-digits : answer_lines (refused 105) ≡ ascii "refused 105\n"
