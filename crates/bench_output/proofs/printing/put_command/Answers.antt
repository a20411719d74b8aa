use native.Mathlib.Omega.{arith}
use Rattle.bench_input.specs.Hex.{hex_of}
use Rattle.bench_output.specs.Printing.{command_line}
use Rattle.bench_output.proofs.Puts.{put_both}
use Rattle.bench_output.proofs.Spelling.{four-put, payload-length}
use Rattle.bench_output.proofs.printing.put_command.Goals as goal

pub put-c-requires : goal.put-c-requires
unfolding hex_of
put-c-requires c = omega (arith, four-put (omega arith) c.to_be_bytes.ensures c.put_hex-b.ensures)

pub put_hex-d-requires : goal.put_hex-d-requires
unfolding hex_of
put_hex-d-requires c = omega (arith, four-put (omega arith) c.to_be_bytes.ensures c.put_hex-b.ensures)

pub put_payload-e-requires : goal.put_payload-e-requires
unfolding hex_of
put_payload-e-requires c = omega (arith, four-put (omega arith) c.to_be_bytes.ensures c.put_hex-b.ensures)

pub put-requires : goal.put-requires
unfolding hex_of
put-requires c = omega (arith, four-put (omega arith) c.to_be_bytes.ensures c.put_hex-b.ensures, payload-length c.args.payload.now)

pub returns : goal.returns
unfolding command_line hex_of
returns c =
    put_both (omega (arith, c.requires, payload-length c.args.payload.now))
    (put_both (omega (arith, c.requires))
    (put_both (omega (arith, c.requires))
    (put_both (omega (arith, c.requires))
    (put_both (omega (arith, c.requires))
    c.put-a.ensures
    (four-put (omega arith) c.to_be_bytes.ensures c.put_hex-b.ensures))
    c.put-c.ensures)
    c.put_hex-d.ensures)
    c.put_payload-e.ensures)
    c.put.ensures
