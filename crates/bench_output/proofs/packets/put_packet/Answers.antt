use native.Mathlib.Omega.{arith}
use lib.ListN.{take, length-take}
use lib.Seq.{length-take-le}
use Rattle.bench_output.specs.Packets.{trimmed, packet_line}
use Rattle.bench_output.proofs.Puts.{put_both}
use Rattle.bench_input.proofs.ReadBack.{length-hex}
use Rattle.bench_output.proofs.Spelling.{trimmed-length}
use Rattle.bench_output.proofs.packets.put_packet.Goals as goal

pub slice_bounds-put_hex-end : goal.slice_bounds-put_hex-end
slice_bounds-put_hex-end c = simp length-take (omega arith)

pub put_hex-b-requires : goal.put_hex-b-requires
put_hex-b-requires c = simp length-take (omega arith)

pub put-requires : goal.put-requires
put-requires c =
    let p = c.args.packet.now in
    let shown = c.shown_in-shown.result in
    omega (arith, length-hex (take shown p), length-take-le shown p (omega arith))

pub returns : goal.returns
unfolding packet_line
returns c =
    let p = c.args.packet.now in
    put_both (omega (arith, length-hex (trimmed p), trimmed-length p))
    (put_both (omega arith) c.put-a.ensures (rw c.shown_in-shown.ensures.1 at c.put_hex-b.ensures))
    c.put.ensures
