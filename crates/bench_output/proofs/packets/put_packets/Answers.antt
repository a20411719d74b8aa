use Prim.Native.Nat.{◌+◌, ◌/◌, ◌<◌}
use native.Mathlib.Omega.{arith}
use mathlib.Core.Path.{◌≡◌}
use lib.ListN.{length, get_or}
use mathlib.Core.List.{[]}
use Rattle.ctaphid.specs.Messages.{wire}
use Rattle.bench_output.proofs.Puts.{put-none}
use Rattle.bench_output.proofs.Spelling.{line-length}
use Rattle.bench_output.proofs.Cutting.{first-none, first-all, packets-turn, packet-written}
use Rattle.std.proofs.Common.{rules}
use Rattle.bench_output.proofs.packets.put_packets.Goals as goal

pub loop-i-init : goal.loop-i-init
loop-i-init c = (search rules, search rules, search rules, rw first-none (put-none _ _))

pub loop-i-preserved : goal.loop-i-preserved
loop-i-preserved c =
    let at = c.loop-i in
    let a = c.args in
    let within : at.i < 1 + (length a.payload.now + 1) / 59 = omega arith in
    let p = c.write_packet.new.packet in
    let is : p ≡ get_or (wire a.cid a.cmd a.payload.now) at.i [] =
    packet-written a.cid a.cmd a.payload.now at.i within at.packet p (omega arith) (omega arith) (omega arith) c.write_packet.ensures in
    let long : length p ≡ 64 = omega (arith, c.write_packet.auto.packet) in (
      omega (arith, c.put_packet-place.ensures.next, line-length p (omega arith)),
      search rules,
      search rules,
      packets-turn a.cid a.cmd a.payload.now at.i within is (omega arith) at.invariant.3 c.put_packet-place.ensures,
    )

pub returns : goal.returns
returns c =
    let at = c.loop-i in
    let a = c.args in
    rw (first-all a.cid a.cmd a.payload.now at.i (omega arith)) at at.invariant.3
