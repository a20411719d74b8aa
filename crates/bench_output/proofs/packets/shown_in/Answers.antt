use Prim.Native.Nat.{◌+◌, ◌-◌}
use native.Mathlib.Omega.{arith}
use mathlib.Core.Path.{◌≡◌}
use Rattle.std.proofs.Common.{rules}
use Rattle.bench_output.proofs.Spelling.{shown-last, shown-least}
use Rattle.bench_output.proofs.packets.shown_in.Goals as goal

pub returns-in-Some : goal.returns-in-Some
returns-in-Some c =
    let last = c.in-Some.last in
    let e : last + 1 - 1 ≡ last = omega arith in
    (omega (arith, c.in-Some.ensures.bound), shown-last c.args.packet.now (last + 1) (omega arith) (search rules) (search rules) (omega arith) (rw e (search rules)))

pub returns-in_default : goal.returns-in_default
returns-in_default c = (omega arith, shown-least c.args.packet.now 7 (omega arith) (omega arith) (λ j h k. search rules) (omega arith))

pub returns-in_default-2 : goal.returns-in_default-2
returns-in_default-2 c = (omega arith, shown-least c.args.packet.now 7 (omega arith) (omega arith) (λ j h k. search rules) (omega arith))
