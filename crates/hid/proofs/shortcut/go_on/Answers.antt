use native.Mathlib.Omega.{arith}
use mathlib.Core.Path.{refl}
use Rattle.hid.proofs.Shortening.{number-low, block-low, renewed-adds, block, goes_on}
use Rattle.hid.proofs.shortcut.go_on.Goals as goal

pub overflow_add-next-2 : goal.overflow_add-next-2
overflow_add-next-2 c =
    let a = c.args in
    omega (arith, number-low a.hid a.time a.packet.now a.message.now c.requires.0 c.requires.1)

pub returns : goal.returns
returns c =
    let a = c.args in
    goes_on a.hid a.time a.packet.now a.message.now c.requires.0 c.requires.1 (λ i. omega (arith, c.shared_slice_known-1.given i)) c.packet_data-data.result.now c.packet_data-data.ensures.bytes _ _ c.append_block-assembler.ensures _ refl

pub append_block-assembler-requires-clause-adds : goal.append_block-assembler-requires-clause-adds
append_block-assembler-requires-clause-adds c =
    let a = c.args in
    renewed-adds a.hid a.time a.packet.now a.message.now c.requires.0 c.requires.1

pub append_block-assembler-requires-clause-data_len : goal.append_block-assembler-requires-clause-data_len
append_block-assembler-requires-clause-data_len c =
    let a = c.args in (
      block a.hid a.time a.packet.now a.message.now c.requires.0 c.requires.1 (λ i. omega (arith, c.shared_slice_known-1.given i)) c.packet_data-data.result.now c.packet_data-data.ensures.bytes,
      block-low a.hid a.time a.packet.now a.message.now c.requires.0 c.requires.1,
    )
