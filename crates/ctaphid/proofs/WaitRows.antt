-- The rows of a wait hold. Assumes nothing.
use mathlib.Core.Path.{refl}
use mathlib.Core.List.{flatten}
use Rattle.ctaphid.specs.Choice.{pick}
use Rattle.ctaphid.specs.Packets.{channel_in, declared_in, read, written}
use Rattle.ctaphid.specs.Messages.{later, chunks, padded, fields, numbered, packets}
use Rattle.ctaphid.specs.Touch.{is_same, is_cancel, on_sensor, on_packet, on_arrival, touch_step}
use Rattle.ctaphid.specs.WaitRows.{WaitRows}

pub wait-rows : WaitRows
unfolding flatten pick channel_in declared_in read written later chunks padded fields numbered packets is_same is_cancel on_sensor on_packet on_arrival touch_step
wait-rows =
    record {
      not_yet = refl;
      a_touch = refl;
      an-error = refl;
      busy-first = refl;
      busy-at-touch = refl;
      busy-at-error = refl;
      cancel-first = refl;
      cancel-silent = refl;
      cancel-any = refl;
      elsewhere = refl;
      broadcast = refl;
      init-dropped = refl;
      no-cancel = refl;
      last = refl;
      over = refl;
      over-at-cancel = refl;
    }
