-- The rows of a key with two interfaces hold, by computation. Assumes nothing.
use mathlib.Core.Path.{refl}
use Rattle.ctaphid.specs.Choice.{pick, is_in}
use Rattle.ctaphid.specs.Packets.{channel_in, declared_in, read}
use Rattle.ctaphid.specs.Commands.{among, is_vendor}
use Rattle.ctaphid.specs.Settings.{knows}
use Rattle.ctaphid.specs.Receiver.{collect, start_known, start, when_idle, when_over, on_own, when_busy, receive, is_on}
use Rattle.ctaphid.specs.Transport.{is_allocated, is_valid, is_locked_by, is_locked_against, is_shut, next_channel, on_init, lock_for, on_lock, dispatch, settle, hear, obey}
use Rattle.ctaphid.specs.Device.{on_wink, on_msg, on_request, answered}
use Rattle.ctaphid.specs.Interfaces.{request_on_vendor, on_vendor}
use Rattle.ctaphid.specs.KeyRows.{KeyRows}

pub key-rows : KeyRows
unfolding hear is_shut is_locked_against is_locked_by is_allocated is_valid next_channel on_init lock_for on_lock dispatch knows obey is_vendor is_in settle receive when_busy on_own when_over when_idle start start_known collect is_on read channel_in declared_in among on_wink on_msg on_request answered request_on_vendor on_vendor pick
key-rows =
    record {
      own-channels = refl;
      turned-away = refl;
      holder-served = refl;
      invalid-first = refl;
      freed = refl;
      half-sent = refl;
      hindered = refl;
      wink-echoed = refl;
      wink-5003 = (refl, refl);
      wink-with-data = refl;
      wink-on-vendor = refl;
      wink-none = refl;
      wink-stays = refl;
      wink-ended = refl;
      wink-turned-away = (refl, refl);
      capabilities = (refl, refl);
      handed_out = refl;
      no-msg = refl;
      maxima = refl;
      asked-on = refl;
      asked-locked = refl;
    }
