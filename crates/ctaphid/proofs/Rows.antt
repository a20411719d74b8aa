-- Rows A to L and the further rows, nearly all by computation. Assumes nothing.
use Prim.Native.Nat.{ℕ, zero, suc, ◌≤◌, ◌<◌}
use native.Mathlib.Omega.{arith}
use mathlib.Core.Path.{refl, ap, ◌∙◌}
use mathlib.Core.List.{List, [], ◌∷◌}
use borrow.Author.Tests.{lt-ltb, le-ltb}
use lib.ListN.{length}
use Rattle.ctaphid.specs.Choice.{pick, is_in}
use Rattle.ctaphid.specs.Packets.{byte, channel_in, declared_in, read, written, Bytes}
use Rattle.ctaphid.specs.Messages.{later, chunks, padded, fields, numbered, packets, split_wire}
use Rattle.ctaphid.specs.Commands.{among, is_vendor}
use Rattle.ctaphid.specs.Settings.{knows}
use Rattle.ctaphid.specs.Receiver.{collect, start_known, start, when_idle, when_over, on_own, when_busy, receive, is_on}
use Rattle.ctaphid.specs.Transport.{is_allocated, is_valid, is_locked_by, is_locked_against, is_shut, next_channel, on_init, lock_for, on_lock, dispatch, settle, hear, obey}
use Rattle.ctaphid.specs.Device.{on_wink, on_msg, on_request, answered}
use Rattle.ctaphid.specs.Rows.{Rows, FurtherRows}
use Rattle.ctaphid.proofs.Messages.{wire-length, wire-later}

pub rows : Rows
unfolding hear is_shut is_locked_against is_locked_by is_allocated is_valid next_channel on_init lock_for on_lock dispatch knows obey is_vendor is_in settle receive when_busy on_own when_over when_idle start start_known collect is_on read channel_in declared_in among on_wink on_msg on_request answered pick written
rows = record {
  a = refl;
  b = refl;
  c = refl;
  d = refl;
  e = λ c cmd payload. ((λ n. wire-length c cmd payload ∙ omega arith), (λ n. wire-length c cmd payload ∙ omega arith));
  f = λ c cmd payload n. (wire-length c cmd payload ∙ omega arith, ap (λ (p : List ℕ). byte p 4) (wire-later c cmd payload 127 (omega arith)));
  g = refl;
  h = (refl, refl);
  i = refl;
  j = (refl, refl, refl);
  k = refl;
  l = (refl, refl);
}

-- 255 is a byte
up-to-255 : Bytes (255 ∷ [])
up-to-255 zero = omega arith
up-to-255 (suc i) = omega arith

pub further-rows : FurtherRows
unfolding hear is_shut is_locked_against is_locked_by is_allocated is_valid next_channel on_init lock_for on_lock dispatch knows obey is_vendor is_in settle receive when_busy on_own when_over when_idle start start_known collect is_on read channel_in declared_in among on_wink on_msg on_request answered pick packets fields chunks later padded numbered written split_wire
further-rows = record {
  commands = refl;
  read-commands = refl;
  vendor-numbers = refl;
  in_list = refl;
  same-commands = (refl, refl);
  errors = refl;
  capability-bits = refl;
  capability-bytes = refl;
  refusal-numbers = refl;
  limits = refl;
  refuses = (refl, refl);
  past_the_end = refl;
  reads_first = refl;
  reads-first-255 = refl;
  reads-later = refl;
  writes-300 = refl;
  writes-none = refl;
  writes-2 = refl;
  counts = refl;
  split-7609 = λ payload n. let h : length payload ≤ 7609 = omega arith in simp (le-ltb _ _ h);
  split-7610 = λ payload n. let h : 7609 < length payload = omega arith in simp (lt-ltb _ _ h);
  bytes-255 = up-to-255;
  bytes-256 = λ h. absurd (omega (arith, h 0));
  formed-first = λ c cmd n field h. (omega (arith, h.0), omega (arith, h.1), omega (arith, h.2), h.3);
  formed-later = λ c k field h. (omega (arith, h.0), omega (arith, h.1), h.2);
  channels = refl;
  none-at-first = refl;
  grows = refl;
  last-channel = refl;
  four_bytes = refl;
  init-stays = refl;
  init-7 = refl;
  init-9 = refl;
  broadcast-others = refl;
  broadcast-continuation = refl;
  invalid-first = refl;
  disabled = refl;
  disabled-late = refl;
  locked = refl;
  locked-other-way = refl;
  lock-first = refl;
  released = refl;
  locked-anew = refl;
  lock-errors = refl;
  lock-length-first = refl;
  lock-through-errors = refl;
  lock-kept = refl;
  lock-999 = (refl, refl, refl, refl, refl, refl, refl);
  lock-1000 = (refl, refl, refl);
  no-lock = (refl, refl);
  on-99 = (refl, refl, refl, refl, refl);
  length-7609 = refl;
  length-100 = refl;
  length-101 = refl;
  whole-0 = refl;
  whole-57 = refl;
  whole-58 = refl;
  whole-116 = refl;
  restarts = refl;
  restarts-late = refl;
  no-life = refl;
  others = refl;
  timeout-once = refl;
  timeout-other = refl;
  timeout-served = refl;
  other_way = refl;
  wrong-number = refl;
  same_number = refl;
  own_first = refl;
  own-cancel = refl;
  own-init = refl;
  own-init-60 = refl;
  own-init-7610 = refl;
  long-last = refl;
  long-late = refl;
  no-first = refl;
  blocks = refl;
  due-none = refl;
  due-first = refl;
  due-down = refl;
  due-stays = refl;
  due-dropped = refl;
  due-late = refl;
  due-late-locked = refl;
  due-anew = refl;
  no-requests = refl;
  known-commands = (refl, refl);
  unknown-at-once = refl;
  unknown-locked = refl;
  unknown-late = refl;
  unknown-begins-none = (refl, refl);
  unknown-inside = refl;
  unknown-beside = refl;
  unknown-long = (refl, refl);
  unknown-others = refl;
  unknown-turned-away = refl;
  cancel-60 = refl;
  msg-out-60 = refl;
  unknown-brought = refl;
  vendor-out = refl;
  vendor-60 = refl;
  vendor-none = refl;
  vendor-nowhere = refl;
  msg-in = refl;
  msg-out = refl;
  init-out = refl;
  transport-run = refl;
  wink-echoed = refl;
  wink-5003 = (refl, refl);
  wink-1 = refl;
  wink-not-yet = refl;
  wink-ended = refl;
  wink-ended-vendor = refl;
  wink-ended-out = refl;
  wink-stays = refl;
  parts = λ d n l r. (refl, refl, refl, refl, refl, refl, refl, refl, refl, refl, refl, refl);
}
