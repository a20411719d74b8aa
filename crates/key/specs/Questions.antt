-- Whether a lock of an interface, or the wink, runs at a time. Refusal 3 is for the whole key. Assumes nothing.
use Rattle.std.specs.Prelude.{ℕ}
use Rattle.hid.specs.declared.Running.{Running}
use Rattle.hid.specs.Questions.{running_where}
use Rattle.key.specs.declared.Key.{Key}
use Rattle.key.specs.Soundness.{is_key_sound}

unfoldable pub key_running_of : Key → (time until : ℕ) → Running
key_running_of k time until = running_where (is_key_sound k) k.main.hid.last time until

abbrev pub main_locked_of : Key → (time : ℕ) → Running
main_locked_of k time = key_running_of k time k.main.hid.lock

abbrev pub vendor_locked_of : Key → (time : ℕ) → Running
vendor_locked_of k time = key_running_of k time k.vendor.lock

abbrev pub key_winking_of : Key → (time : ℕ) → Running
key_winking_of k time = key_running_of k time k.main.wink
