-- What the transport does, by its tests. Assumes nothing.
use Prim.Native.Nat.{ℕ, ◌+◌, ◌*◌, ◌≤◌, ◌<◌}
use mathlib.Core.Path.{◌≡◌}
use mathlib.Core.List.{List, []}
use mathlib.Core.Bool.{Bool, true, false}
use borrow.Author.Tests.{eq-eqb, ne_eqb, lt-ltb, le-ltb}
use lib.ListN.{length, get_or}
use Rattle.ctaphid.specs.Choice.{pick}
use Rattle.ctaphid.specs.Packets.{Packet}
use Rattle.ctaphid.specs.Commands.{INIT, LOCK}
use Rattle.ctaphid.specs.Errors.{InvalidLen, InvalidPar, ChannelBusy}
use Rattle.ctaphid.specs.Receiver.{channel_of}
use Rattle.ctaphid.specs.Transport.{Transport, free, broadcast, next, reply, error, next_channel, init_reply, with_allocated, on_init, with_lock, lock_for, on_lock, is_valid, not_valid, is_shut, serve, hear}

-- ---- INIT
module _ (d : Transport) (c : ℕ) (nonce : List ℕ) where
  pub init-long : (length nonce ≡ 8 → ⊥) → on_init d c nonce ≡ next d (error c InvalidLen)
  unfolding on_init pick
  init-long n = simp (ne_eqb _ _ n)

  pub init-new : length nonce ≡ 8 → c ≡ broadcast → on_init d c nonce ≡ next (with_allocated d (next_channel d.allocated)) (reply c INIT (init_reply nonce (next_channel d.allocated) d.settings))
  unfolding on_init pick
  init-new n e = simp (eq-eqb _ _ n, eq-eqb _ _ e)

  pub init-same : length nonce ≡ 8 → (c ≡ broadcast → ⊥) → on_init d c nonce ≡ next d (reply c INIT (init_reply nonce c d.settings))
  unfolding on_init pick
  init-same n e = simp (eq-eqb _ _ n, ne_eqb _ _ e)

-- ---- LOCK
module _ (d : Transport) (time c : ℕ) (payload : List ℕ) where
  pub lock-long : (length payload ≡ 1 → ⊥) → on_lock d time c payload ≡ next d (error c InvalidLen)
  unfolding on_lock pick
  lock-long n = simp (ne_eqb _ _ n)

  module _ (n : length payload ≡ 1) where
    pub lock-above : 10 < get_or payload 0 0 → on_lock d time c payload ≡ next d (error c InvalidPar)
    unfolding on_lock pick
    lock-above h = simp (eq-eqb _ _ n, lt-ltb _ _ h)

    pub lock-released : get_or payload 0 0 ≡ 0 → on_lock d time c payload ≡ next (with_lock d free) (reply c LOCK [])
    unfolding on_lock lock_for pick
    lock-released e = simp (eq-eqb _ _ n, e)

    pub lock-held : get_or payload 0 0 ≤ 10 → (get_or payload 0 0 ≡ 0 → ⊥) → on_lock d time c payload ≡ next (with_lock d (record { holder = c; until = time + 1000 * get_or payload 0 0 })) (reply c LOCK [])
    unfolding on_lock lock_for pick
    lock-held h e = simp (eq-eqb _ _ n, le-ltb _ _ h, ne_eqb _ _ e)

-- ---- checks 1 and 2
module _ (d : Transport) (time : ℕ) (disabled : Bool) (p : Packet) where
  pub hear-invalid : is_valid d.allocated p ≡ false → hear d time disabled p ≡ next d (not_valid p)
  unfolding hear pick
  hear-invalid v = simp v

  pub hear-shut : is_valid d.allocated p ≡ true → is_shut d.lock time disabled (channel_of p) ≡ true → hear d time disabled p ≡ next d (error (channel_of p) ChannelBusy)
  unfolding hear pick
  hear-shut v s = simp (v, s)

  pub hear-served : is_valid d.allocated p ≡ true → is_shut d.lock time disabled (channel_of p) ≡ false → hear d time disabled p ≡ serve d time p
  unfolding hear pick
  hear-served v s = simp (v, s)
