-- What holds of the standard's transport at every time, and is kept by every packet. Assumes nothing.
use Prim.Native.Nat.{ℕ, ◌+◌, ◌*◌, ◌≤◌, ◌<◌}
use native.Mathlib.Omega.{arith}
use mathlib.Core.Path.{◌≡◌, refl, sym, subst, ap, ◌∙◌}
use mathlib.Core.List.{List, [], ◌∷◌, ◌++◌}
use mathlib.Core.Bool.{Bool, true, false, true≢false}
use mathlib.Core.Logic.{◌⊎◌, inl, inr, ⊎_elim}
use borrow.Author.Tests.{eqb-true, eqb-false, ltb-true, ltb-false, leb-true, lt-ltb, ne_eqb}
use lib.Dec.{ltb, leb, eqb}
use lib.ListN.{length, take, get_or, length-append}
use lib.Seq.{length-take-le}
use Rattle.ctaphid.specs.Choice.{pick}
use Rattle.ctaphid.specs.Packets.{Packet, initialization, continuation, Formed}
use Rattle.ctaphid.specs.Commands.{Command, MSG, CBOR, INIT, PING, CANCEL, ERROR, KEEPALIVE, WINK, LOCK, number, among, command_of, commands, is_vendor, VENDOR}
use Rattle.ctaphid.specs.Settings.{Settings, knows}
use Rattle.ctaphid.specs.Receiver.{Transaction, Receiver, idle, busy, Reception, silent, fault, whole, Turn, channel_of, collect, start_known, start, when_idle, when_over, on_own, when_busy, receive}
use Rattle.ctaphid.specs.Transport.{Lock, Transport, fresh, Next, broadcast, is_allocated, is_valid, is_locked_against, is_shut, next_channel, on_init, lock_for, on_lock, dispatch, settle, serve, hear, with_receiver, with_allocated, with_lock, obey}
use Rattle.ctaphid.proofs.Tests.{pick_true, pick-both, pick_known}

-- a channel that is allocated, or the broadcast channel for INIT
abbrev pub Allocated : (allocated channel : ℕ) → Type 0
Allocated n c = (1 ≤ c) × (c ≤ n)

abbrev pub Allowed : (allocated channel command : ℕ) → Type 0
Allowed n c cmd = Allocated n c ⊎ ((c ≡ 0xffff_ffff) × (cmd ≡ 6))

-- a transaction that is on, or has been since the last packet
pub record Runs (max allocated time : ℕ) (t : Transaction) : Type 0 where
  pub command : t.command ≤ 127
  pub most : t.declared ≤ max
  pub below : length t.collected < t.declared
  pub bytes : length t.collected ≡ 57 + 59 * t.due
  pub deadline : t.deadline ≤ time + 100
  pub channel : Allowed allocated t.channel t.command

abbrev pub Receives : (max allocated time : ℕ) → Receiver → Type 0
Receives max n time idle = Unit {0}
Receives max n time (busy t) = Runs max n time t

pub record Holds (d : Transport) (time : ℕ) : Type 0 where
  pub count : d.allocated ≤ 0xffff_fffe
  pub lock : d.lock.until ≤ time + 10000
  pub holder : time < d.lock.until → Allocated d.allocated d.lock.holder
  pub receiver : Receives d.settings.maximum d.allocated time d.receiver

-- ---- set-up, and the passing of time
pub holds-fresh : (set : Settings) (time : ℕ) → Holds (fresh set) time
holds-fresh set time = record { count = omega arith; lock = omega arith; holder = λ h. absurd (omega arith); receiver = tt }

receives-later : (max n time time' : ℕ) (r : Receiver) → time ≤ time' → Receives max n time r → Receives max n time' r
receives-later max n time time' idle h k = tt
receives-later max n time time' (busy t) h k =
    record { command = k.command; most = k.most; below = k.below; bytes = k.bytes; deadline = omega (arith, k.deadline); channel = k.channel }

pub holds_later : (d : Transport) (time time' : ℕ) → time ≤ time' → Holds d time → Holds d time'
holds_later d time time' h k =
    record {
      count = k.count;
      lock = omega (arith, k.lock);
      holder = λ l. k.holder (omega arith);
      receiver = receives-later d.settings.maximum d.allocated time time' d.receiver h k.receiver;
    }

-- ---- the receiver

-- what a packet on an allowed channel may begin
abbrev pub Asks : (allocated : ℕ) → Packet → Type 0
Asks n (initialization c cmd declared field) = Allowed n c cmd
Asks n (continuation c k field) = Unit {0}

-- a message that is whole is no longer than the maximum, of an allowed channel, and no transaction is left
abbrev pub Tells : (max allocated : ℕ) → Receiver → Reception → Type 0
Tells max n r silent = Unit {0}
Tells max n r (fault e) = Unit {0}
Tells max n r (whole c cmd payload) = (r ≡ idle) × (length payload ≤ max) × Allowed n c cmd

pub record Turns (max allocated time : ℕ) (t : Turn) : Type 0 where
  pub receives : Receives max allocated time t.receiver
  pub tells : Tells max allocated t.receiver t.reception

module _ (set : Settings) (n time : ℕ) where
  abbrev max : ℕ
  max = set.maximum

  either : (b : Bool) (x y : Turn) → Turns max n time x → Turns max n time y → Turns max n time (pick b x y)
  either b x y p q = pick-both (λ (t : Turn). Turns max n time t) b x y p q

  turns-collect : (t : Transaction) (field : List ℕ) → t.command ≤ 127 → t.declared ≤ max → t.deadline ≤ time + 100 → Allowed n t.channel t.command → length (t.collected ++ field) ≡ 57 + 59 * t.due → Turns max n time (collect t field)
  unfolding collect
  turns-collect t field command most deadline channel bytes =
      pick_known (λ (x : Turn). Turns max n time x) (ltb (length (t.collected ++ field)) t.declared) _ _
      (λ e. record {
        receives = record { command = command; most = most; below = ltb-true (length (t.collected ++ field)) t.declared e; bytes = bytes; deadline = deadline; channel = channel };
        tells = tt;
      })
      (λ e.
      let long : t.declared ≤ length (t.collected ++ field) = ltb-false (length (t.collected ++ field)) t.declared e in
      let size : length (take t.declared (t.collected ++ field)) ≡ t.declared = length-take-le t.declared (t.collected ++ field) long in
      record { receives = tt; tells = (refl, omega arith, channel) })

  turns-known : (c cmd declared : ℕ) (field : List ℕ) → cmd ≤ 127 → length field ≡ 57 → Allowed n c cmd → Turns max n time (start_known max time c cmd declared field)
  unfolding start_known
  turns-known c cmd declared field command size channel =
      pick_known (λ (x : Turn). Turns max n time x) (ltb max declared) _ _
      (λ e. record { receives = tt; tells = tt })
      (λ e. turns-collect (record { channel = c; command = cmd; declared = declared; collected = []; due = 0; deadline = time + 100 }) field command (ltb-false max declared e) (omega arith) channel (omega arith))

  turns-start : (c cmd declared : ℕ) (field : List ℕ) → cmd ≤ 127 → length field ≡ 57 → Allowed n c cmd → Turns max n time (start set time c cmd declared field)
  unfolding start
  turns-start c cmd declared field command size channel =
      either _ _ _ (turns-known c cmd declared field command size channel) (record { receives = tt; tells = tt })

  turns-idle : (p : Packet) → Formed p → Asks n p → Turns max n time (when_idle set time p)
  unfolding when_idle
  turns-idle (initialization c cmd declared field) f a = turns-start c cmd declared field (omega (arith, f.1)) f.3 a
  turns-idle (continuation c k field) f a = record { receives = tt; tells = tt }

  turns-over : (t : Transaction) (p : Packet) → Formed p → Asks n p → Turns max n time (when_over set time t p)
  unfolding when_over
  turns-over t (initialization c cmd declared field) f a = turns-idle (initialization c cmd declared field) f a
  turns-over t (continuation c k field) f a = either (eqb c t.channel) _ _ (record { receives = tt; tells = tt }) (turns-idle (continuation c k field) f a)

  turns-own : (t : Transaction) (p : Packet) → Runs max n time t → Formed p → Asks n p → Turns max n time (on_own set time t p)
  unfolding on_own
  turns-own t (initialization c cmd declared field) r f a =
      either _ _ _ (turns-start c cmd declared field (omega (arith, f.1)) f.3 a) (record { receives = tt; tells = tt })
  turns-own t (continuation c k field) r f a =
      either (eqb k t.due) _ _
      (turns-collect (record { channel = t.channel; command = t.command; declared = t.declared; collected = t.collected; due = t.due + 1; deadline = time + 100 }) field r.command r.most (omega arith) r.channel
      (simp length-append (omega (arith, r.bytes, f.2))))
      (record { receives = tt; tells = tt })

  turns-busy : (t : Transaction) (p : Packet) → Runs max n time t → Formed p → Asks n p → Turns max n time (when_busy set time t p)
  unfolding when_busy
  turns-busy t p r f a = either (eqb (channel_of p) t.channel) _ _ (turns-own t p r f a) (record { receives = r; tells = tt })

  pub turns : (r : Receiver) (p : Packet) → Receives max n time r → Formed p → Asks n p → Turns max n time (receive set time r p)
  unfolding receive
  turns idle p k f a = turns-idle p f a
  turns (busy t) p k f a = either (leb t.deadline time) _ _ (turns-over t p f a) (turns-busy t p k f a)

-- ---- check 1, as a fact

pub asks-valid : (n : ℕ) (p : Packet) → is_valid n p ≡ true → Asks n p
unfolding is_valid is_allocated
asks-valid n (initialization c cmd declared field) =
    pick_known (λ (x : Bool). x ≡ true → Allowed n c cmd) (eqb c broadcast) _ _
    (λ e h. inr (eqb-true c broadcast e, eqb-true cmd 6 h))
    (λ e h. let k : (leb 1 c ≡ true) × (leb c n ≡ true) = pick_true (leb 1 c) (leb c n) h in inl (leb-true 1 c k.0, leb-true c n k.1))
asks-valid n (continuation c k field) = λ e. tt

pub turns-valid : (d : Transport) (time : ℕ) (p : Packet) → Holds d time → Formed p → is_valid d.allocated p ≡ true → Turns d.settings.maximum d.allocated time (receive d.settings time d.receiver p)
turns-valid d time p k f v = turns d.settings d.allocated time d.receiver p k.receiver f (asks-valid d.allocated p v)

-- ---- a message that is whole is of the channel of the packet that made it so

abbrev pub IsOf : (channel : ℕ) → Reception → Type 0
IsOf c silent = Unit {0}
IsOf c (fault e) = Unit {0}
IsOf c (whole own cmd payload) = own ≡ c

module _ (set : Settings) (time : ℕ) where
  own-collect : (c : ℕ) (t : Transaction) (field : List ℕ) → t.channel ≡ c → IsOf c (collect t field).reception
  unfolding collect
  own-collect c t field e = pick-both (λ (x : Turn). IsOf c x.reception) (ltb (length (t.collected ++ field)) t.declared) _ _ tt e

  own-start : (c cmd declared : ℕ) (field : List ℕ) → IsOf c (start set time c cmd declared field).reception
  unfolding start start_known
  own-start c cmd declared field =
      pick-both (λ (x : Turn). IsOf c x.reception) _ _ _
      (pick-both (λ (x : Turn). IsOf c x.reception) (ltb set.maximum declared) _ _ tt (own-collect c _ field refl))
      tt

  own-idle : (p : Packet) → IsOf (channel_of p) (when_idle set time p).reception
  unfolding when_idle
  own-idle (initialization c cmd declared field) = own-start c cmd declared field
  own-idle (continuation c k field) = tt

  own-over : (t : Transaction) (p : Packet) → IsOf (channel_of p) (when_over set time t p).reception
  unfolding when_over
  own-over t (initialization c cmd declared field) = own-idle (initialization c cmd declared field)
  own-over t (continuation c k field) = pick-both (λ (x : Turn). IsOf c x.reception) (eqb c t.channel) _ _ tt (own-idle (continuation c k field))

  own-own : (t : Transaction) (p : Packet) → channel_of p ≡ t.channel → IsOf (channel_of p) (on_own set time t p).reception
  unfolding on_own
  own-own t (initialization c cmd declared field) e = pick-both (λ (x : Turn). IsOf c x.reception) _ _ _ (own-start c cmd declared field) tt
  own-own t (continuation c k field) e = pick-both (λ (x : Turn). IsOf c x.reception) (eqb k t.due) _ _ (own-collect c _ field (sym e)) tt

  own-busy : (t : Transaction) (p : Packet) → IsOf (channel_of p) (when_busy set time t p).reception
  unfolding when_busy
  own-busy t p =
      pick_known (λ (x : Turn). IsOf (channel_of p) x.reception) (eqb (channel_of p) t.channel) _ _ (λ e. own-own t p (eqb-true (channel_of p) t.channel e)) (λ e. tt)

  pub own : (r : Receiver) (p : Packet) → IsOf (channel_of p) (receive set time r p).reception
  unfolding receive
  own idle p = own-idle p
  own (busy t) p = pick-both (λ (x : Turn). IsOf (channel_of p) x.reception) (leb t.deadline time) _ _ (own-over t p) (own-busy t p)

-- ---- what a whole message alters: by INIT the count of channels, by LOCK the lock

-- what reads as LOCK is LOCK's number
among-lock : (cs : List Command) (n : ℕ) (other : Command) → (other ≡ LOCK → n ≡ 4) → among cs n other ≡ LOCK → n ≡ 4
unfolding among
among-lock [] n other h = h
among-lock (c ∷ rest) n other h =
    pick_known (λ (x : Command). x ≡ LOCK → n ≡ 4) (eqb n (number c)) _ _ (λ e k. eqb-true n (number c) e ∙ ap number k) (λ e. among-lock rest n other h)

pub reads-lock : (n : ℕ) → command_of n ≡ LOCK → n ≡ 4
reads-lock n =
    among-lock commands n _
    (pick-both (λ (x : Command). x ≡ LOCK → n ≡ 4) (is_vendor n) _ _ (ap number) (λ e. let z : ◌≡◌ {A = ℕ} 63 4 = ap number e in absurd (omega arith)))

-- what holds of a transport is kept, where those two keep it
module _ (P : Transport → Type 0) (d : Transport) (time c : ℕ) (payload : List ℕ) (same : P d) where
  keeps-init : (c ≡ broadcast → P (with_allocated d (next_channel d.allocated))) → P (on_init d c payload).state
  unfolding on_init
  keeps-init new =
      pick-both (λ (x : Next Transport). P x.state) (eqb (length payload) 8) _ _
      (pick_known (λ (x : Next Transport). P x.state) (eqb c broadcast) _ _ (λ e. new (eqb-true c broadcast e)) (λ e. same))
      same

  keeps-lock : (get_or payload 0 0 ≤ 10 → P (with_lock d (lock_for time c (get_or payload 0 0)))) → P (on_lock d time c payload).state
  unfolding on_lock
  keeps-lock new =
      pick-both (λ (x : Next Transport). P x.state) (eqb (length payload) 1) _ _
      (pick_known (λ (x : Next Transport). P x.state) (ltb 10 (get_or payload 0 0)) _ _ (λ e. same) (λ e. new (ltb-false 10 (get_or payload 0 0) e)))
      same

  keeps-obey : (x : Command) → (c ≡ broadcast → P (with_allocated d (next_channel d.allocated))) → (x ≡ LOCK → get_or payload 0 0 ≤ 10 → P (with_lock d (lock_for time c (get_or payload 0 0)))) → P (obey d time c x payload).state
  unfolding obey
  keeps-obey MSG init lock = same
  keeps-obey CBOR init lock = same
  keeps-obey INIT init lock = keeps-init init
  keeps-obey PING init lock = same
  keeps-obey CANCEL init lock = same
  keeps-obey ERROR init lock = same
  keeps-obey KEEPALIVE init lock = same
  keeps-obey WINK init lock = same
  keeps-obey LOCK init lock = keeps-lock (lock refl)
  keeps-obey (VENDOR n) init lock = same

  pub keeps-dispatch : (x : Command) → (c ≡ broadcast → P (with_allocated d (next_channel d.allocated))) → (x ≡ LOCK → get_or payload 0 0 ≤ 10 → P (with_lock d (lock_for time c (get_or payload 0 0)))) → P (dispatch d time c x payload).state
  unfolding dispatch
  keeps-dispatch x init lock = pick-both (λ (n : Next Transport). P n.state) (knows d.settings x) _ _ (keeps-obey x init lock) same

keeps-hear : (P : Transport → Type 0) (d : Transport) (time : ℕ) (disabled : Bool) (p : Packet) → P d → (is_valid d.allocated p ≡ true → is_shut d.lock time disabled (channel_of p) ≡ false → P (serve d time p).state) → P (hear d time disabled p).state
unfolding hear
keeps-hear P d time disabled p same served =
    pick_known (λ (x : Next Transport). P x.state) (is_valid d.allocated p) _ _
    (λ v. pick_known (λ (x : Next Transport). P x.state) (is_shut d.lock time disabled (channel_of p)) _ _ (λ s. same) (λ s. served v s))
    (λ v. same)

-- ---- settings never alter

same-settle : (d : Transport) (time c : ℕ) (b : Reception) → (settle d time c b).state.settings ≡ d.settings
unfolding settle
same-settle d time c silent = refl
same-settle d time c (fault e) = refl
same-settle d time c (whole own cmd payload) = keeps-dispatch (λ (x : Transport). x.settings ≡ d.settings) d time own payload refl (command_of cmd) (λ e. refl) (λ e h. refl)

pub same-settings : (d : Transport) (time : ℕ) (disabled : Bool) (p : Packet) → (hear d time disabled p).state.settings ≡ d.settings
same-settings d time disabled p =
    keeps-hear (λ (x : Transport). x.settings ≡ d.settings) d time disabled p refl
    (λ v s. let t : Turn = receive d.settings time d.receiver p in same-settle (with_receiver d t.receiver) time (channel_of p) t.reception)

-- ---- a packet

-- check 2, as a fact
not-against : (l : Lock) (time : ℕ) (disabled : Bool) (c : ℕ) → is_shut l time disabled c ≡ false → is_locked_against l c time ≡ false
unfolding is_shut
not-against l time disabled c =
    pick_known (λ (x : Bool). x ≡ false → is_locked_against l c time ≡ false) disabled _ _ (λ e h. absurd (true≢false h)) (λ e h. h)

-- a lock that runs and is not against a channel is that channel's
runs_own : (l : Lock) (time c : ℕ) → is_locked_against l c time ≡ false → time < l.until → (l.holder ≡ c → ⊥) → ⊥
unfolding is_locked_against pick
runs_own l time c r h other = true≢false (simp (lt-ltb time l.until h, ne_eqb l.holder c other) at r)

next_small : (n : ℕ) → n ≤ 0xffff_fffe → next_channel n ≤ 0xffff_fffe
unfolding next_channel
next_small n h =
    pick_known (λ (x : ℕ). x ≤ 0xffff_fffe) (eqb n 0xffff_fffe) _ _ (λ e. omega arith)
    (λ e. let f : n ≡ 0xffff_fffe → ⊥ = eqb-false n 0xffff_fffe e in omega arith)

module _ (d : Transport) (time c : ℕ) (k : Holds d time) where
  -- the count alters only where no lock runs and no transaction is left
  holds-init : d.receiver ≡ idle → is_locked_against d.lock c time ≡ false → c ≡ broadcast → Holds (with_allocated d (next_channel d.allocated)) time
  holds-init i r e =
      record {
        count = next_small d.allocated k.count;
        lock = k.lock;
        holder = λ h.
            let a : Allocated d.allocated d.lock.holder = k.holder h in
            absurd (runs_own d.lock time c r h (λ q. omega (arith, a.1, k.count)));
        receiver = subst (λ (x : Receiver). Receives d.settings.maximum (next_channel d.allocated) time x) (sym i) tt;
      }

  holds-lock : (seconds : ℕ) → Allocated d.allocated c → seconds ≤ 10 → Holds (with_lock d (lock_for time c seconds)) time
  unfolding lock_for
  holds-lock seconds a h =
      pick-both (λ (l : Lock). Holds (with_lock d l) time) (eqb seconds 0) _ _
      (record { count = k.count; lock = omega arith; holder = λ l. absurd (omega arith); receiver = k.receiver })
      (record { count = k.count; lock = omega arith; holder = λ l. a; receiver = k.receiver })

holds-settle : (d : Transport) (time c : ℕ) (b : Reception) → Holds d time → is_locked_against d.lock c time ≡ false → Tells d.settings.maximum d.allocated d.receiver b → IsOf c b → Holds (settle d time c b).state time
unfolding settle
holds-settle d time c silent k r t o = k
holds-settle d time c (fault e) k r t o = k
holds-settle d time c (whole own cmd payload) k r t o =
    keeps-dispatch (λ (x : Transport). Holds x time) d time own payload k (command_of cmd)
    (holds-init d time own k t.0 (subst (λ (x : ℕ). is_locked_against d.lock x time ≡ false) (sym o) r))
    (λ e. holds-lock d time own k (get_or payload 0 0) (⊎_elim (λ a. a) (λ a. absurd (omega (arith, reads-lock cmd e, a.1))) t.2))

pub holds-hear : (d : Transport) (time : ℕ) (disabled : Bool) (p : Packet) → Holds d time → Formed p → Holds (hear d time disabled p).state time
holds-hear d time disabled p k f =
    keeps-hear (λ (x : Transport). Holds x time) d time disabled p k
    (λ v s.
    let t : Turn = receive d.settings time d.receiver p in
    let u : Turns d.settings.maximum d.allocated time t = turns-valid d time p k f v in
    holds-settle (with_receiver d t.receiver) time (channel_of p) t.reception
    (record { count = k.count; lock = k.lock; holder = k.holder; receiver = u.receives })
    (not-against d.lock time disabled (channel_of p) s) u.tells (own d.settings time d.receiver p))
