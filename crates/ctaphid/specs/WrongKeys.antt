-- Wrong keys with two interfaces, that KeyDemands must catch. Each is the standard's but for one thing. Assumes nothing.
use Rattle.std.specs.Prelude.{ℕ, Bool, false}
use Rattle.ctaphid.specs.Transport.{Answer, nothing, reply, request, Next, next, is_locked, is_locked_against, with_receiver, step}
use Rattle.ctaphid.specs.Demands.{on}
use Rattle.ctaphid.specs.Interfaces.{Interface, main, vendor, other, the, Arrival, Both, both, side, both_on, both_step, Key, key, key_step}
use Rattle.ctaphid.specs.KeyDemands.{AnyKey, standard_both, standard_key, bare}

-- ---- checks 1 to 7: two transports, with another step

abbrev pub of_both : (Both → Arrival → Next Both) → AnyKey
of_both s =
    record {
      State = Both;
      set_up = standard_both.set_up;
      step = s;
      is_on = standard_both.is_on;
      is_locked_by = standard_both.is_locked_by;
      is_winking = standard_both.is_winking;
    }

-- an interface is disabled by another test than the other's lock
abbrev pub disabled_by : (Both → Arrival → Bool) → AnyKey
disabled_by test =
    of_both (λ b a. both_on b a.interface (step (side b a.interface) (record { time = a.time; disabled = test b a; packet = a.packet })))

-- neither heeds the other's lock
abbrev pub unheeding : AnyKey
unheeding = disabled_by (λ b a. false)

-- the other's lock lets its holder's number through
abbrev pub by_number : AnyKey
by_number = disabled_by (λ b a. is_locked_against (side b (other a.interface)).lock (on (bare a)) a.time)

-- each is disabled by its own lock
abbrev pub own_lock : AnyKey
own_lock = disabled_by (λ b a. is_locked (side b a.interface).lock a.time)

-- one transaction for both
abbrev pub sharing : Interface → Both → Both
sharing main b = both b.main (with_receiver b.vendor b.main.receiver)
sharing vendor b = both (with_receiver b.main b.vendor.receiver) b.vendor

abbrev pub one_transaction : AnyKey
one_transaction = of_both (λ b a. next (sharing a.interface (both_step b a).state) (both_step b a).answer)

-- ---- check 8

-- a reply on vendor ends main's wink
abbrev pub ended_by : Answer → (wink : ℕ) → ℕ
ended_by nothing wink = wink
ended_by (reply c cmd payload) wink = 0
ended_by (request c cmd payload) wink = wink

abbrev pub ending : Interface → Next Key → Next Key
ending i n = next (key n.state.transports (the i n.state.wink (ended_by n.answer n.state.wink))) n.answer

abbrev pub ends_from_vendor : AnyKey
ends_from_vendor =
    record {
      State = Key;
      set_up = standard_key.set_up;
      step = λ k a. ending a.interface (key_step k a);
      is_on = standard_key.is_on;
      is_locked_by = standard_key.is_locked_by;
      is_winking = standard_key.is_winking;
    }
