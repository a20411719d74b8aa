-- Wrong devices, that Delivery must catch. Assumes nothing.
use Rattle.std.specs.Prelude.{ℕ, ◌≡◌, List, true, false, ltb}
use Rattle.ctaphid.specs.Choice.{pick}
use Rattle.ctaphid.specs.Packets.{Packet, initialization, continuation, read}
use Rattle.ctaphid.specs.Commands.{VENDOR, number, is_vendor}
use Rattle.ctaphid.specs.Receiver.{is_on}
use Rattle.ctaphid.specs.Transport.{Transport, Event, Answer, nothing, reply, request, Next, next, fresh, is_locked_by, hear, step}
use Rattle.ctaphid.specs.Demands.{AnyDevice, on, First, busy_on}

-- ---- answers ChannelBusy always, whatever its states and questions are
pub record Refusing (D : AnyDevice) : Type 0 where
  pub refuses : (s : D.State) (e : Event) → (D.step s e).answer ≡ busy_on (on e)

-- one of these
abbrev pub busy_always : AnyDevice
busy_always =
    record {
      State = Unit {0};
      set_up = λ set. tt;
      step = λ s e. next s (busy_on (on e));
      is_on = λ s c time. true;
      is_locked_by = λ s c time. false;
    }

-- ---- a step alters nothing, whatever the states, the answers and the questions are
pub record Frozen (D : AnyDevice) : Type 0 where
  pub same : (s : D.State) (e : Event) → (D.step s e).state ≡ s

-- one of these: the standard's answers, and nothing is kept
abbrev pub forgetful : AnyDevice
forgetful =
    record {
      State = Transport;
      set_up = fresh;
      step = λ d e. next d (step d e).answer;
      is_on = λ d c time. is_on d.receiver c time;
      is_locked_by = λ d c time. is_locked_by d.lock c time;
    }

-- ---- only nods at packets that are not first ones, whatever else it does
pub record Nodding (D : AnyDevice) : Type 0 where
  pub nods : (s : D.State) (e : Event) → (First e → ⊥) → (D.step s e).answer ≡ nothing

-- one of these: the standard's transport, but every message is taken to end with its first packet
abbrev pub eagerly : Transport → Event → Packet → Next Transport
eagerly d e (initialization c cmd n field) = hear d e.time e.disabled (initialization c cmd (pick (ltb 57 n) 57 n) field)
eagerly d e (continuation c k field) = next d nothing

abbrev pub eager : AnyDevice
eager =
    record {
      State = Transport;
      set_up = fresh;
      step = λ d e. eagerly d e (read e.packet);
      is_on = λ d c time. is_on d.receiver c time;
      is_locked_by = λ d c time. is_locked_by d.lock c time;
    }

-- ---- hands a vendor message out at no packet but a first one, whatever else it does
pub record NoddingAtVendor (D : AnyDevice) : Type 0 where
  pub nods : (s : D.State) (e : Event) → (First e → ⊥) → (c n : ℕ) (payload : List ℕ) → is_vendor n ≡ true → (D.step s e).answer ≡ request c (VENDOR n) payload → ⊥

-- one of these: the standard's transport, but every vendor message is taken to end with its first packet
abbrev pub hushed : Answer → Answer
hushed nothing = nothing
hushed (reply c cmd payload) = reply c cmd payload
hushed (request c cmd payload) = pick (is_vendor (number cmd)) nothing (request c cmd payload)

abbrev pub eagerly_at_vendor : Transport → Event → Packet → Next Transport
eagerly_at_vendor d e (initialization c cmd n field) =
    hear d e.time e.disabled (initialization c cmd (pick (is_vendor cmd) (pick (ltb 57 n) 57 n) n) field)
eagerly_at_vendor d e (continuation c k field) =
    next (hear d e.time e.disabled (continuation c k field)).state (hushed (hear d e.time e.disabled (continuation c k field)).answer)

abbrev pub eager_at_vendor : AnyDevice
eager_at_vendor =
    record {
      State = Transport;
      set_up = fresh;
      step = λ d e. eagerly_at_vendor d e (read e.packet);
      is_on = λ d c time. is_on d.receiver c time;
      is_locked_by = λ d c time. is_locked_by d.lock c time;
    }
