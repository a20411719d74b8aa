-- A key with two interfaces, main and vendor: each has its own channels, lock, transaction and maximum (§11.2.3, §11.2.5). The standard knows one interface, so
-- what each means to the other is OpenSK's (DIFFERENCES 30). Assumes nothing.
use Rattle.std.specs.Prelude.{ℕ, List, Bool}
use Rattle.ctaphid.specs.Choice.{pick}
use Rattle.ctaphid.specs.Commands.{Command, MSG, WINK, is}
use Rattle.ctaphid.specs.Errors.{InvalidCmd}
use Rattle.ctaphid.specs.Settings.{Settings}
use Rattle.ctaphid.specs.Transport.{Transport, Event, Answer, nothing, reply, request, Next, next, error, fresh, is_locked, step}
use Rattle.ctaphid.specs.Device.{Device, device, device_step}

pub data Interface : Type 0 where
  main vendor : Interface

abbrev pub other : Interface → Interface
other main = vendor
other vendor = main

-- one of two, by interface
abbrev pub the : {A : Type 0} → Interface → (on_main on_vendor : A) → A
the main m v = m
the vendor m v = v

-- what a key is set up with: a maximum for each interface, and for both one answer whether there is U2F, and one list of the vendor commands that it allows
pub record KeySettings : Type 0 where
  pub main : ℕ
  pub vendor : ℕ
  pub u2f : Bool
  pub commands : List ℕ

abbrev pub settings_on : KeySettings → Interface → Settings
settings_on set i = record { maximum = the i set.main set.vendor; u2f = set.u2f; vendor = set.commands }

-- a packet arrives at a time, on an interface
pub record Arrival : Type 0 where
  pub interface : Interface
  pub time : ℕ
  pub packet : List ℕ

abbrev pub arrival : Interface → (time : ℕ) → List ℕ → Arrival
arrival i time p = record { interface = i; time = time; packet = p }

-- ---- checks 1 to 7: two transports

pub record Both : Type 0 where
  pub main : Transport
  pub vendor : Transport

abbrev pub both : Transport → Transport → Both
both m v = record { main = m; vendor = v }

abbrev pub side : Both → Interface → Transport
side b i = the i b.main b.vendor

abbrev pub put : Both → Interface → Transport → Both
put b i d = the i (both d b.vendor) (both b.main d)

abbrev pub fresh_both : KeySettings → Both
fresh_both set = both (fresh (settings_on set main)) (fresh (settings_on set vendor))

-- an interface is disabled while the other one holds a running lock, whichever channel's it is. Nobody says so: it is worked out
abbrev pub is_hindered : Both → Interface → (time : ℕ) → Bool
is_hindered b i time = is_locked (side b (other i)).lock time

-- what its interface sees of an arrival
abbrev pub seen_as : Both → Arrival → Event
seen_as b a = record { time = a.time; disabled = is_hindered b a.interface a.time; packet = a.packet }

abbrev pub both_on : Both → Interface → Next Transport → Next Both
both_on b i n = next (put b i n.state) n.answer

abbrev pub both_step : Both → Arrival → Next Both
both_step b a = both_on b a.interface (step (side b a.interface) (seen_as b a))

-- ---- check 8: the wink is main's

pub record Key : Type 0 where
  pub transports : Both
  pub wink : ℕ

abbrev pub key : Both → (wink : ℕ) → Key
key b until = record { transports = b; wink = until }

abbrev pub key_set_up : KeySettings → Key
key_set_up set = key (fresh_both set) 0

-- main is a device. What vendor's lock turns away there gets a reply, which ends a wink as any other does (DIFFERENCES 24)
abbrev pub main_of : Key → Device
main_of k = device k.transports.main k.wink

abbrev pub with_main : Key → Next Device → Next Key
with_main k n = next (key (put k.transports main n.state.transport) n.state.wink) n.answer

-- what was handed out on vendor: there is no WINK (DIFFERENCES 31), and MSG goes as on main (DIFFERENCES 23)
unfoldable pub request_on_vendor : (u2f : Bool) → (channel : ℕ) → Command → List ℕ → Answer
request_on_vendor u2f c cmd payload =
    pick (is cmd WINK)
    (error c InvalidCmd)
    (pick (is cmd MSG) (pick u2f (request c MSG payload) (error c InvalidCmd)) (request c cmd payload))

unfoldable pub on_vendor : (u2f : Bool) → Answer → Answer
on_vendor u2f nothing = nothing
on_vendor u2f (reply c cmd payload) = reply c cmd payload
on_vendor u2f (request c cmd payload) = request_on_vendor u2f c cmd payload

-- vendor is a transport with that behind it, and nothing there ends a wink
abbrev pub with_vendor : Key → Next Transport → Next Key
with_vendor k n = next (key (put k.transports vendor n.state) k.wink) (on_vendor n.state.settings.u2f n.answer)

-- checks 1 to 8
abbrev pub key_step : Key → Arrival → Next Key
key_step k a =
    the a.interface
    (with_main k (device_step (main_of k) (seen_as k.transports a)))
    (with_vendor k (step k.transports.vendor (seen_as k.transports a)))
