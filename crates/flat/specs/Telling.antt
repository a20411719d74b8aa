-- Every answer as numbers, for C. Assumes nothing.
use Rattle.std.specs.Prelude.{ℕ, List, Bool, not, length, replicate, eqb}
use Rattle.ctaphid.specs.Commands.{number}
use Rattle.ctaphid.specs.Packets.{initialization, continuation}
use Rattle.ctaphid.specs.Host.{InitHeard, not_init, init_fields}
use Rattle.packet.specs.Numbers.{command_meant}
use Rattle.packet.specs.Reading.{Read, refused, packet}
use Rattle.packet.specs.declared.ProcessedPacket.{ProcessedPacket}
use Rattle.packet.specs.declared.ProcessedPacket.TheVariants.{InitPacket, ContinuationPacket}
use Rattle.send.specs.Sending.{Left}
use Rattle.send.specs.declared.Count.{Count}
use Rattle.send.specs.declared.Count.TheVariants as count
use Rattle.send.specs.declared.Written.{Written}
use Rattle.send.specs.declared.Written.TheVariants as writing
use Rattle.hid.specs.Hearing.{Stepping}
use Rattle.hid.specs.MainHid.{MainStepping}
use Rattle.hid.specs.declared.CtapHid.{CtapHid}
use Rattle.hid.specs.declared.MainHid.{MainHid}
use Rattle.answers.specs.declared.Answer.{Answer}
use Rattle.answers.specs.declared.Answer.TheVariants.{Refused, Nothing, Message, Echo, Reply}
use Rattle.hid.specs.declared.Running.{Running}
use Rattle.hid.specs.declared.Running.TheVariants as running
use Rattle.hid.specs.declared.Ready.{Ready}
use Rattle.hid.specs.declared.Ready.TheVariants as ready
use Rattle.hid.specs.declared.MainReady.{MainReady}
use Rattle.hid.specs.declared.MainReady.TheVariants as main_ready
use Rattle.host.specs.Reading.{Reading}
use Rattle.host.specs.declared.Answer.{Answer as HostAnswer}
use Rattle.host.specs.declared.Answer.TheVariants as host
use Rattle.flat.specs.declared.Outcome.{Outcome}
use Rattle.flat.specs.declared.FlatHid.{FlatHid}
use Rattle.flat.specs.declared.FlatMain.{FlatMain}
use Rattle.flat.specs.declared.MadeHid.{MadeHid}
use Rattle.flat.specs.declared.MadeMain.{MadeMain}
use Rattle.flat.specs.declared.FlatCollection.{FlatCollection}
use Rattle.flat.specs.declared.InitOutcome.{InitOutcome}

-- a flag of C: any number but 0 is set
abbrev pub is_set : ℕ → Bool
is_set flag = not (eqb flag 0)

abbrev pub told : (kind cid cmd len : ℕ) → Outcome
told kind cid cmd len = record { len = len; cid = cid; kind = kind; cmd = cmd; refusal = 0; spare = 0 }

abbrev pub refused_by : ℕ → Outcome
refused_by number = record { len = 0; cid = 0; kind = 0; cmd = 0; refusal = number; spare = 0 }

-- kinds 0 to 4: the answers of a step
abbrev pub outcome_of : Answer → Outcome
outcome_of (Refused n) = refused_by n
outcome_of Nothing = told 1 0 0 0
outcome_of (Message cid cmd len) = told 2 cid (number (command_meant cmd)) len
outcome_of (Echo cid cmd len) = told 3 cid (number (command_meant cmd)) len
outcome_of (Reply cid cmd len) = told 4 cid (number (command_meant cmd)) len

-- kinds 5 and 6: packets; 7: a count
abbrev pub packet_outcome : ProcessedPacket → Outcome
packet_outcome (InitPacket cid cmd len) = told 5 cid cmd len
packet_outcome (ContinuationPacket cid seq) = told 6 cid seq 0

abbrev pub read_outcome : Read → Outcome
read_outcome (refused n) = refused_by n
read_outcome (packet (initialization cid cmd len field)) = told 5 cid cmd len
read_outcome (packet (continuation cid seq field)) = told 6 cid seq 0

abbrev pub count_outcome : Count → Outcome
count_outcome (count.Packets n) = told 7 0 0 n
count_outcome (count.Refused n) = refused_by n

-- 0 for no, 1 for yes, else the refusal
abbrev pub running_number : Running → ℕ
running_number running.No = 0
running_number running.Yes = 1
running_number (running.Refused n) = n

-- 0 where it was written, else the refusal
abbrev pub written_number : Written → ℕ
written_number writing.Packet = 0
written_number (writing.Refused n) = n

-- ---- set-up
abbrev pub made_of : CtapHid → Ready → MadeHid
made_of old (ready.Hid s) = record { hid = s; refusal = 0 }
made_of old (ready.Refused n) = record { hid = old; refusal = n }

abbrev pub main_made_of : MainHid → MainReady → MadeMain
main_made_of old (main_ready.Hid o) = record { hid = o; refusal = 0 }
main_made_of old (main_ready.Refused n) = record { hid = old; refusal = n }

-- ---- steps: what is returned, and both buffers
pub record Flattened : Type 0 where
  pub left : FlatHid
  pub message : List ℕ
  pub reply : List ℕ

abbrev pub flat : FlatHid → List ℕ → List ℕ → Flattened
flat x m r = record { left = x; message = m; reply = r }

abbrev pub flat_of : Stepping → Flattened
flat_of x = flat (record { hid = x.stepped.hid; outcome = outcome_of x.stepped.answer }) x.message x.reply

pub record MainFlattened : Type 0 where
  pub left : FlatMain
  pub message : List ℕ
  pub reply : List ℕ

abbrev pub main_flat : FlatMain → List ℕ → List ℕ → MainFlattened
main_flat x m r = record { left = x; message = m; reply = r }

abbrev pub main_flat_of : MainStepping → MainFlattened
main_flat_of x = main_flat (record { hid = x.stepped.hid; outcome = outcome_of x.stepped.answer }) x.message x.reply

-- ---- packets written: the number, and the packet's bytes
pub record Putting : Type 0 where
  pub number : ℕ
  pub packet : List ℕ

abbrev pub put : ℕ → List ℕ → Putting
put n p = record { number = n; packet = p }

abbrev pub put_of : Left → Putting
put_of x = put (written_number x.answer) x.packet

-- ---- the host. Kinds 8 to 11: what a packet brings about there
abbrev pub host_outcome_of : HostAnswer → Outcome
host_outcome_of (host.Refused n) = refused_by n
host_outcome_of host.Ignored = told 8 0 0 0
host_outcome_of (host.Keepalive status) = told 9 0 status 0
host_outcome_of host.Waiting = told 10 0 0 0
host_outcome_of (host.Reply cmd len) = told 11 0 cmd len

-- what is returned, and the buffer
pub record HostFlattened : Type 0 where
  pub left : FlatCollection
  pub buffer : List ℕ

abbrev pub host_flat : FlatCollection → List ℕ → HostFlattened
host_flat x m = record { left = x; buffer = m }

abbrev pub host_flat_of : Reading → HostFlattened
host_flat_of x =
    host_flat (record { collection = x.progress.collection; outcome = host_outcome_of x.progress.answer }) x.buffer

-- a reply to INIT: its fields, and how many bytes follow; or the refusal and nothing else
abbrev pub no_fields : ℕ → InitOutcome
no_fields number =
    record { cid = 0; protocol = 0; major = 0; minor = 0; build = 0; capabilities = 0; refusal = number; rest = 0; nonce = replicate 8 0 }

abbrev pub init_outcome_of : InitHeard → InitOutcome
init_outcome_of (not_init number) = no_fields number
init_outcome_of (init_fields f) =
    record {
      cid = f.channel;
      protocol = f.protocol;
      major = f.major;
      minor = f.minor;
      build = f.build;
      capabilities = f.flags;
      refusal = 0;
      rest = length f.rest;
      nonce = f.nonce;
    }
