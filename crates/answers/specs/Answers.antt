-- What an answer says at the standard's level, over the two buffers, and the answer for what is said there. Assumes nothing.
use Rattle.std.specs.Prelude.{ℕ, List, Bool, cond, ◌||◌, length, take}
use Rattle.ctaphid.specs.Commands.{Command, PING, WINK, is}
use Rattle.ctaphid.specs.Transport as standard
use Rattle.ctaphid.specs.Transport.{nothing, reply, request}
use Rattle.packet.specs.Numbers.{command_meant, command_case}
use Rattle.collect.specs.Adding.{front}
use Rattle.answers.specs.declared.Answer.{Answer}
use Rattle.answers.specs.declared.Answer.TheVariants.{Refused, Nothing, Message, Echo, Reply}

-- ---- what each answer says

-- one of the refusals, or an answer of the standard's
pub data Said : Type 0 where
  refused : (number : ℕ) → Said
  answered : standard.Answer → Said

abbrev pub said : Answer → (message short : List ℕ) → Said
said (Refused number) m r = refused number
said Nothing m r = answered nothing
said (Message c cmd len) m r = answered (request c (command_meant cmd) (take len m))
said (Echo c cmd len) m r = answered (reply c (command_meant cmd) (take len m))
said (Reply c cmd len) m r = answered (reply c (command_meant cmd) (take len r))

-- ---- and back

-- the payload of a reply to PING or WINK is the request's own: it stands in the message buffer. That of any other reply goes to the front of the short one
abbrev pub is_echo : Command → Bool
is_echo cmd = is cmd PING || is cmd WINK

abbrev pub answer_of : standard.Answer → Answer
answer_of nothing = Nothing
answer_of (reply c cmd payload) = cond (is_echo cmd) (Echo c (command_case cmd) (length payload)) (Reply c (command_case cmd) (length payload))
answer_of (request c cmd payload) = Message c (command_case cmd) (length payload)

abbrev pub replied : standard.Answer → (short : List ℕ) → List ℕ
replied nothing r = r
replied (reply c cmd payload) r = cond (is_echo cmd) r (front payload r)
replied (request c cmd payload) r = r
