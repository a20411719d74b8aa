-- Check 8 on vendor, over the short reply buffer alone. Assumes nothing.
use Rattle.std.specs.Prelude.{ℕ, List, Bool, true, false, eqb}
use Rattle.ctaphid.specs.Choice.{pick}
use Rattle.ctaphid.specs.Commands.{MSG, WINK, is}
use Rattle.ctaphid.specs.Errors.{InvalidCmd}
use Rattle.ctaphid.specs.Transport.{error}
use Rattle.packet.specs.Numbers.{command_meant}
use Rattle.packet.specs.declared.command.CtapHidCommand.{CtapHidCommand}
use Rattle.answers.specs.Replies.{Answering, laid_of}
use Rattle.answers.specs.declared.Answer.{Answer}
use Rattle.answers.specs.declared.Answer.TheVariants.{Refused, Nothing, Message, Echo, Reply}
use Rattle.hid.specs.declared.CtapHid.{CtapHid}
use Rattle.hid.specs.declared.Stepped.{Stepped}
use Rattle.hid.specs.State.{Serving, serving}
use Rattle.key.specs.Meaning.{with_last}

-- a command that vendor doesn't hand out
unfoldable pub is_strange : (u2f : ℕ) → CtapHidCommand → Bool
is_strange u2f cmd = pick (is (command_meant cmd) WINK) true (pick (is (command_meant cmd) MSG) (eqb u2f 0) false)

abbrev pub saying : CtapHid → Answering → Serving
saying s a = serving (record { hid = s; answer = a.answer }) a.reply

-- what becomes of an answer. A refused step leaves this last time
unfoldable pub finished_by : Answer → (last : ℕ) → CtapHid → (short : List ℕ) → Serving
finished_by (Refused n) last s r = serving (record { hid = with_last s last; answer = Refused n }) r
finished_by Nothing last s r = serving (record { hid = s; answer = Nothing }) r
finished_by (Message c cmd len) last s r =
    pick (is_strange s.u2f cmd) (saying s (laid_of (error c InvalidCmd) r)) (serving (record { hid = s; answer = Message c cmd len }) r)
finished_by (Echo c cmd len) last s r = serving (record { hid = s; answer = Echo c cmd len }) r
finished_by (Reply c cmd len) last s r = serving (record { hid = s; answer = Reply c cmd len }) r

abbrev pub finished_of : (last : ℕ) → Stepped → (short : List ℕ) → Serving
finished_of last x r = finished_by x.answer last x.hid r
