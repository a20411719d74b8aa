-- The commands of the code, one for each of the standard's. Assumes nothing.
use mathlib.Core.Path.{◌≡◌, refl, sym, ap, ◌∙◌}
use Rattle.ctaphid.specs.Commands as standard
use Rattle.ctaphid.proofs.Commands.{Named, command-of-number}
use Rattle.packet.specs.Numbers.{command_meant, command_case}
use Rattle.packet.specs.declared.command.CtapHidCommand.{CtapHidCommand}
use Rattle.packet.specs.declared.command.CtapHidCommand.TheVariants.{Msg, Cbor, Init, Ping, Cancel, Error, Keepalive, Wink, Lock, Vendor}

pub case-meant : (x : CtapHidCommand) → command_case (command_meant x) ≡ x
case-meant Msg = refl
case-meant Cbor = refl
case-meant Init = refl
case-meant Ping = refl
case-meant Cancel = refl
case-meant Error = refl
case-meant Keepalive = refl
case-meant Wink = refl
case-meant Lock = refl
case-meant (Vendor n) = refl

pub meant-case : (k : standard.Command) → command_meant (command_case k) ≡ k
meant-case standard.MSG = refl
meant-case standard.CBOR = refl
meant-case standard.INIT = refl
meant-case standard.PING = refl
meant-case standard.CANCEL = refl
meant-case standard.ERROR = refl
meant-case standard.KEEPALIVE = refl
meant-case standard.WINK = refl
meant-case standard.LOCK = refl
meant-case (standard.VENDOR n) = refl

-- two that mean the same are the same
pub meant-one : (x y : CtapHidCommand) → command_meant x ≡ command_meant y → x ≡ y
meant-one x y e = sym (case-meant x) ∙ (ap command_case e ∙ case-meant y)

-- reading the number of a command gives the command, whatever `from_u8` and `number` answer by their contracts
pub number_read : (x y : CtapHidCommand) → Named (command_meant x) → command_meant y ≡ standard.command_of (standard.number (command_meant x)) → y ≡ x
number_read x y h e = meant-one y x (e ∙ command-of-number (command_meant x) h)
