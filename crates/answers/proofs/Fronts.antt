-- Parts of the two buffers. Assumes nothing.
use Prim.Native.Nat.{ℕ, ◌≤◌, ◌<◌}
use mathlib.Core.Path.{◌≡◌, sym, subst}
use mathlib.Core.List.{List, []}
use borrow.Author.Tests.{le-leb, lt-leb}
use lib.ListN.{length, take}
use denote.Ref.{Bor}
use Rattle.ctaphid.specs.Choice.{pick}
use Rattle.packet.specs.declared.command.CtapHidCommand.{CtapHidCommand}
use Rattle.answers.specs.declared.Answer.{Answer}
use Rattle.answers.specs.declared.Answer.TheVariants.{Message, Echo, Reply}
use Rattle.answers.specs.Payloads.{up_to, IsFront, IsPayload}

pub up_to_fits : (len : ℕ) (l : List ℕ) → len ≤ length l → take len l ≡ up_to len l
unfolding up_to pick
up_to_fits len l h = simp (le-leb len (length l) h)

pub up-to-short : (len : ℕ) (l : List ℕ) → length l < len → [] ≡ up_to len l
unfolding up_to pick
up-to-short len l h = simp (lt-leb len (length l) h)

module _ (a : Answer) (m r x : Bor (List ℕ)) {c : ℕ} {cmd : CtapHidCommand} {len : ℕ} where
  pub payload-message : a ≡ Message c cmd len → IsFront len m x → IsPayload a m r x
  payload-message e f = subst (λ (t : Answer). IsPayload t m r x) (sym e) (record { bytes = f.bytes; place = f.place })

  pub payload-echo : a ≡ Echo c cmd len → IsFront len m x → IsPayload a m r x
  payload-echo e f = subst (λ (t : Answer). IsPayload t m r x) (sym e) (record { bytes = f.bytes; place = f.place })

  pub payload-reply : a ≡ Reply c cmd len → IsFront len r x → IsPayload a m r x
  payload-reply e f = subst (λ (t : Answer). IsPayload t m r x) (sym e) (record { bytes = f.bytes; place = f.place })
