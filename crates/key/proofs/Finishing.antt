-- What a `return` of vendor's check 8 meets, and of what sets a refused step's last time right. Assumes nothing.
use Prim.Native.Nat.{ℕ}
use native.Mathlib.Omega.{arith}
use mathlib.Core.Path.{◌≡◌, refl, sym, ap, subst, ◌∙◌}
use mathlib.Core.List.{List, [], ◌∷◌}
use mathlib.Core.Bool.{Bool, true, false}
use mathlib.Core.Logic.{inl, inr}
use borrow.Author.Tests.{eq-eqb, ne_eqb}
use denote.Enum.Declared.{tag_of}
use types.Run.{OneOf}
use lib.Dec.{eqb}
use Rattle.ctaphid.specs.Choice.{pick}
use Rattle.ctaphid.specs.Commands.{number}
use Rattle.ctaphid.specs.Errors.{InvalidCmd}
use Rattle.ctaphid.specs.Transport.{error}
use Rattle.packet.specs.Numbers.{command_meant}
use Rattle.packet.specs.declared.command.CtapHidCommand.{CtapHidCommand}
use Rattle.answers.specs.Replies.{answering, laid_of}
use Rattle.answers.specs.declared.Answer.{Answer}
use Rattle.answers.specs.declared.Answer.TheVariants.{Refused, Nothing, Message, Echo, Reply}
use Rattle.answers.specs.contracts.Answer as answer
use Rattle.hid.specs.declared.MainStepped.{MainStepped}
use Rattle.hid.specs.declared.Stepped.{Stepped}
use Rattle.hid.specs.State.{serving}
use Rattle.hid.specs.MainHid.{outer}
use Rattle.key.specs.Meaning.{with_last}
use Rattle.key.specs.VendorHid.{is_strange, saying, finished_by, finished_of}
use Rattle.key.specs.Stepping.{restored_by, restored_of}

-- ---- commands that vendor doesn't hand out
module _ (u2f : ℕ) (cmd : CtapHidCommand) {n : ℕ} (e : n ≡ number (command_meant cmd)) where
  pub strange-wink : n ≡ 8 → true ≡ is_strange u2f cmd
  unfolding is_strange pick
  strange-wink z = simp (eq-eqb (number (command_meant cmd)) 8 (sym e ∙ z))

  module _ (other : n ≡ 8 → ⊥) where
    pub strange-msg : n ≡ 3 → eqb u2f 0 ≡ is_strange u2f cmd
    unfolding is_strange pick
    strange-msg z = simp (ne_eqb (number (command_meant cmd)) 8 (λ t. other (e ∙ t)), eq-eqb (number (command_meant cmd)) 3 (sym e ∙ z))

    pub strange-none : (n ≡ 3 → ⊥) → false ≡ is_strange u2f cmd
    unfolding is_strange pick
    strange-none z = simp (ne_eqb (number (command_meant cmd)) 8 (λ t. other (e ∙ t)), ne_eqb (number (command_meant cmd)) 3 (λ t. z (e ∙ t)))

pub ruleset strange = (strange-wink, strange-msg, strange-none)

-- ---- an answer by its variant

-- as an arm for several of them knows it
abbrev IsOf : List ℕ → Answer → Type 0
IsOf variants a = OneOf variants (tag_of answer.the_type a)

-- ---- check 8 on vendor
module _ (last : ℕ) (x : Stepped) (r : List ℕ) where
  pub finish-refused : {n : ℕ} → x.answer ≡ Refused n → serving (record { hid = with_last x.hid last; answer = x.answer }) r ≡ finished_of last x r
  unfolding finished_by
  finish-refused is = subst (λ (a : Answer). serving (record { hid = with_last x.hid last; answer = a }) r ≡ finished_by a last x.hid r) (sym is) refl

  pub finish-through : ((n : ℕ) → x.answer ≡ Refused n → ⊥) → ((c : ℕ) (cmd : CtapHidCommand) (len : ℕ) → x.answer ≡ Message c cmd len → ⊥) → serving x r ≡ finished_of last x r
  unfolding finished_by
  finish-through = go x.answer
    where
      go : (a : Answer) → ((n : ℕ) → a ≡ Refused n → ⊥) → ((c : ℕ) (cmd : CtapHidCommand) (len : ℕ) → a ≡ Message c cmd len → ⊥) → serving (record { hid = x.hid; answer = a }) r ≡ finished_by a last x.hid r
      go (Refused n) f g = absurd (f n refl)
      go Nothing f g = refl
      go (Message c cmd len) f g = absurd (g c cmd len refl)
      go (Echo c cmd len) f g = refl
      go (Reply c cmd len) f g = refl

  module _ {cid : ℕ} {cmd : CtapHidCommand} {len : ℕ} (is : x.answer ≡ Message cid cmd len) (b : Bool) (e : b ≡ is_strange x.hid.u2f cmd) where
    out : finished_of last x r ≡ pick (is_strange x.hid.u2f cmd) (saying x.hid (laid_of (error cid InvalidCmd) r)) (serving (record { hid = x.hid; answer = Message cid cmd len }) r)
    unfolding finished_by
    out = ap (λ (a : Answer). finished_by a last x.hid r) is

    pub finish-strange : b ≡ true → (a : Answer) (r1 : List ℕ) → answering a r1 ≡ laid_of (error cid InvalidCmd) r → serving (record { hid = x.hid; answer = a }) r1 ≡ finished_of last x r
    unfolding pick
    finish-strange t a r1 told = ap (saying x.hid) told ∙ sym (out ∙ simp (sym e ∙ t))

    pub finish-known : b ≡ false → serving x r ≡ finished_of last x r
    unfolding pick
    finish-known f = ap (λ (a : Answer). serving (record { hid = x.hid; answer = a }) r) is ∙ sym (out ∙ simp (sym e ∙ f))

pub ruleset finishes = (finish-refused, finish-through, finish-strange, finish-known)

-- ---- main's refused step
module _ (last : ℕ) (x : MainStepped) where
  pub restored-refused : {n : ℕ} → x.answer ≡ Refused n → outer (with_last x.hid.hid last) x.hid.wink x.answer ≡ restored_of last x
  restored-refused is = subst (λ (a : Answer). outer (with_last x.hid.hid last) x.hid.wink a ≡ restored_by a last x.hid) (sym is) refl

  pub restored-through : IsOf (1 ∷ 2 ∷ 3 ∷ 4 ∷ []) x.answer → outer x.hid.hid x.hid.wink x.answer ≡ restored_of last x
  restored-through = go x.answer
    where
      go : (a : Answer) → IsOf (1 ∷ 2 ∷ 3 ∷ 4 ∷ []) a → outer x.hid.hid x.hid.wink a ≡ restored_by a last x.hid
      go (Refused n) (inl e) = absurd (omega (arith, e))
      go (Refused n) (inr (inl e)) = absurd (omega (arith, e))
      go (Refused n) (inr (inr (inl e))) = absurd (omega (arith, e))
      go (Refused n) (inr (inr (inr e))) = absurd (omega (arith, e))
      go Nothing h = refl
      go (Message c cmd len) h = refl
      go (Echo c cmd len) h = refl
      go (Reply c cmd len) h = refl

pub ruleset restores = (restored-refused, restored-through)
