-- A command that isn't known is told so at its first packet, and so makes no other channel busy. Assumes nothing.
use Prim.Native.Nat.{ℕ, ◌-◌}
use mathlib.Core.Path.{◌≡◌, refl, sym, ap, subst, ◌∙◌}
use mathlib.Core.List.{List, [], ◌∷◌, ◌++◌}
use mathlib.Core.Bool.{Bool, true, true≢false}
use mathlib.Core.Logic.{inl, inr}
use borrow.Author.Tests.{eqb-true}
use lib.Dec.{eqb}
use lib.ListN.{drop}
use Rattle.ctaphid.specs.Choice.{pick, is_in}
use Rattle.ctaphid.specs.Packets.{Packet, initialization, byte, channel_in, declared_in}
use Rattle.ctaphid.specs.Commands.{Command, MSG, CBOR, INIT, PING, CANCEL, ERROR, KEEPALIVE, WINK, LOCK, VENDOR, number, is_vendor, among, commands, command_of}
use Rattle.ctaphid.specs.Errors.{InvalidCmd, InvalidSeq, ChannelBusy, InvalidChannel, code}
use Rattle.ctaphid.specs.Settings.{Settings, knows}
use Rattle.ctaphid.specs.Receiver.{Transaction, Receiver, idle, busy, Turn, start, when_idle, when_over, on_own, when_busy, receive}
use Rattle.ctaphid.specs.Transport.{Transport, Event, nothing, Next, settle, settled, hear}
use Rattle.ctaphid.specs.Demands.{AnyDevice, standard, Permitted, Taken, after, Begun, IsKnown, UnknownToldAtOnce, NoneShutOut, NoneShutOutByUnknown}
use Rattle.ctaphid.proofs.Tests.{pick-both, pick_known}
use Rattle.ctaphid.proofs.Packets.{read_first}
use Rattle.ctaphid.proofs.Histories.{settings-after}
use Rattle.ctaphid.proofs.Bounds.{some-answer}
use Rattle.ctaphid.proofs.Shut.{none-shut-out}

-- ---- what is known, by its number

-- what is in a list is in a longer one
in-longer : (n : ℕ) (front l : List ℕ) → is_in n l ≡ true → is_in n (front ++ l) ≡ true
unfolding is_in
in-longer n [] l h = h
in-longer n (m ∷ front) l h = pick-both (λ (b : Bool). b ≡ true) (eqb n m) _ _ refl (in-longer n front l h)

abbrev pub bare : Settings → List ℕ
bare set = 1 ∷ 3 ∷ 4 ∷ 6 ∷ 8 ∷ 16 ∷ 17 ∷ set.vendor

known-bare : (set : Settings) (k : Command) → knows set k ≡ true → is_in (number k) (bare set) ≡ true
unfolding knows is_in pick
known-bare set MSG h = refl
known-bare set CBOR h = refl
known-bare set INIT h = refl
known-bare set PING h = refl
known-bare set CANCEL h = refl
known-bare set ERROR h = absurd (true≢false (sym h))
known-bare set KEEPALIVE h = absurd (true≢false (sym h))
known-bare set WINK h = refl
known-bare set LOCK h = refl
known-bare set (VENDOR n) h = in-longer n (1 ∷ 3 ∷ 4 ∷ 6 ∷ 8 ∷ 16 ∷ 17 ∷ []) set.vendor h

-- a known command was read from its own number, for what is neither named nor the vendor's reads as ERROR
module _ (set : Settings) (n : ℕ) where
  abbrev Own : Command → Type 0
  Own k = knows set k ≡ true → number k ≡ n

  own-among : (cs : List Command) (other : Command) → Own other → Own (among cs n other)
  unfolding among
  own-among [] other h = h
  own-among (c ∷ rest) other h = pick_known Own (eqb n (number c)) _ _ (λ e k. sym (eqb-true n (number c) e)) (λ e. own-among rest other h)

  own-number : Own (command_of n)
  unfolding knows
  own-number = own-among commands _ (pick-both Own (is_vendor n) _ _ (λ k. refl) (λ k. absurd (true≢false (sym k))))

  pub known-number : knows set (command_of n) ≡ true → is_in n (bare set) ≡ true
  known-number h = subst (λ (m : ℕ). is_in m (bare set) ≡ true) (own-number h) (known-bare set (command_of n) h)

-- ---- a first packet that gets nothing
module _ (d : Transport) (set : Settings) (time c cmd n : ℕ) (field : List ℕ) where
  abbrev p : Packet
  p = initialization c cmd n field

  -- where it gets nothing, its command is known
  abbrev Hush : Next Transport → Type 0
  Hush x = x.answer ≡ nothing → knows set (command_of cmd) ≡ true

  abbrev HushTurn : Turn → Type 0
  HushTurn t = Hush (settled d time c t)

  hush-start : HushTurn (start set time c cmd n field)
  unfolding start settle
  hush-start = pick_known HushTurn (knows set (command_of cmd)) _ _ (λ e q. e) (λ e q. absurd (some-answer c ERROR (code InvalidCmd ∷ []) q))

  hush-busy : (t : Transaction) → HushTurn (when_busy set time t p)
  unfolding when_busy on_own settle
  hush-busy t =
      pick-both HushTurn _ _ _
      (pick-both HushTurn _ _ _ hush-start (λ q. absurd (some-answer c ERROR (code InvalidSeq ∷ []) q)))
      (λ q. absurd (some-answer c ERROR (code ChannelBusy ∷ []) q))

  hush-receive : (r : Receiver) → HushTurn (receive set time r p)
  unfolding receive when_over when_idle
  hush-receive idle = hush-start
  hush-receive (busy t) = pick-both HushTurn _ _ _ hush-start (hush-busy t)

hush-hear : (d : Transport) (time : ℕ) (disabled : Bool) (c cmd n : ℕ) (field : List ℕ) → (hear d time disabled (initialization c cmd n field)).answer ≡ nothing → knows d.settings (command_of cmd) ≡ true
unfolding hear
hush-hear d time disabled c cmd n field =
    pick-both (Hush d d.settings time c cmd n field) _ _ _
    (pick-both (Hush d d.settings time c cmd n field) _ _ _
    (λ q. absurd (some-answer c ERROR (code ChannelBusy ∷ []) q))
    (hush-receive d d.settings time c cmd n field d.receiver))
    (λ q. absurd (some-answer c ERROR (code InvalidChannel ∷ []) q))

pub unknown-told-at-once : UnknownToldAtOnce standard
unfolding channel_in declared_in
unknown-told-at-once set permitted past e taken first hushed =
    let d : Transport = after standard set past in
    let cmd : ℕ = byte e.packet 4 - 0x80 in
    let told : (hear d e.time e.disabled (initialization (channel_in e.packet) cmd (declared_in e.packet) (drop 7 e.packet))).answer ≡ nothing =
    sym (ap (λ (p : Packet). (hear d e.time e.disabled p).answer) (read_first e.packet first)) ∙ hushed in
    known-number set cmd
    (ap (λ (s : Settings). knows s (command_of cmd)) (sym (settings-after set past))
    ∙ hush-hear d e.time e.disabled (channel_in e.packet) cmd (declared_in e.packet) (drop 7 e.packet) told)

-- ---- so the latest of them has a known command, of any device that tells unknown ones at once
begun-known : (D : AnyDevice) → UnknownToldAtOnce D → (set : Settings) → Permitted set → (past : List Event) → Taken past → (first : Event) → Begun D set past first → IsKnown set first
begun-known D told set permitted [] taken first b = absurd b
begun-known D told set permitted (e ∷ past) taken first (inl b) = subst (λ (x : Event). IsKnown set x) b.2 (told set permitted past e taken b.0 b.1)
begun-known D told set permitted (e ∷ past) taken first (inr b) = begun-known D told set permitted past taken.2 first b.1

pub both-shut-out : (D : AnyDevice) → NoneShutOut D → UnknownToldAtOnce D → NoneShutOutByUnknown D
both-shut-out D none told set permitted past e taken enabled busied =
    record { held = none set permitted past e taken enabled busied; known = begun-known D told set permitted past taken.2 }

pub none-shut-out-by-unknown : NoneShutOutByUnknown standard
none-shut-out-by-unknown = both-shut-out standard none-shut-out unknown-told-at-once
