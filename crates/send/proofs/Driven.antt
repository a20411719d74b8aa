-- A sender driven to its end has written its message's packets, in order, each once. Assumes nothing.
use Prim.Native.Nat.{ℕ, ◌+◌, ◌≤◌}
use native.Mathlib.Omega.{arith}
use native.Mathlib.Numerals.{add-one}
use mathlib.Core.Path.{◌≡◌, refl, ap, ◌∙◌}
use mathlib.Core.List.{List, [], ◌∷◌, ◌++◌, map}
use lib.ListN.{length, get_or, drop, drop_of_length-le}
use lib.Seq.{drop-cons}
use denote.Ref.{Bor}
use Rattle.ctaphid.specs.Messages.{wire}
use Rattle.ctaphid.proofs.Messages.{wire-length}
use Rattle.send.specs.Sender.{Sent, calls, Each64, packet_written, nothing_written, SendsAll}
use Rattle.send.specs.declared.sender.Next.{Next}
use Rattle.send.specs.declared.sender.Sender.{Sender}
use Rattle.send.proofs.Sending.{more, none-6, sent-more, sent-none}

module _ (payload : Bor (List ℕ)) (cid cmd : ℕ) (c : cmd ≤ 127) (n : length payload.now ≤ 7609) where
  abbrev packets : List (List ℕ)
  packets = wire cid cmd payload.now

  abbrev at : ℕ → Sender
  at place = record { payload = payload; cid = cid; cmd = cmd; next = place }

  -- what a call leaves is its first pair and the sender of the rest
  abbrev on : Sent → List (List ℕ) → List (Next × List ℕ)
  on o rest = (o.answer, o.packet) ∷ calls (at o.next) rest

  past_the_end : (place : ℕ) → length packets ≤ place → (more : List (List ℕ)) → Each64 more → calls (at place) more ≡ map nothing_written more
  unfolding calls
  past_the_end place h [] w = refl
  past_the_end place h (old ∷ rest) w =
      ap (λ (o : Sent). on o rest) (sent-none cid cmd payload.now place old w.0 (none-6 cid cmd payload.now place old c n (omega (arith, wire-length cid cmd payload.now))))
      ∙ ap (λ (t : List (Next × List ℕ)). nothing_written old ∷ t) (past_the_end place h rest w.1)

  from_place : (place : ℕ) (lent more : List (List ℕ)) → place + length lent ≡ length packets → Each64 (lent ++ more) → calls (at place) (lent ++ more) ≡ map packet_written (drop place packets) ++ map nothing_written more
  unfolding calls
  from_place place [] m e w = rw (drop_of_length-le packets {i = place} (omega arith)) (past_the_end place (omega arith) m w)
  from_place place (old ∷ lent) m e w =
      ap (λ (o : Sent). on o (lent ++ m)) (sent-more cid cmd payload.now place old w.0 (more cid cmd payload.now place old c n (omega (arith, wire-length cid cmd payload.now))))
      ∙ (ap (λ (t : List (Next × List ℕ)). packet_written (get_or packets place []) ∷ t) (from_place (place + 1) lent m (omega arith) w.1)
      ∙ rw (drop-cons packets place [] (omega arith), add-one))

pub sends-all : SendsAll
sends-all payload cid cmd c n lent m w e = from_place payload cid cmd c n 0 lent m (omega arith) w
