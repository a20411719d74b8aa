-- Whose packets are heard: what a `return` meets. Assumes nothing.
use Prim.Native.Nat.{ℕ}
use mathlib.Core.Path.{◌≡◌}
use mathlib.Core.List.{List, []}
use mathlib.Core.Bool.{Bool, false}
use lib.Dec.{eqb}
use Rattle.ctaphid.specs.Choice.{pick}
use Rattle.ctaphid.specs.Errors.{InvalidChannel}
use Rattle.ctaphid.specs.Transport.{error, is_allocated, is_valid, not_valid}
use Rattle.packet.specs.Reading.{heard}
use Rattle.packet.specs.declared.ProcessedPacket.{ProcessedPacket}
use Rattle.packet.specs.declared.ProcessedPacket.TheVariants.{InitPacket, ContinuationPacket}
use Rattle.answers.specs.declared.Answer.TheVariants.{Nothing}
use Rattle.answers.specs.Replies.{Answering, answering, laid_of}

module _ (n : ℕ) (p : ProcessedPacket) (b : Bool) where
  pub valid-first : {cid cmd len : ℕ} → p ≡ InitPacket cid cmd len → b ≡ pick (eqb cid 0xffff_ffff) (eqb cmd 6) (is_allocated n cid) → b ≡ is_valid n (heard p [])
  unfolding is_valid
  valid-first e k = simp e k

  pub valid-later : {cid seq : ℕ} → p ≡ ContinuationPacket cid seq → b ≡ pick (eqb cid 0xffff_ffff) false (is_allocated n cid) → b ≡ is_valid n (heard p [])
  unfolding is_valid
  valid-later e k = simp e k

module _ (p : ProcessedPacket) (r : List ℕ) where
  pub not-valid-first : {cid cmd len : ℕ} (v : Answering) → p ≡ InitPacket cid cmd len → v ≡ laid_of (error cid InvalidChannel) r → v ≡ laid_of (not_valid (heard p [])) r
  not-valid-first v e k = simp e k

  pub not-valid-later : {cid seq : ℕ} → p ≡ ContinuationPacket cid seq → answering Nothing r ≡ laid_of (not_valid (heard p [])) r
  unfolding laid_of pick
  not-valid-later e = simp e
