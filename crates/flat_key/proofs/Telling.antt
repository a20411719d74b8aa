-- What each `return` of set-up meets. Assumes nothing.
use Prim.Native.Nat.{ℕ}
use mathlib.Core.Path.{◌≡◌, sym, ap, ◌∙◌}
use Rattle.key.specs.declared.Key.{Key}
use Rattle.key.specs.declared.KeyReady.{KeyReady}
use Rattle.key.specs.declared.KeyReady.TheVariants as ready
use Rattle.flat_key.specs.Telling.{key_made_of}

module _ (old : Key) {x : KeyReady} (y : KeyReady) (e : x ≡ y) where
  pub key-makes : {k : Key} → x ≡ ready.Key k → key_made_of old (ready.Key k) ≡ key_made_of old y
  key-makes k = ap (key_made_of old) (sym k ∙ e)

  pub key-makes-none : {n : ℕ} → x ≡ ready.Refused n → key_made_of old (ready.Refused n) ≡ key_made_of old y
  key-makes-none k = ap (key_made_of old) (sym k ∙ e)
