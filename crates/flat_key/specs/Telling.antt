-- A key's answers as numbers, for C. Assumes nothing.
use Rattle.std.specs.Prelude.{ℕ, List}
use Rattle.key.specs.declared.Key.{Key}
use Rattle.key.specs.declared.KeyReady.{KeyReady}
use Rattle.key.specs.declared.KeyReady.TheVariants as ready
use Rattle.key.specs.Stepping.{KeyStepping}
use Rattle.flat.specs.declared.Outcome.{Outcome}
use Rattle.flat.specs.Telling.{outcome_of}
use Rattle.flat_key.specs.declared.MadeKey.{MadeKey}

-- ---- set-up
abbrev pub key_made_of : Key → KeyReady → MadeKey
key_made_of old (ready.Key k) = record { key = k; refusal = 0 }
key_made_of old (ready.Refused n) = record { key = old; refusal = n }

-- ---- steps over a lent key: the key, what is returned, and both buffers of the interface
pub record KeyFlattened : Type 0 where
  pub key : Key
  pub outcome : Outcome
  pub message : List ℕ
  pub reply : List ℕ

abbrev pub key_flat : Key → Outcome → List ℕ → List ℕ → KeyFlattened
key_flat k o m r = record { key = k; outcome = o; message = m; reply = r }

abbrev pub key_flat_of : KeyStepping → KeyFlattened
key_flat_of x = key_flat x.key (outcome_of x.answer) x.message x.reply
