-- What is kept of a line, by what there is room for, and the tests of `cut_of`. Assumes nothing.
use Prim.Native.Nat.{ℕ, ◌+◌, ◌-◌, min, ◌≤◌, ◌<◌}
use native.Mathlib.Omega.{arith}
use mathlib.Core.Path.{◌≡◌, refl, sym, ap, ◌∙◌}
use mathlib.Core.List.{List, ◌++◌}
use borrow.Author.Tests.{lt-ltb, le-ltb}
use native.Mathlib.Decide.{dec_le}
use lib.ListN.{length, take, drop, length-append, length-take, length-drop}
use lib.Seq.{length-take-le, take_all}
use lib.Dec.{eqb}
use Rattle.std.specs.List.{position_or_len}
use Rattle.ctaphid.specs.Choice.{pick}
use Rattle.collect.specs.Adding.{Adding, front, added, add_of}
use Rattle.collect.specs.declared.Added.{Added}
use Rattle.collect.specs.declared.Added.TheVariants as added_is
use Rattle.collect.proofs.Adding.{add-waits, add-whole}
use Rattle.bench_input.specs.Pieces.{newline, line_from, Keeping, keeping, keep_of, cutting, cut_at, cut_of}
use Rattle.bench_input.specs.declared.Cut.TheVariants.{Whole, Part}
use Rattle.packet.specs.declared.refusal.Refusal.TheVariants.{Unsound}
use Rattle.std.proofs.Common.{Ok, Err}

module _ (l : List ℕ) (kept : ℕ) (part : List ℕ) (h : kept ≤ length l) where
  abbrev made : Added → List ℕ → Keeping
  made (added_is.Waiting n) l' = keeping n l'
  made added_is.Whole l' = keeping (length l) l'
  made (added_is.Refused number) l' = keeping kept l'

  abbrev made_of : Adding → Keeping
  made_of o = made o.answer o.message

  as-kept : made_of (add_of l kept (length l) part) ≡ keep_of l kept part
  as-kept = by_size (dec_le (length l) (kept + length part))
    where
      S : Type 0
      S = made_of (add_of l kept (length l) part) ≡ keep_of l kept part

      by_size : Dec (length l ≤ kept + length part) → S
      by_size (yes k) =
          let most : min (kept + length part) (length l) ≡ length l = omega arith in
          ap made_of (add-whole l kept (length l) part h (omega arith) k)
          ∙ sym (ap (λ (n : ℕ). keeping n (front (take (length l) (take kept l ++ part)) l)) most)
      by_size (no k) =
          let all : take (length l) (take kept l ++ part) ≡ take kept l ++ part = take_all (length l) _ (simp (length-append, length-take-le kept l h) (omega arith)) in
          let most : min (kept + length part) (length l) ≡ kept + length part = omega arith in
          ap made_of (add-waits l kept (length l) part h (omega arith) (omega arith))
          ∙ sym (λ i. keeping (most i) (front (all i) l))

  module _ {r : Added} (l' : List ℕ) (e : added r l' ≡ add_of l kept (length l) part) where
    kept_by : {r' : Added} (n : ℕ) → r ≡ r' → keeping n l' ≡ made r' l' → keeping n l' ≡ keep_of l kept part
    kept_by n is k = k ∙ (ap (λ (b : Added). made b l') (sym is) ∙ (ap made_of e ∙ as-kept))

    pub kept-waiting : {n : ℕ} → r ≡ added_is.Waiting n → keeping n l' ≡ keep_of l kept part
    kept-waiting {n} is = kept_by n is refl

    pub kept_whole : r ≡ added_is.Whole → keeping (length l) l' ≡ keep_of l kept part
    kept_whole is = kept_by (length l) is refl

    pub kept-refused : {number : ℕ} → r ≡ added_is.Refused number → keeping kept l' ≡ keep_of l kept part
    kept-refused is = kept_by kept is refl

pub ruleset keeps = (kept-waiting, kept_whole, kept-refused)

module _ (l : List ℕ) (kept : ℕ) (input : List ℕ) (from : ℕ) where
  pub cut-over : length l < kept → cutting (Err Unsound) l ≡ cut_of l kept input from
  unfolding cut_of pick
  cut-over h = simp (lt-ltb _ _ h)

  pub cut-past : kept ≤ length l → length input < from → cutting (Err Unsound) l ≡ cut_of l kept input from
  unfolding cut_of pick
  cut-past h k = simp (le-ltb _ _ h, lt-ltb _ _ k)

  -- the line's end, and what the piece has of it
  module _ (h : kept ≤ length l) (k : from ≤ length input) {end : ℕ} (is : end ≡ from + length (line_from input from)) {n : ℕ} (l' : List ℕ)
      (e : keeping n l' ≡ keep_of l kept (line_from input from)) where
    cut-here : cut_at (keeping n l') input end ≡ cut_of l kept input from
    unfolding cut_of pick
    cut-here = simp (le-ltb _ _ h, le-ltb _ _ k) (λ i. cut_at (e i) input (is i))

    pub cut-whole : end < length input → cutting (Ok (Whole n (end + 1))) l' ≡ cut_of l kept input from
    unfolding pick
    cut-whole t = (simp (lt-ltb _ _ t)) ∙ cut-here

    pub cut-part : length input ≤ end → cutting (Ok (Part n)) l' ≡ cut_of l kept input from
    unfolding pick
    cut-part t = (simp (le-ltb _ _ t)) ∙ cut-here

-- ---- the newline that is found

module _ (input : List ℕ) (from end : ℕ) (found : end ≡ from + position_or_len (λ c. eqb c newline) (drop from input)) (within : end ≤ length input) where
  -- what stands before it is the line's
  pub part-found : take (end - from) (drop from input) ≡ line_from input from
  part-found =
      let n : end - from ≡ position_or_len (λ c. eqb c newline) (drop from input) = omega (arith, found) in
      ap (λ (k : ℕ). take k (drop from input)) n

  pub end-found : end ≡ from + length (line_from input from)
  end-found =
      let n : length (line_from input from) ≡ position_or_len (λ c. eqb c newline) (drop from input) = simp (length-take, length-drop) (omega (arith, found)) in
      found ∙ ap (λ (k : ℕ). from + k) (sym n)
