-- A reader that puts chunks together gives a payload back that was cut into them, over the sizes f and g of the first and the later ones. Assumes nothing.
use Prim.Native.Nat.{ℕ, zero, suc, ◌+◌, ◌*◌, ◌-◌, ◌≤◌, ◌<◌}
use native.Mathlib.Omega.{arith}
use native.Mathlib.Decide.{dec_le}
use native.Mathlib.Nat.{mul-le-mul_right, suc-mul}
use native.Mathlib.Numerals.{add-one}
use mathlib.Core.Path.{◌≡◌, refl, ap, subst, ◌∙◌}
use mathlib.Core.List.{List, [], ◌∷◌, ◌++◌, append_assoc}
use lib.ListN.{length, take, drop, length-append, length-drop, take-append-drop, drop_of_length-le}
use lib.Seq.{take_all, length-take-le}
use Rattle.ctaphid.specs.Messages.{later, chunks, numbered, framed}
use Rattle.ctaphid.specs.Readers.{told, left, lastly}
use Rattle.ctaphid.proofs.Splitting.{numbered-length}

pub later-none : (g most : ℕ) → later g most [] ≡ []
unfolding later
later-none g zero = refl
later-none g (suc most) = refl

later-some : (g most : ℕ) (bytes : List ℕ) → length bytes ≤ most → 0 < length bytes → 0 < length (later g most bytes)
unfolding later
later-some g zero [] h p = absurd (omega arith)
later-some g zero (b ∷ bytes) h p = absurd (omega arith)
later-some g (suc most) [] h p = absurd (omega arith)
later-some g (suc most) (b ∷ bytes) h p = omega arith

nothing-numbered : {A : Type 0} (make : ℕ → List ℕ → A) (k : ℕ) → numbered make k [] ≡ []
unfolding numbered
nothing-numbered make k = refl

module _ {S P A : Type 0} (next : S → P → S) (answer : S → P → A) (waiting : A) where
  -- one that comes is answered so, and leaves this
  abbrev pub Goes : S → P → A → S → Type 0
  Goes s p a t = (answer s p ≡ a) × (next s p ≡ t)

  -- each but the last waits, the last is answered so, and this is left
  abbrev pub Reads : S → List P → A → S → Type 0
  Reads s ps a t = (told next answer s ps ≡ lastly waiting a ps) × (left next s ps ≡ t)

  one : (s : S) (p : P) (a : A) (t : S) → Goes s p a t → Reads s (p ∷ []) a t
  one s p a t e = (ap (λ (b : A). b ∷ []) e.0, e.1)

  more : (s u : S) (p : P) (ps : List P) (a : A) (t : S) → 0 < length ps → Goes s p waiting u → Reads u ps a t → Reads s (p ∷ ps) a t
  more s u p [] a t h e r = absurd (omega arith)
  more s u p (q ∷ ps) a t h e r =
      ((λ i. e.0 i ∷ told next answer (e.1 i) (q ∷ ps)) ∙ ap (λ (l : List A). waiting ∷ l) r.0, (λ i. left next (e.1 i) (q ∷ ps)) ∙ r.1)

  -- what is asked of a reader: with `had` there and `bytes` to come, it takes a full chunk and waits, and with the last chunk it answers the whole
  module _ (f g bound : ℕ) (some : 0 < g) (payload : List ℕ) (first : List ℕ → P) (make : ℕ → List ℕ → P) (none : S) (begun : (had : List ℕ) (due : ℕ) → S) (whole : List ℕ → A)
      (full : (k : ℕ) (had bytes : List ℕ) → k < bound → g < length bytes → length payload ≡ length had + length bytes
      → Goes (begun had k) (make k (take g bytes)) waiting (begun (had ++ take g bytes) (k + 1)))
      (last : (k : ℕ) (had bytes : List ℕ) → k < bound → length bytes ≤ g → length payload ≡ length had + length bytes
      → Goes (begun had k) (make k bytes) (whole (had ++ bytes)) none) where
    reads-later : (most : ℕ) (bytes : List ℕ) (k : ℕ) (had : List ℕ) → length bytes ≤ most → 0 < length bytes → length payload ≡ length had + length bytes → k * g + length bytes ≤ bound * g
        → Reads (begun had k) (numbered make k (later g most bytes)) (whole (had ++ bytes)) none
    unfolding later numbered
    reads-later zero [] k had h more-to is room = absurd (omega arith)
    reads-later zero (x ∷ xs) k had h more-to is room = absurd (omega arith)
    reads-later (suc most) [] k had h more-to is room = absurd (omega arith)
    reads-later (suc most) (x ∷ xs) k had h more-to is room =
        by_size (dec_le (length (x ∷ xs)) g) (λ m o w l. reads-later most (drop g (x ∷ xs)) (k + 1) (had ++ take g (x ∷ xs)) m o w l)
      where
        rest : List P
        rest = numbered make (k + 1) (later g most (drop g (x ∷ xs)))

        below : k < bound
        below = by-bound (dec_le bound k)
          where
            by-bound : Dec (bound ≤ k) → k < bound
            by-bound (yes p) = absurd (omega (arith, mul-le-mul_right g p))
            by-bound (no p) = omega arith

        Again : Type 0
        Again =
            length (drop g (x ∷ xs)) ≤ most → 0 < length (drop g (x ∷ xs)) → length payload ≡ length (had ++ take g (x ∷ xs)) + length (drop g (x ∷ xs))
            → (k + 1) * g + length (drop g (x ∷ xs)) ≤ bound * g → Reads (begun (had ++ take g (x ∷ xs)) (k + 1)) rest (whole ((had ++ take g (x ∷ xs)) ++ drop g (x ∷ xs))) none

        by_size : Dec (length (x ∷ xs) ≤ g) → Again → Reads (begun had k) (make k (take g (x ∷ xs)) ∷ rest) (whole (had ++ (x ∷ xs))) none
        by_size (yes p) again =
            let all : take g (x ∷ xs) ≡ x ∷ xs = take_all g (x ∷ xs) p in
            let nil : rest ≡ [] = rw (drop_of_length-le (x ∷ xs) p, later-none g most) in
            rw (nil, all) (one (begun had k) _ _ none (last k had (x ∷ xs) below p is))
        by_size (no p) again =
            let m : length (take g (x ∷ xs)) ≡ g = length-take-le g (x ∷ xs) (omega arith) in
            let over : length (drop g (x ∷ xs)) ≡ length (x ∷ xs) - g = length-drop g (x ∷ xs) in
            let sum : length (had ++ take g (x ∷ xs)) ≡ length had + g = length-append had (take g (x ∷ xs)) ∙ ap (λ (j : ℕ). length had + j) m in
            let many : 0 < length rest = rw (numbered-length make (k + 1) (later g most (drop g (x ∷ xs)))) (later-some g most (drop g (x ∷ xs)) (omega arith) (omega arith)) in
            let up : (k + 1) * g ≡ k * g + g = ap (λ (j : ℕ). j * g) (add-one k) ∙ suc-mul k g in
            let back : (had ++ take g (x ∷ xs)) ++ drop g (x ∷ xs) ≡ had ++ (x ∷ xs) = rw append_assoc (ap (λ (t : List ℕ). had ++ t) (take-append-drop g (x ∷ xs))) in
            let r = again (omega arith) (omega arith) (omega arith) (omega arith) in
            more (begun had k) (begun (had ++ take g (x ∷ xs)) (k + 1)) _ rest _ none many (full k had (x ∷ xs) below (omega arith) is)
            (subst (λ (t : List ℕ). Reads (begun (had ++ take g (x ∷ xs)) (k + 1)) rest (whole t) none) back r)

    -- the first chunk begins, or is all
    module _ (first-full : f < length payload → Goes none (first (take f payload)) waiting (begun (take f payload) 0))
        (first-last : length payload ≤ f → Goes none (first payload) (whole payload) none) (room : length payload ≤ f + bound * g) where
      pub reads_chunks : Reads none (framed first make (chunks f g payload)) (whole payload) none
      unfolding chunks
      reads_chunks = by_size (dec_le (length payload) f)
        where
          rest : List P
          rest = numbered make 0 (later g (length payload) (drop f payload))

          by_size : Dec (length payload ≤ f) → Reads none (first (take f payload) ∷ rest) (whole payload) none
          by_size (yes p) =
              let all : take f payload ≡ payload = take_all f payload p in
              let nil : rest ≡ [] = rw (drop_of_length-le payload p, later-none g (length payload)) (nothing-numbered make 0) in
              rw (nil, all) (one none _ _ none (first-last p))
          by_size (no p) =
              let m : length (take f payload) ≡ f = length-take-le f payload (omega arith) in
              let over : length (drop f payload) ≡ length payload - f = length-drop f payload in
              let many : 0 < length rest = rw (numbered-length make 0 (later g (length payload) (drop f payload))) (later-some g (length payload) (drop f payload) (omega arith) (omega arith)) in
              let r = reads-later (length payload) (drop f payload) 0 (take f payload) (omega arith) (omega arith) (omega arith) (omega arith) in
              more none (begun (take f payload) 0) _ rest _ none many (first-full (omega arith))
              (subst (λ (t : List ℕ). Reads (begun (take f payload) 0) rest (whole t) none) (take-append-drop f payload) r)
