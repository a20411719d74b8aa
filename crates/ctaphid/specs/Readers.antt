-- A reader: what comes to it, packets or fragments, one after another; what each is answered, and what the reader has then. Assumes nothing.
use Rattle.std.specs.Prelude.{List, [], ◌∷◌}

-- the answers of a reader that goes on by `next` and answers by `answer`
abbrev pub told : {S P A : Type 0} → (next : S → P → S) → (answer : S → P → A) → S → List P → List A
told next answer s [] = []
told next answer s (p ∷ rest) = answer s p ∷ told next answer (next s p) rest

abbrev pub left : {S P : Type 0} → (next : S → P → S) → S → List P → S
left next s [] = s
left next s (p ∷ rest) = left next (next s p) rest

-- an answer to each of these but the last, and another to the last
abbrev pub lastly : {P A : Type 0} → (each last : A) → List P → List A
lastly each last [] = []
lastly each last (p ∷ []) = last ∷ []
lastly each last (p ∷ (q ∷ rest)) = each ∷ lastly each last (q ∷ rest)
