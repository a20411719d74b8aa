-- What `add_of` gives, by its tests, and the buffer that a copy at a place leaves. Assumes nothing.
use Prim.Native.Nat.{ℕ, ◌+◌, ◌-◌, ◌≤◌, ◌<◌}
use native.Mathlib.Omega.{arith}
use native.Mathlib.Decide.{dec_le}
use mathlib.Core.Path.{◌≡◌, sym, ap, ◌∙◌}
use mathlib.Core.List.{List, ◌++◌, append_assoc}
use borrow.Author.Tests.{lt-ltb, le-ltb}
use lib.ListN.{length, take, drop, length-append}
use lib.Seq.{length-take-le, take-append-add}
use Rattle.ctaphid.specs.Choice.{pick}
use Rattle.collect.specs.Adding.{front, Adding, added, add_of}
use Rattle.collect.specs.declared.Added.{Added}
use Rattle.collect.specs.declared.Added.TheVariants.{Waiting, Whole, Refused}

-- bytes put at a place, as a front
pub put_front : (m field : List ℕ) (taken : ℕ) → taken ≤ length m → take taken m ++ (field ++ drop (taken + length field) m) ≡ front (take taken m ++ field) m
put_front m field taken h =
    let n : length (take taken m ++ field) ≡ taken + length field = simp (length-append, length-take-le taken m h) in
    rw (n, append_assoc)

-- and the same of as many as are left up to the declared length
pub put-left : (m field : List ℕ) (taken declared : ℕ) → taken ≤ declared → taken ≤ length m
    → take taken m ++ (take (declared - taken) field ++ drop (taken + length (take (declared - taken) field)) m) ≡ front (take declared (take taken m ++ field)) m
put-left m field taken declared h k =
    let n : declared ≡ length (take taken m) + (declared - taken) = simp (length-take-le taken m k) (omega arith) in
    let cut : take declared (take taken m ++ field) ≡ take taken m ++ take (declared - taken) field =
    ap (λ (j : ℕ). take j (take taken m ++ field)) n ∙ take-append-add (take taken m) field (declared - taken) in
    put_front m (take (declared - taken) field) taken k ∙ ap (λ (l : List ℕ). front l m) (sym cut)

module _ (m : List ℕ) (taken declared : ℕ) (field : List ℕ) where
  pub add-over : declared < taken → add_of m taken declared field ≡ added (Refused 3) m
  unfolding add_of pick
  add-over h = simp (lt-ltb _ _ h)

  module _ (h : taken ≤ declared) where
    pub add-room : length m < declared → add_of m taken declared field ≡ added (Refused 3) m
    unfolding add_of pick
    add-room r = simp (le-ltb _ _ h, lt-ltb _ _ r)

    pub add-waits : declared ≤ length m → taken + length field < declared → add_of m taken declared field ≡ added (Waiting (taken + length field)) (front (take taken m ++ field) m)
    unfolding add_of pick
    add-waits r l = simp (le-ltb _ _ h, le-ltb _ _ r, lt-ltb _ _ l)

    pub add-whole : declared ≤ length m → declared ≤ taken + length field → add_of m taken declared field ≡ added Whole (front (take declared (take taken m ++ field)) m)
    unfolding add_of pick
    add-whole r l = simp (le-ltb _ _ h, le-ltb _ _ r, le-ltb _ _ l)

    -- what waits has fewer bytes than were declared
    pub waits-below : declared ≤ length m → {r : Added} (m' : List ℕ) → added r m' ≡ add_of m taken declared field → {n : ℕ} → r ≡ Waiting n → n < declared
    waits-below room {r} m' e {n} is = by_size (dec_le declared (taken + length field))
      where
        by_size : Dec (declared ≤ taken + length field) → n < declared
        by_size (yes l) =
            let w : r ≡ Whole = ap (λ (o : Adding). o.answer) (e ∙ add-whole room l) in
            let z : ◌≡◌ {A = ℕ} 0 1 = cc in
            absurd (omega arith)
        by_size (no l) =
            let w : r ≡ Waiting (taken + length field) = ap (λ (o : Adding). o.answer) (e ∙ add-waits room (omega arith)) in
            let n-is : n ≡ taken + length field = cc in
            omega arith
