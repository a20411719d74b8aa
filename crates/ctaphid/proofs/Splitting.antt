-- The laws of cutting a payload into chunks, over the sizes f and g of the first and the later data fields. Assumes nothing.
use mathlib.Core.Path.{◌≡◌, refl, sym, ap, ◌∙◌}
use Prim.Native.Nat.{ℕ, zero, suc, ◌+◌, ◌-◌, ◌*◌, ◌/◌, ◌%◌, ◌≤◌, ◌<◌}
use mathlib.Core.List.{List, [], ◌∷◌, ◌++◌, map, flatten, append-nil, append_assoc}
use native.Mathlib.Nat.{div-add-mod', mod-lt, mul_comm, suc-mul, div-lt_iff_lt-mul, div-eq_of_lt, add-div_right, mul-zero, mul-suc, add-zero, zero-add}
use native.Mathlib.Numerals.{add-one, one-add}
use native.Mathlib.Omega.{arith}
use native.Mathlib.Decide.{dec_le}
use lib.ListN.{length, take, drop, get_or, length-drop, take-append-drop}
use lib.Seq.{take_all, take-nil, drop-nil, take-append_seam, take-append-add, drop-drop, length-take-le}
use Rattle.ctaphid.specs.Messages.{later, chunks, count, padded, fields, room, numbered, framed, Cuts}

-- a chunk more than hold what is past the first g of n bytes
one_more : (g : ℕ) → 0 < g → (n : ℕ) → 0 < n → suc ((n - g + (g - 1)) / g) ≡ (n + (g - 1)) / g
one_more g some n h =
    let whole : n + (g - 1) ≡ n - 1 + g = omega arith in
    rw (whole, add-div_right (n - 1) some) (by_size (dec_le g n) ∙ sym (add-one ((n - 1) / g)))
  where
    by_size : Dec (g ≤ n) → suc ((n - g + (g - 1)) / g) ≡ suc ((n - 1) / g)
    by_size (yes p) = let e : n - g + (g - 1) ≡ n - 1 = omega arith in rw e
    by_size (no p) = ap suc (div-eq_of_lt {n = n - g + (g - 1)} (omega arith) ∙ sym (div-eq_of_lt {n = n - 1} (omega arith)))

-- a chunk that fills its data field
pub padded-full : (size : ℕ) (chunk : List ℕ) → length chunk ≡ size → padded size chunk ≡ chunk
unfolding padded
padded-full size chunk e = let none : size - length chunk ≡ 0 = omega arith in rw (none, append-nil)

-- a data field that is full, or that has what is left, and then as many more bytes
fill : (g : ℕ) (l r : List ℕ) → take (length l - g) r ≡ drop g l → take (length l) (padded g (take g l) ++ r) ≡ l
unfolding padded
fill g l r e = by_size (dec_le g (length l))
  where
    by_size : Dec (g ≤ length l) → take (length l) (padded g (take g l) ++ r) ≡ l
    by_size (yes p) =
        let k : length (take g l) ≡ g = length-take-le g l p in
        let n : length l ≡ length (take g l) + (length l - g) = omega arith in
        rw (padded-full g (take g l) k)
        (ap (λ (j : ℕ). take j (take g l ++ r)) n ∙ take-append-add (take g l) r (length l - g) ∙ ap (λ (t : List ℕ). take g l ++ t) e ∙ take-append-drop g l)
    by_size (no p) =
        let all : take g l ≡ l = take_all g l (omega arith) in
        rw (all, append_assoc) (take-append_seam l _)

-- ---- the later chunks
module _ (g : ℕ) (some : 0 < g) where
  -- one after another they are the bytes
  pub later-flatten : (most : ℕ) (bytes : List ℕ) → length bytes ≤ most → flatten (later g most bytes) ≡ bytes
  unfolding later flatten
  later-flatten zero [] h = refl
  later-flatten zero (b ∷ bytes) h = absurd (omega arith)
  later-flatten (suc most) [] h = refl
  later-flatten (suc most) (b ∷ bytes) h =
      ap (λ (r : List ℕ). take g (b ∷ bytes) ++ r) (later-flatten most (drop g (b ∷ bytes)) (simp length-drop (omega arith)))
      ∙ take-append-drop g (b ∷ bytes)

  -- chunk i has the bytes from g * i on; past the last there are none
  pub later-at : (most : ℕ) (bytes : List ℕ) (i : ℕ) → length bytes ≤ most → get_or (later g most bytes) i [] ≡ take g (drop (g * i) bytes)
  unfolding later
  later-at zero [] i h = rw (drop-nil, take-nil)
  later-at zero (b ∷ bytes) i h = absurd (omega arith)
  later-at (suc most) [] i h = rw (drop-nil, take-nil)
  later-at (suc most) (b ∷ bytes) zero h = rw mul-zero
  later-at (suc most) (b ∷ bytes) (suc i) h =
      let e : g * suc i ≡ g + g * i = omega (arith, mul-suc g i) in
      rw (e, ← drop-drop (g * i) g (b ∷ bytes)) (later-at most (drop g (b ∷ bytes)) i (simp length-drop (omega arith)))

  -- there are as many as hold the bytes
  pub later-length : (most : ℕ) (bytes : List ℕ) → length bytes ≤ most → length (later g most bytes) ≡ (length bytes + (g - 1)) / g
  unfolding later
  later-length zero [] h = sym (div-eq_of_lt (omega arith))
  later-length zero (b ∷ bytes) h = absurd (omega arith)
  later-length (suc most) [] h = sym (div-eq_of_lt (omega arith))
  later-length (suc most) (b ∷ bytes) h =
      ap suc (later-length most (drop g (b ∷ bytes)) (simp length-drop (omega arith)) ∙ ap (λ (k : ℕ). (k + (g - 1)) / g) (length-drop g (b ∷ bytes)))
      ∙ one_more g some (length (b ∷ bytes)) (omega arith)

  -- each in its data field, one after another, cut at their number, they are the bytes
  pub later-fields : (most : ℕ) (bytes : List ℕ) → length bytes ≤ most → take (length bytes) (flatten (map (padded g) (later g most bytes))) ≡ bytes
  unfolding later flatten
  later-fields zero [] h = refl
  later-fields zero (b ∷ bytes) h = absurd (omega arith)
  later-fields (suc most) [] h = refl
  later-fields (suc most) (b ∷ bytes) h =
      fill g (b ∷ bytes) _ (rw (← length-drop g (b ∷ bytes)) (later-fields most (drop g (b ∷ bytes)) (simp length-drop (omega arith))))

-- ---- the count
module _ (f g n : ℕ) (some : 0 < g) where
  -- as many packets hold n bytes
  pub count-holds : n ≤ f + g * (count f g n - 1)
  count-holds =
      let d = (n - f + (g - 1)) / g in
      let e : d * g + (n - f + (g - 1)) % g ≡ n - f + (g - 1) = div-add-mod' (n - f + (g - 1)) g in
      let m : (n - f + (g - 1)) % g < g = mod-lt (n - f + (g - 1)) some in
      let c : 1 + d - 1 ≡ d = omega arith in
      rw (c, mul_comm g d) (omega arith)

  -- and no fewer do
  pub count-least : (k : ℕ) → n ≤ f + g * k → count f g n ≤ 1 + k
  count-least k h =
      let t : suc k * g ≡ g * k + g = suc-mul k g ∙ ap (λ (x : ℕ). x + g) (mul_comm k g) in
      let b : n - f + (g - 1) < suc k * g = rw t (omega arith) in
      let d : (n - f + (g - 1)) / g < suc k = (div-lt_iff_lt-mul some).1 b in
      omega arith

  -- so there are more bytes than fewer packets hold
  pub count-more : (k : ℕ) → 1 + k < count f g n → f + g * k < n
  count-more k h = by_size (dec_le n (f + g * k))
    where
      by_size : Dec (n ≤ f + g * k) → f + g * k < n
      by_size (yes p) = absurd (omega (arith, count-least k p))
      by_size (no p) = omega arith

-- ---- all chunks
module _ (f g : ℕ) (some : 0 < g) (payload : List ℕ) where
  abbrev n : ℕ
  n = length payload

  -- one after another they are the payload
  pub chunks-flatten : flatten (chunks f g payload) ≡ payload
  unfolding chunks flatten
  chunks-flatten = rw (later-flatten g some n (drop f payload) (simp length-drop (omega arith))) (take-append-drop f payload)

  -- and so are the data fields, cut at its length
  pub fields-flatten : take n (flatten (fields f g payload)) ≡ payload
  unfolding fields chunks flatten
  fields-flatten = fill f payload _ (rw (← length-drop f payload) (later-fields g some n (drop f payload) (simp length-drop (omega arith))))

  -- there are as many as the count says
  pub chunks-length : length (chunks f g payload) ≡ count f g n
  unfolding chunks
  chunks-length = ap suc (later-length g some n (drop f payload) (simp length-drop (omega arith)) ∙ ap (λ (k : ℕ). (k + (g - 1)) / g) (length-drop f payload)) ∙ sym (one-add _)

  pub chunks-first : get_or (chunks f g payload) 0 [] ≡ take f payload
  unfolding chunks
  chunks-first = refl

  pub chunks-later : (i : ℕ) → get_or (chunks f g payload) (suc i) [] ≡ take g (drop (f + g * i) payload)
  unfolding chunks
  chunks-later i = later-at g some n (drop f payload) i (simp length-drop (omega arith)) ∙ ap (take g) (drop-drop (g * i) f payload)

  -- none but the last is short
  pub chunks-full : (i : ℕ) → 1 + i < count f g n → length (get_or (chunks f g payload) i []) ≡ room f g i
  chunks-full zero h =
      let r : f + g * 0 < n = count-more f g n some 0 h in
      rw chunks-first (length-take-le f payload (omega (arith, mul-zero g)))
  chunks-full (suc i) h =
      let r : f + g * suc i < n = count-more f g n some (suc i) h in
      rw chunks-later (length-take-le g (drop (f + g * i) payload) (simp length-drop (omega (arith, mul-suc g i))))

pub cuts : (f g : ℕ) → 0 < g → Cuts f g
cuts f g some = record {
  whole = chunks-flatten f g some;
  padded-whole = fields-flatten f g some;
  counted = chunks-length f g some;
  holds = λ n. count-holds f g n some;
  least = λ n. count-least f g n some;
  full = chunks-full f g some;
}

-- ---- chunks numbered and framed
module _ {A : Type 0} (make : ℕ → List ℕ → A) where
  pub numbered-length : (k : ℕ) (l : List (List ℕ)) → length (numbered make k l) ≡ length l
  unfolding numbered
  numbered-length k [] = refl
  numbered-length k (chunk ∷ l) = ap suc (numbered-length (k + 1) l)

  -- numbers go up by one
  numbered-at : (k : ℕ) (l : List (List ℕ)) (i : ℕ) (a : A) → i < length l → get_or (numbered make k l) i a ≡ make (k + i) (get_or l i [])
  unfolding numbered
  numbered-at k [] i a p = absurd (omega arith)
  numbered-at k (chunk ∷ l) zero a p = rw add-zero
  numbered-at k (chunk ∷ l) (suc i) a p =
      let e : k + suc i ≡ k + 1 + i = omega arith in
      rw e (numbered-at (k + 1) l i a (omega arith))

  numbered-mapped : {B : Type 0} (h : A → B) (k : ℕ) (l : List (List ℕ)) → map h (numbered make k l) ≡ numbered (λ i t. h (make i t)) k l
  unfolding numbered
  numbered-mapped h k [] = refl
  numbered-mapped h k (chunk ∷ l) = ap (λ r. h (make k chunk) ∷ r) (numbered-mapped h (k + 1) l)

  numbered_of : (h : List ℕ → List ℕ) (k : ℕ) (l : List (List ℕ)) → numbered make k (map h l) ≡ numbered (λ i t. make i (h t)) k l
  unfolding numbered
  numbered_of h k [] = refl
  numbered_of h k (chunk ∷ l) = ap (λ r. make k (h chunk) ∷ r) (numbered_of h (k + 1) l)

module _ {A : Type 0} (first : List ℕ → A) (make : ℕ → List ℕ → A) (f g : ℕ) (payload : List ℕ) where
  -- each chunk in its data field, and what is made of each written
  pub fields-framed : {B : Type 0} (h : A → B)
      → map h (framed first make (fields f g payload)) ≡ framed (λ t. h (first (padded f t))) (λ i t. h (make i (padded g t))) (chunks f g payload)
  unfolding fields chunks
  fields-framed h =
      ap (λ r. h (first (padded f (take f payload))) ∷ r)
      (numbered-mapped make h 0 _ ∙ numbered_of (λ i t. h (make i t)) (padded g) 0 (later g (length payload) (drop f payload)))

  pub chunks-framed : {B : Type 0} (h : A → B) → map h (framed first make (chunks f g payload)) ≡ framed (λ t. h (first t)) (λ i t. h (make i t)) (chunks f g payload)
  unfolding chunks
  chunks-framed h = ap (λ r. h (first (take f payload)) ∷ r) (numbered-mapped make h 0 (later g (length payload) (drop f payload)))

  pub framed-first : (a : A) → get_or (framed first make (chunks f g payload)) 0 a ≡ first (take f payload)
  unfolding chunks
  framed-first a = refl

  module _ (some : 0 < g) where
    pub framed-length : length (framed first make (chunks f g payload)) ≡ count f g (length payload)
    unfolding chunks
    framed-length = ap suc (numbered-length make 0 (later g (length payload) (drop f payload))) ∙ chunks-length f g some payload

    pub framed-later : (i : ℕ) (a : A) → 1 + i < count f g (length payload) → get_or (framed first make (chunks f g payload)) (suc i) a ≡ make i (take g (drop (f + g * i) payload))
    unfolding chunks
    framed-later i a h =
        let l = later g (length payload) (drop f payload) in
        let many : suc (length l) ≡ count f g (length payload) = chunks-length f g some payload in
        numbered-at make 0 l i a (omega arith) ∙ (λ j. make (zero-add i j) (chunks-later f g some payload i j))

-- ---- where a later data field has two bytes more than the first, as over HID and Bluetooth
pub count_next : (f n : ℕ) → count f (2 + f) n ≡ 1 + (n + 1) / (2 + f)
count_next f n = by_size (dec_le f n)
  where
    by_size : Dec (f ≤ n) → count f (2 + f) n ≡ 1 + (n + 1) / (2 + f)
    by_size (yes p) = let e : n - f + (2 + f - 1) ≡ n + 1 = omega arith in rw e
    by_size (no p) = ap (λ (d : ℕ). 1 + d) (div-eq_of_lt {n = n - f + (2 + f - 1)} (omega arith) ∙ sym (div-eq_of_lt {n = n + 1} (omega arith)))

pub hid-count : (n : ℕ) → count 57 59 n ≡ 1 + (n + 1) / 59
hid-count n = count_next 57 n
