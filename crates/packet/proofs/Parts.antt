-- Parts of a slice. Assumes nothing.
use Prim.Native.Nat.{ℕ, ◌+◌, ◌-◌, ◌≤◌}
use native.Mathlib.Omega.{arith}
use mathlib.Core.Path.{◌≡◌, ap, ◌∙◌}
use mathlib.Core.List.{List, [], ◌++◌, append-nil}
use borrow.Rule.Slice.PartMut.{put_mid, Post-is}
use lib.ListN.{length, take, drop, length-append, length-drop, drop_of_length-le}
use lib.Seq.{take_all, take-length, take-append_seam, drop-drop}

-- what `&s[k..]` holds
pub rest : (k : ℕ) (l : List ℕ) → take (length l - k) (drop k l) ≡ drop k l
rest k l = take_all (length l - k) (drop k l) (simp length-drop (omega arith))

pub rest-length : (k : ℕ) (l : List ℕ) → length (take (length l - k) (drop k l)) ≡ length l - k
rest-length k l = ap length (rest k l) ∙ length-drop k l

-- a slice whose part `&mut s[k..]` has come back as ys
pub put_rest : (k : ℕ) (l ys : List ℕ) → k ≤ length l → put_mid k (length l - k) l ys ≡ take k l ++ ys
put_rest k l ys h =
    let none : drop (length l) l ≡ [] = drop_of_length-le l {i = length l} (omega arith) in
    rw (Post-is k (length l) l h, none, append-nil)

-- the same, where the front was copied in before
pub front-and-rest : (front old l ys : List ℕ) → length front ≤ length old → l ≡ take (length front) front ++ drop (length front) old
    → put_mid (length front) (length l - length front) l ys ≡ front ++ ys
front-and-rest front old l ys h e =
    let e' : l ≡ front ++ drop (length front) old = rw take-length at e in
    let long : length front ≤ length l = omega (arith, simp length-append at (ap length e')) in
    put_rest (length front) l ys long ∙ ap (λ (t : List ℕ). t ++ ys) (ap (take (length front)) e' ∙ take-append_seam front (drop (length front) old))

-- a slice that another as long was copied over
pub all-copied : (src old l : List ℕ) → length src ≡ length old → l ≡ take (length src) src ++ drop (length src) old → l ≡ src
all-copied src old l h e =
    let none : drop (length src) old ≡ [] = drop_of_length-le old {i = length src} (omega arith) in
    e ∙ rw (take-length, none, append-nil)

-- a slice that another was copied into, from a place on
pub copied_at : (k : ℕ) (old src part : List ℕ) → k ≤ length old → part ≡ take (length src) src ++ drop (length src) (take (length old - k) (drop k old))
    → put_mid k (length old - k) old part ≡ take k old ++ (src ++ drop (k + length src) old)
copied_at k old src part h e = put_rest k old part h ∙ ap (λ (t : List ℕ). take k old ++ t) (e ∙ rw (take-length, rest k old, drop-drop))
