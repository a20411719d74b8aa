-- Texts put one after another. Assumes nothing.
use Prim.Native.Nat.{ℕ, suc, ◌+◌, ◌≤◌}
use native.Mathlib.Numerals.{add-one}
use native.Mathlib.Omega.{arith}
use mathlib.Core.Path.{◌≡◌, refl, sym, ap, ◌∙◌}
use mathlib.Core.List.{List, [], ◌∷◌, ◌++◌, append_assoc, append-nil}
use lib.ListN.{length, take, drop, set, length-append, length-drop, take-append-drop}
use lib.Seq.{length-take-le, take_at, drop-append-add, drop-drop, sets-eq}
use Rattle.bench_output.specs.Placing.{laid, Put}

module _ (place : ℕ) (a out : List ℕ) (h : place + length a ≤ length out) where
  head-length : length (take place out ++ a) ≡ place + length a
  head-length = length-append (take place out) a ∙ ap (λ (k : ℕ). k + length a) (length-take-le place out (omega arith))

  pub laid-length : length (laid place a out) ≡ length out
  laid-length = simp (length-append (take place out ++ a), length-drop) (omega (arith, head-length))

  pub laid-twice : (b : List ℕ) → laid (place + length a) b (laid place a out) ≡ laid place (a ++ b) out
  laid-twice b =
      let p = take place out ++ a in
      let q = drop (place + length a) out in
      let e : take (place + length a) (p ++ q) ≡ p = take_at p q (place + length a) head-length in
      let n : place + length a + length b ≡ place + length (a ++ b) = omega (arith, length-append a b) in
      let f : drop (place + length a + length b) (p ++ q) ≡ drop (place + length (a ++ b)) out =
      ap (λ (k : ℕ). drop (k + length b) (p ++ q)) (sym head-length)
      ∙ (drop-append-add p q (length b)
      ∙ (drop-drop (length b) (place + length a) out ∙ ap (λ (k : ℕ). drop k out) n)) in
      rw (e, f, append_assoc (take place out) a b)

-- one text, and then another right after it
pub put_both : {place next last : ℕ} {a b out mid left : List ℕ} → place + length a ≤ length out → Put place a out next mid → Put next b mid last left → Put place (a ++ b) out last left
put_both {place} {next} {last} {a} {b} {out} {mid} {left} h p q = record {
  next = omega (arith, p.next, q.next, length-append a b);
  bytes = q.bytes ∙ (λ i. laid (p.next i) b (p.bytes i)) ∙ laid-twice place a out h b;
}

pub put-length : {place next : ℕ} {a out left : List ℕ} → place + length a ≤ length out → Put place a out next left → length left ≡ length out
put-length {place} {next} {a} {out} h p = ap length p.bytes ∙ laid-length place a out h

pub put-none : (place : ℕ) (out : List ℕ) → Put place [] out place out
put-none place out = record {
  next = omega arith;
  bytes = sym (let e : place + length {A = ℕ} [] ≡ place = omega arith in rw (e, append-nil) (take-append-drop place out));
}

-- ---- stores one after another
pub put_one : (x place : ℕ) (out : List ℕ) → place + 1 ≤ length out → Put place (x ∷ []) out (place + 1) (set out place x)
put_one x place out h = record { next = refl; bytes = sets-eq (x ∷ []) out place h }

pub put_two : (x y place : ℕ) (out : List ℕ) → place + 2 ≤ length out → Put place (x ∷ y ∷ []) out (place + 2) (set (set out place x) (place + 1) y)
put_two x y place out h = record { next = refl; bytes = rw add-one (sets-eq (x ∷ y ∷ []) out place h) }

pub put_three : (x y z place : ℕ) (out : List ℕ) → place + 3 ≤ length out → Put place (x ∷ y ∷ z ∷ []) out (place + 3) (set (set (set out place x) (place + 1) y) (place + 2) z)
put_three x y z place out h =
    let two : place + 2 ≡ suc (suc place) = omega arith in
    record { next = refl; bytes = rw (add-one, two) (sets-eq (x ∷ y ∷ z ∷ []) out place h) }
