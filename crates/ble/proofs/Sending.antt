-- What `count_of` and `write_of` give, by their tests. Assumes nothing.
use Prim.Native.Nat.{ℕ, ◌+◌, ◌-◌, ◌*◌, ◌/◌, ◌≤◌, ◌<◌}
use native.Mathlib.Omega.{arith}
use native.Mathlib.Decide.{dec_le}
use mathlib.Core.Path.{◌≡◌, sym, ap, ◌∙◌}
use mathlib.Core.List.{List, [], ◌++◌}
use mathlib.Core.Bool.{Bool, true, false, not}
use borrow.Author.Tests.{leb-true, lt-ltb, le-ltb, le-leb, lt-leb, not-false}
use lib.Dec.{leb}
use lib.ListN.{length, get_or, take, drop, length-append, length-drop}
use lib.Seq.{take_all, take-append_seam, take-append-add, drop-append-add, drop-drop, length-take-le}
use Rattle.ctaphid.specs.Choice.{pick}
use Rattle.ctaphid.specs.Messages.{count}
use Rattle.ctaphid.specs.Bluetooth.{is_size, is_command, fragments_written}
use Rattle.ctaphid.proofs.Tests.{pick_true}
use Rattle.ctaphid.proofs.Splitting.{count_next, count-more}
use Rattle.ctaphid.proofs.Bluetooth.{wire-length}
use Rattle.collect.specs.Adding.{front, Adding, added, add_of}
use Rattle.collect.specs.declared.Added.{Added}
use Rattle.collect.specs.declared.Added.TheVariants as added_is
use Rattle.collect.proofs.Adding.{add-waits, add-whole}
use Rattle.ble.specs.declared.Count.TheVariants.{Fragments, Refused as NoCount}
use Rattle.ble.specs.declared.Written.TheVariants.{Fragment, Refused}
use Rattle.ble.specs.Writing.{left, put, count_of, write_of}

pub sized : (size : ℕ) (b : Bool) → b ≡ is_size size → not b ≡ false → (20 ≤ size) × (size ≤ 512)
unfolding is_size
sized size b is e = let p = pick_true (leb 20 size) _ (sym is ∙ not-false b e) in (leb-true 20 size p.0, leb-true size 512 p.1)

-- a later data field has two bytes more than the first
pub count-of : (size n : ℕ) → 20 ≤ size → count (size - 3) (size - 1) n ≡ 1 + (n + 1) / (size - 1)
count-of size n h = let g : size - 1 ≡ 2 + (size - 3) = omega arith in rw g (count_next (size - 3) n)

-- where a fragment that there is has its data
pub place-within : (size n seq : ℕ) → 20 ≤ size → 1 + seq < 1 + (n + 1) / (size - 1) → size - 3 + (size - 1) * seq < n
place-within size n seq h i = count-more (size - 3) (size - 1) n (omega arith) seq (omega (arith, count-of size n h))

module _ (size n : ℕ) (b : Bool) (is : b ≡ is_size size) where
  pub count-14 : not b ≡ true → NoCount 14 ≡ count_of size n
  unfolding count_of pick
  count-14 out = sym (simp (ap not (sym is) ∙ out))

  pub count-7 : not b ≡ false → 65535 < n → NoCount 7 ≡ count_of size n
  unfolding count_of pick
  count-7 within h = sym (simp (ap not (sym is) ∙ within, lt-ltb 65535 n h))

  pub counts : not b ≡ false → n ≤ 65535 → Fragments (1 + (n + 1) / (size - 1)) ≡ count_of size n
  unfolding count_of pick
  counts within h = sym (simp (ap not (sym is) ∙ within, le-ltb 65535 n h) (ap Fragments (count-of size n (sized size b is within).0)))

module _ (size cmd : ℕ) (payload : List ℕ) (index : ℕ) (m : List ℕ) (b : Bool) (is : b ≡ is_size size) where
  pub write-14 : not b ≡ true → left (Refused 14) m ≡ write_of size cmd payload index m
  unfolding write_of pick
  write-14 out = sym (simp (ap not (sym is) ∙ out))

  module _ (within : not b ≡ false) where
    pub write-2 : length m < size → left (Refused 2) m ≡ write_of size cmd payload index m
    unfolding write_of pick
    write-2 h = sym (simp (ap not (sym is) ∙ within, lt-ltb (length m) size h))

    module _ (room : size ≤ length m) (c : Bool) (known : c ≡ is_command cmd) where
      pub write-12 : not c ≡ true → left (Refused 12) m ≡ write_of size cmd payload index m
      unfolding write_of pick
      write-12 out = sym (simp (ap not (sym is) ∙ within, le-ltb (length m) size room, ap not (sym known) ∙ out))

      module _ (one : not c ≡ false) where
        pub write-7 : 65535 < length payload → left (Refused 7) m ≡ write_of size cmd payload index m
        unfolding write_of pick
        write-7 h = sym (simp (ap not (sym is) ∙ within, le-ltb (length m) size room, ap not (sym known) ∙ one, lt-ltb 65535 (length payload) h))

        module _ (short : length payload ≤ 65535) where
          many : length (fragments_written size cmd payload) ≡ 1 + (length payload + 1) / (size - 1)
          many = wire-length size cmd payload (sized size b is within).0

          pub write-6 : 1 + (length payload + 1) / (size - 1) ≤ index → left (Refused 6) m ≡ write_of size cmd payload index m
          unfolding write_of pick
          write-6 h =
              sym (simp (ap not (sym is) ∙ within, le-ltb (length m) size room, ap not (sym known) ∙ one, le-ltb 65535 (length payload) short, le-leb (length (fragments_written size cmd payload)) index (omega (arith, many))))

          pub writes : index < 1 + (length payload + 1) / (size - 1) → put (get_or (fragments_written size cmd payload) index []) m ≡ write_of size cmd payload index m
          unfolding write_of pick
          writes h =
              sym (simp (ap not (sym is) ∙ within, le-ltb (length m) size room, ap not (sym known) ∙ one, le-ltb 65535 (length payload) short, lt-leb (length (fragments_written size cmd payload)) index (omega (arith, many))))

-- ---- a head and data put into a buffer
module _ (size : ℕ) (head bytes old l : List ℕ) (fits : length head ≤ size) (room : size ≤ length old) (l-is : l ≡ head ++ drop (length head) old) where
  head_of : take (length head) l ≡ head
  head_of = ap (take (length head)) l-is ∙ take-append_seam head (drop (length head) old)

  long : length l ≡ length old
  long = ap length l-is ∙ (length-append head (drop (length head) old) ∙ simp length-drop (omega arith))

  -- what is behind the head stays as it was
  behind : (k : ℕ) → drop (length head + k) l ≡ drop (length head + k) old
  behind k = ap (drop (length head + k)) l-is ∙ (drop-append-add head (drop (length head) old) k ∙ drop-drop k (length head) old)

  front_of : (d : List ℕ) → front (head ++ d) l ≡ front (head ++ d) old
  front_of d = ap (λ (t : List ℕ). (head ++ d) ++ t) (ap (λ (j : ℕ). drop j l) (length-append head d) ∙ (behind (length d) ∙ ap (λ (j : ℕ). drop j old) (sym (length-append head d))))

  -- what the code answers of an addition
  abbrev size_of : Added → ℕ
  size_of (added_is.Waiting n) = n
  size_of added_is.Whole = size
  size_of (added_is.Refused number) = size

  as-put : left (Fragment (size_of (add_of l (length head) size bytes).answer)) (add_of l (length head) size bytes).message ≡ put (head ++ take (size - length head) bytes) old
  as-put = by_size (dec_le size (length head + length bytes))
    where
      by_size : Dec (size ≤ length head + length bytes) → left (Fragment (size_of (add_of l (length head) size bytes).answer)) (add_of l (length head) size bytes).message ≡ put (head ++ take (size - length head) bytes) old
      by_size (yes h) =
          let sum : size ≡ length head + (size - length head) = omega arith in
          let cut : take size (head ++ bytes) ≡ head ++ take (size - length head) bytes = ap (λ (j : ℕ). take j (head ++ bytes)) sum ∙ take-append-add head bytes (size - length head) in
          let all : size ≡ length (head ++ take (size - length head) bytes) =
          sum ∙ sym (length-append head (take (size - length head) bytes) ∙ ap (λ (j : ℕ). length head + j) (length-take-le (size - length head) bytes (omega arith))) in
          rw (add-whole l (length head) size bytes fits (omega (arith, long)) h, head_of, cut) (λ i. left (Fragment (all i)) (front_of (take (size - length head) bytes) i))
      by_size (no h) =
          let few : take (size - length head) bytes ≡ bytes = take_all (size - length head) bytes (omega arith) in
          rw (add-waits l (length head) size bytes fits (omega (arith, long)) (omega arith), head_of, few) (λ i. left (Fragment (sym (length-append head bytes) i)) (front_of bytes i))

  module _ {r : Added} (m' : List ℕ) (e : added r m' ≡ add_of l (length head) size bytes) where
    laid : {r' : Added} → r ≡ r' → left (Fragment (size_of r')) m' ≡ put (head ++ take (size - length head) bytes) old
    laid is = ap (λ (x : Added). left (Fragment (size_of x)) m') (sym is) ∙ (ap (λ (x : Adding). left (Fragment (size_of x.answer)) x.message) e ∙ as-put)

    -- by the answer of `add_data`
    pub laid-short : {n : ℕ} → r ≡ added_is.Waiting n → left (Fragment n) m' ≡ put (head ++ take (size - length head) bytes) old
    laid-short is = laid is

    pub laid-full : r ≡ added_is.Whole → left (Fragment size) m' ≡ put (head ++ take (size - length head) bytes) old
    laid-full is = laid is

    pub laid-never : {number : ℕ} → r ≡ added_is.Refused number → left (Fragment size) m' ≡ put (head ++ take (size - length head) bytes) old
    laid-never is = laid is
