-- What a `return` of the reader's code meets: a law for each case of the standard's reader. Assumes nothing.
use Prim.Native.Nat.{ℕ, ◌+◌, ◌-◌, ◌%◌, ◌≤◌, ◌<◌}
use native.Mathlib.Omega.{arith}
use native.Mathlib.Decide.{dec_le}
use mathlib.Core.Path.{◌≡◌, sym, ap, ◌∙◌}
use mathlib.Core.List.{List, ◌++◌}
use mathlib.Core.Bool.{Bool, true, false, not}
use borrow.Author.Tests.{eq-eqb, ne_eqb, not-false}
use lib.ListN.{length, take, length-append}
use lib.Seq.{length-take-le, take-length}
use Rattle.ctaphid.specs.Choice.{pick}
use Rattle.ctaphid.specs.Host as standard
use Rattle.ctaphid.specs.Host.{none, collecting}
use Rattle.ctaphid.specs.Bluetooth.{is_size, initialization, continuation, refused, Taken, taken, gather, on_fragment, hear}
use Rattle.ctaphid.proofs.Bluetooth.{gather-over, gather-waits, gather-whole, on-first, on-due, on-inside, on-long, on_none, on-another}
use Rattle.collect.specs.Adding.{front, Adding, added, add_of}
use Rattle.collect.specs.declared.Added.{Added}
use Rattle.collect.specs.declared.Added.TheVariants as added_is
use Rattle.collect.proofs.Adding.{add-waits, add-whole, waits-below}
use Rattle.host.specs.declared.Collection.{Collection}
use Rattle.host.specs.Meaning.{begun_of, collection_meant, none_begun}
use Rattle.host.specs.Reading.{Adds}
use Rattle.ble.specs.declared.Answer.TheVariants.{Refused, Waiting, Message}
use Rattle.ble.specs.declared.Progress.{Progress}
use Rattle.ble.specs.Soundness.{Sound, is_sound}
use Rattle.ble.specs.Reading.{Reading, reading, laid, read_of}
use Rattle.ble.proofs.Sound.{sound-is}

-- ---- what a collection's numbers mean
pub meant-none : (s : Collection) (m : List ℕ) → s.len ≡ 0 → collection_meant s m ≡ none
unfolding collection_meant pick
meant-none s m z = simp (eq-eqb _ _ z)

pub meant-begun : (s : Collection) (m : List ℕ) → (s.len ≡ 0 → ⊥) → collection_meant s m ≡ collecting (begun_of s m)
unfolding collection_meant pick
meant-begun s m z = simp (ne_eqb _ _ z)

-- ---- a refused fragment
pub left-refused : (s : Collection) (m : List ℕ) (r : Progress) (x : Taken) (t : standard.Collection) {number : ℕ} → r ≡ record { collection = s; answer = Refused number } → x ≡ taken t (refused number)
    → reading r.collection r.answer m ≡ laid s x m
unfolding laid
left-refused s m r x t e k = ap (λ (p : Progress). reading p.collection p.answer m) e ∙ sym (ap (λ (y : Taken). laid s y m) k)

module _ (s : Collection) (size : ℕ) (f m : List ℕ) (b : Bool) (sized : b ≡ is_size size) where
  pub read-14 : (r : Progress) → not b ≡ true → r ≡ record { collection = s; answer = Refused 14 } → reading r.collection r.answer m ≡ read_of s size f m
  unfolding read_of pick
  read-14 r out e = simp (ap not (sym sized) ∙ out) (ap (λ (p : Progress). reading p.collection p.answer m) e)

  module _ (within : not b ≡ false) (c : Bool) (is : c ≡ is_sound s (length m)) where
    pub read-3 : (r : Progress) → not c ≡ true → r ≡ record { collection = s; answer = Refused 3 } → reading r.collection r.answer m ≡ read_of s size f m
    unfolding read_of pick
    read-3 r out e = simp (ap not (sym sized) ∙ within, ap not (sym is) ∙ out) (ap (λ (p : Progress). reading p.collection p.answer m) e)

    pub read-sound : not c ≡ false → Sound s (length m)
    read-sound k = sound-is s (length m) (sym is ∙ not-false c k)

    pub read-heard : (o : Reading) → not c ≡ false → o ≡ laid s (hear size (length m) (collection_meant s m) f) m → o ≡ read_of s size f m
    unfolding read_of pick
    read-heard o k e = simp (ap not (sym sized) ∙ within, ap not (sym is) ∙ k) e

-- ---- a fragment that is taken, by its kind: n and d are what the code has for the declared length and the data
pub begins : (s : Collection) (m : List ℕ) (cmd n n' : ℕ) (d d' : List ℕ) → s.len ≡ 0 → n ≡ n' → d ≡ d' → n ≤ length m
    → gather (collection_meant s m) (begun_of (record { len = n; taken = 0; cmd = cmd; seq = 0 }) m) d ≡ on_fragment (length m) (collection_meant s m) (initialization cmd n' d')
begins s m cmd n n' d d' z e k h =
    rw (meant-none s m z) (sym (on-first (length m) cmd n d h) ∙ (λ i. on_fragment (length m) none (initialization cmd (e i) (k i))))

pub follows : (s : Collection) (m : List ℕ) (space k : ℕ) (d d' : List ℕ) → (s.len ≡ 0 → ⊥) → k ≡ s.seq → d ≡ d'
    → gather (collection_meant s m) (begun_of (record { len = s.len; taken = s.taken; cmd = s.cmd; seq = (s.seq + 1) % 128 }) m) d
    ≡ on_fragment space (collection_meant s m) (continuation k d')
follows s m space k d d' z e i =
    rw (meant-begun s m z) (sym (on-due space (begun_of s m) k d e) ∙ ap (λ (x : List ℕ). on_fragment space (collecting (begun_of s m)) (continuation k x)) i)

-- and one that is refused
pub inside : (s : Collection) (m : List ℕ) (space cmd n : ℕ) (d : List ℕ) → (s.len ≡ 0 → ⊥)
    → on_fragment space (collection_meant s m) (initialization cmd n d) ≡ taken (collecting (begun_of s m)) (refused 16)
inside s m space cmd n d z = rw (meant-begun s m z) (on-inside space (begun_of s m) cmd n d)

pub too_long : (s : Collection) (m : List ℕ) (space cmd n : ℕ) (d : List ℕ) → s.len ≡ 0 → space < n
    → on_fragment space (collection_meant s m) (initialization cmd n d) ≡ taken none (refused 17)
too_long s m space cmd n d z h = rw (meant-none s m z) (on-long space cmd n d h)

pub none-begun : (s : Collection) (m : List ℕ) (space k : ℕ) (d : List ℕ) → s.len ≡ 0 → on_fragment space (collection_meant s m) (continuation k d) ≡ taken none (refused 16)
none-begun s m space k d z = rw (meant-none s m z) (on_none space k d)

pub another : (s : Collection) (m : List ℕ) (space k : ℕ) (d : List ℕ) → (s.len ≡ 0 → ⊥) → (k ≡ s.seq → ⊥)
    → on_fragment space (collection_meant s m) (continuation k d) ≡ taken (collecting (begun_of s m)) (refused 16)
another s m space k d z e = rw (meant-begun s m z) (on-another space (begun_of s m) k d e)

-- ---- data is added to b; s is what there was before
module _ (s b : Collection) (t : standard.Collection) (m d : List ℕ) (adds : Adds b m) where
  long : length (take b.taken m) ≡ b.taken
  long = length-take-le b.taken m (omega (arith, adds.taken, adds.room))

  pub excess : b.len - b.taken < length d → gather t (begun_of b m) d ≡ taken t (refused 18)
  excess h = gather-over t (begun_of b m) d (omega (arith, long, adds.taken))

  -- what the code makes of an addition
  abbrev made : Added → List ℕ → Reading
  made (added_is.Waiting n) m' = reading (record { len = b.len; taken = n; cmd = b.cmd; seq = b.seq }) Waiting m'
  made added_is.Whole m' = reading none_begun (Message b.cmd b.len) m'
  made (added_is.Refused number) m' = reading s Waiting m'

  module _ (fits : length d ≤ b.len - b.taken) where
    -- which is what the standard's reader does
    as-gathered : made (add_of m b.taken b.len d).answer (add_of m b.taken b.len d).message ≡ laid s (gather t (begun_of b m) d) m
    unfolding laid
    as-gathered = by_size (dec_le b.len (b.taken + length d))
      where
        sum : length (take b.taken m ++ d) ≡ b.taken + length d
        sum = simp (length-append, long)

        by_size : Dec (b.len ≤ b.taken + length d) → made (add_of m b.taken b.len d).answer (add_of m b.taken b.len d).message ≡ laid s (gather t (begun_of b m) d) m
        by_size (yes h) =
            let all : b.len ≡ length (take b.taken m ++ d) = omega (arith, sum, adds.taken) in
            let cut : take b.len (take b.taken m ++ d) ≡ take b.taken m ++ d = ap (λ (j : ℕ). take j (take b.taken m ++ d)) all ∙ take-length (take b.taken m ++ d) in
            rw (add-whole m b.taken b.len d adds.taken adds.room h, gather-whole t (begun_of b m) d (omega (arith, long, adds.taken)), cut)
            (ap (λ (j : ℕ). reading none_begun (Message b.cmd j) (front (take b.taken m ++ d) m)) all)
        by_size (no h) =
            rw (add-waits m b.taken b.len d adds.taken adds.room (omega arith), gather-waits t (begun_of b m) d (omega (arith, long)))
            (ap (λ (j : ℕ). reading (record { len = b.len; taken = j; cmd = b.cmd; seq = b.seq }) Waiting (front (take b.taken m ++ d) m)) (sym sum))

    module _ {r : Added} (m' : List ℕ) (e : added r m' ≡ add_of m b.taken b.len d) where
      gathered : {r' : Added} (o : Progress) → r ≡ r' → reading o.collection o.answer m' ≡ made r' m' → reading o.collection o.answer m' ≡ laid s (gather t (begun_of b m) d) m
      gathered o is k = k ∙ (ap (λ (x : Added). made x m') (sym is) ∙ (ap (λ (x : Adding). made x.answer x.message) e ∙ as-gathered))

      -- by the answer of `add_data`
      pub waits : {n : ℕ} (o : Progress) → o ≡ record { collection = record { len = b.len; taken = n; cmd = b.cmd; seq = b.seq }; answer = Waiting } → r ≡ added_is.Waiting n
          → reading o.collection o.answer m' ≡ laid s (gather t (begun_of b m) d) m
      waits o k is = gathered o is (ap (λ (p : Progress). reading p.collection p.answer m') k)

      pub whole : (o : Progress) → o ≡ record { collection = none_begun; answer = Message b.cmd b.len } → r ≡ added_is.Whole
          → reading o.collection o.answer m' ≡ laid s (gather t (begun_of b m) d) m
      whole o k is = gathered o is (ap (λ (p : Progress). reading p.collection p.answer m') k)

      pub never : {number : ℕ} (o : Progress) → o ≡ record { collection = s; answer = Waiting } → r ≡ added_is.Refused number
          → reading o.collection o.answer m' ≡ laid s (gather t (begun_of b m) d) m
      never o k is = gathered o is (ap (λ (p : Progress). reading p.collection p.answer m') k)

      -- what waits has fewer bytes than were declared
      pub waits-low : {n : ℕ} → r ≡ added_is.Waiting n → n < b.len
      waits-low is = waits-below m b.taken b.len d adds.taken adds.room m' e is
