-- Numbers read as commands. Assumes nothing.
use Prim.Native.Nat.{ℕ, ◌≤◌, ◌<◌}
use native.Mathlib.Omega.{arith}
use mathlib.Core.Path.{◌≡◌, refl, sym, ap, subst, ◌∙◌}
use mathlib.Core.Bool.{true, false}
use mathlib.Core.List.{List, [], ◌∷◌}
use borrow.Author.Tests.{ne_eqb, lt-leb, le-leb, leb-true}
use lib.Dec.{eqb, leb}
use Rattle.ctaphid.specs.Choice.{pick}
use Rattle.ctaphid.proofs.Tests.{pick_same, pick_true, pick-both, pick_known}
use Rattle.ctaphid.specs.Commands.{Command, MSG, CBOR, INIT, PING, CANCEL, ERROR, KEEPALIVE, WINK, LOCK, VENDOR, number, is_vendor, commands, among, command_of}

-- ---- the vendor's numbers

pub vendor-range : (n : ℕ) → is_vendor n ≡ true → (64 ≤ n) × (n ≤ 127)
unfolding is_vendor
vendor-range n h = let p = pick_true (leb 64 n) (leb n 127) h in (leb-true 64 n p.0, leb-true n 127 p.1)

pub is-vendor : (n : ℕ) → 64 ≤ n → n ≤ 127 → is_vendor n ≡ true
unfolding is_vendor pick
is-vendor n h k = simp (le-leb 64 n h, le-leb n 127 k)

pub below-vendor : (n : ℕ) → n < 64 → is_vendor n ≡ false
unfolding is_vendor pick
below-vendor n h = simp (lt-leb 64 n h)

pub above-vendor : (n : ℕ) → 128 ≤ n → is_vendor n ≡ false
unfolding is_vendor
above-vendor n h = simp (lt-leb n 127 (omega (arith, h)), pick_same (leb 64 n) false)

pub from-64 : (n : ℕ) → 64 ≤ n → leb n 127 ≡ is_vendor n
unfolding is_vendor pick
from-64 n h = simp (le-leb 64 n h)

-- no named number is the vendor's
none_named : (n : ℕ) → is_vendor n ≡ true → (other : Command) → among commands n other ≡ other
unfolding pick among
none_named n v other = simp (past 0x03 refl, past 0x10 refl, past 0x06 refl, past 0x01 refl, past 0x11 refl, past 0x3f refl, past 0x3b refl, past 0x08 refl, past 0x04 refl)
  where
    past : (k : ℕ) → leb k 63 ≡ true → eqb n k ≡ false
    past k h = ne_eqb n k (λ e. let r = vendor-range n v in omega (arith, leb-true k 63 h))

pub vendor-read : (n : ℕ) → is_vendor n ≡ true → VENDOR n ≡ command_of n
unfolding pick
vendor-read n v = sym (none_named n v _ ∙ simp v)

-- ---- what can be read

-- any command, but of the vendor's those with its numbers
abbrev pub Named : Command → Type 0
Named MSG = Unit {0}
Named CBOR = Unit {0}
Named INIT = Unit {0}
Named PING = Unit {0}
Named CANCEL = Unit {0}
Named ERROR = Unit {0}
Named KEEPALIVE = Unit {0}
Named WINK = Unit {0}
Named LOCK = Unit {0}
Named (VENDOR n) = is_vendor n ≡ true

pub reads-named : (n : ℕ) → Named (command_of n)
unfolding among
reads-named n =
    pick-both Named _ _ _ tt (pick-both Named _ _ _ tt (pick-both Named _ _ _ tt (pick-both Named _ _ _ tt (pick-both Named _ _ _ tt (pick-both Named _ _ _ tt (pick-both Named _ _ _ tt (pick-both Named _ _ _ tt (pick-both Named _ _ _ tt (pick_known Named (is_vendor n) _ _ (λ v. v) (λ v. tt))))))))))

-- so what reads as one of the vendor's has one of its numbers
pub reads-vendor : (n k : ℕ) → VENDOR k ≡ command_of n → is_vendor k ≡ true
reads-vendor n k e = subst Named (sym e) (reads-named n)

-- reading a command's number gives the command: so no two have the same number
pub command-of-number : (c : Command) → Named c → command_of (number c) ≡ c
unfolding is_vendor pick among
command-of-number MSG h = refl
command-of-number CBOR h = refl
command-of-number INIT h = refl
command-of-number PING h = refl
command-of-number CANCEL h = refl
command-of-number ERROR h = refl
command-of-number KEEPALIVE h = refl
command-of-number WINK h = refl
command-of-number LOCK h = refl
command-of-number (VENDOR n) h = sym (vendor-read n h)

pub named-read : (c : Command) → Named c → {n : ℕ} → n ≡ number c → c ≡ command_of n
named-read c h e = sym (ap command_of e ∙ command-of-number c h)

-- ---- what is left

-- A, and that the number is none of these commands': as a `match` has it behind its numbers, so in their order
abbrev pub Behind : Type 0 → List Command → ℕ → Type 0
Behind A [] n = A
Behind A (c ∷ rest) n = Behind (A × (n ≡ number c → ⊥)) rest n

behind : (A : Type 0) (cs : List Command) (n : ℕ) → Behind A cs n → A × ((other : Command) → among cs n other ≡ other)
unfolding pick among
behind A [] n h = (h, λ other. refl)
behind A (c ∷ rest) n h =
    let p = behind (A × (n ≡ number c → ⊥)) rest n h in (p.0.0, λ other. simp (ne_eqb n (number c) p.0.1) (p.1 other))

-- a number that is neither a named command's nor the vendor's reads as ERROR
pub rest_read : (n : ℕ) → Behind (Unit {0}) commands n → is_vendor n ≡ false → ERROR ≡ command_of n
unfolding pick
rest_read n h v = sym ((behind (Unit {0}) commands n h).1 _ ∙ simp v)
