use Prim.Native.Nat.{ℕ, zero, ◌+◌, ◌-◌, ◌≤◌, ◌<◌}
use native.Mathlib.Omega.{arith}
use mathlib.Core.Path.{◌≡◌, sym, ap, ◌∙◌}
use mathlib.Core.List.{List, [], ◌++◌, append-nil}
use lib.ListN.{length, take, drop, replicate, length-replicate, drop_of_length-le, replicate-append-replicate}
use lib.Seq.{take_all, length-take-le, drop_at}
use borrow.Rule.Slice.PartMut.{put_mid}
use Rattle.ctaphid.specs.Messages.{padded}
use Rattle.ctaphid.proofs.Splitting.{padded-full}
use Rattle.packet.proofs.Parts.{rest, rest-length, put_rest}
use Rattle.send.proofs.consume_data.Goals as goal

after_front : (k : ℕ) (old part : List ℕ) → k ≤ length old → drop k (put_mid k (length old - k) old part) ≡ part
after_front k old part h = ap (drop k) (put_rest k old part h) ∙ drop_at (take k old) part k (length-take-le k old h)

zeros-left : (k n : ℕ) → k ≤ n → drop k (replicate n zero) ≡ replicate (n - k) zero
zeros-left k n h =
    let e : n ≡ k + (n - k) = omega arith in
    ap (λ (m : ℕ). drop k (replicate m zero)) e
    ∙ (ap (drop k) (sym (replicate-append-replicate k (n - k) zero)) ∙ drop_at (replicate k zero) (replicate (n - k) zero) k (length-replicate k zero))

over_zeros : (k n : ℕ) (bytes cleared part : List ℕ) → k ≤ n → length bytes < n - k → cleared ≡ replicate n 0
    → part ≡ bytes ++ drop (length bytes) (take (length cleared - k) (drop k cleared)) → part ≡ padded (n - k) (take (n - k) bytes)
unfolding padded
over_zeros k n bytes cleared part h few zeros e =
    let all : take (n - k) bytes ≡ bytes = take_all (n - k) bytes (omega arith) in
    let behind : drop (length bytes) (take (length cleared - k) (drop k cleared)) ≡ replicate (n - k - length bytes) 0 =
    ap (drop (length bytes)) (rest k cleared ∙ (ap (drop k) zeros ∙ zeros-left k n h)) ∙ zeros-left (length bytes) (n - k) (omega arith) in
    e ∙ rw (behind, all)

pub returns-then-data-room : goal.returns-then-data-room
returns-then-data-room c =
    let a = c.args in
    let n = length a.packet.now in
    let cleared = c.clear.new.dst in
    let long : length cleared ≡ n = ap length c.clear.ensures ∙ length-replicate n 0 in
    after_front a.front cleared c.copy.new.dst (omega (arith, long))
    ∙ over_zeros a.front n a.«data».now cleared c.copy.new.dst (omega arith) (omega arith) c.clear.ensures c.copy.ensures

pub returns-else-data-room : goal.returns-else-data-room
returns-else-data-room c =
    let a = c.args in
    let copied = c.copy-else-data-room in
    let size = length a.packet.now - a.front in
    let part = take size a.«data».now in
    let field = take size (drop a.front a.packet.now) in
    let many : length part ≡ size = length-take-le size a.«data».now (omega arith) in
    let none : drop (length part) field ≡ [] = drop_of_length-le field {i = length part} (omega (arith, rest-length a.front a.packet.now)) in
    after_front a.front a.packet.now copied.new.dst (omega arith)
    ∙ (copied.ensures ∙ rw (none, append-nil) (sym (padded-full size part many)))
