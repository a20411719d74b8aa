-- Delivery on each interface of a key, as the single transport has it of what that interface sees: of any key that is as the two transports are. Assumes nothing.
use Prim.Native.Nat.{ℕ, ◌+◌, ◌≤◌}
use native.Mathlib.Omega.{arith}
use mathlib.Core.Path.{◌≡◌, refl, ap, ◌∙◌}
use mathlib.Core.List.{List, [], ◌∷◌}
use mathlib.Core.Logic.{inl, inr, ⊎_elim}
use Rattle.ctaphid.specs.Transport.{Transport, Event, Answer, nothing, step}
use Rattle.ctaphid.specs.Demands.{standard, after, Open, Sent, handed_out, Hushed, Ends}
use Rattle.ctaphid.specs.Interfaces.{Interface, KeySettings, settings_on, Arrival, Both, is_hindered, seen_as}
use Rattle.ctaphid.specs.KeyDemands.{AnyKey, standard_both, KeyPermitted, bare, latest_of, TakenBy, after_by, answer_by, only, seen, Behind, OpenOn, SentOn, Unhindered, EndsOn, DeliveryOnEach}
use Rattle.ctaphid.proofs.Deliver.{delivery}
use Rattle.ctaphid.proofs.Interfaces.{only-known, sides, Seen, proper-seen, seen-taken}
use Rattle.ctaphid.proofs.Behind.{AsBoth, hands-no-more, alone, agree_on, named-on}

-- ---- what follows a history

-- no call in it is refused, and the last of them is this interface's
abbrev Follows : Interface → (past rest : List Arrival) → Type 0
Follows i past [] = ⊥
Follows i past (a ∷ []) = TakenBy (a ∷ past) × (a.interface ≡ i)
Follows i past (a ∷ (b ∷ rest)) = TakenBy (a ∷ past) × Follows i (a ∷ past) (b ∷ rest)

none_left : {p : List ℕ} {ps : List (List ℕ)} → p ∷ ps ≡ [] → ⊥
none_left e = let z : ◌≡◌ {A = ℕ} 0 1 = cc in omega arith

sent-follows : (i : Interface) (c deadline : ℕ) (ps : List (List ℕ)) (a : Arrival) (rest past : List Arrival) → TakenBy past → SentOn i c deadline (latest_of past) ps (a ∷ rest) → Follows i past (a ∷ rest)
sent-follows i c deadline [] a rest past taken w = absurd w
sent-follows i c deadline (p ∷ ps) a [] past taken w = ((w.0, w.1, taken), ⊎_elim (λ o. o.0) (λ o. absurd (none_left o.1)) w.2)
sent-follows i c deadline (p ∷ ps) a (b ∷ rest) past taken w =
    let next : TakenBy (a ∷ past) = (w.0, w.1, taken) in
    (next, ⊎_elim (λ o. sent-follows i c (a.time + 100) ps b rest (a ∷ past) next o.3) (λ o. sent-follows i c deadline (p ∷ ps) b rest (a ∷ past) next o.1) w.2)

-- what this interface sees of it
abbrev seen_after : Interface → KeySettings → (past rest : List Arrival) → List Event
seen_after i set past [] = []
seen_after i set past (a ∷ rest) = only a.interface i (seen_as (after_by standard_both set past) a) (seen_after i set (a ∷ past) rest)

abbrev Some : List Event → Type 0
Some [] = ⊥
Some (e ∷ l) = Unit {0}

-- what is sent from a time on is sent from an earlier one on
sent-earlier : (c deadline now before : ℕ) (ps : List (List ℕ)) (l : List Event) → before ≤ now → Sent c deadline now ps l → Sent c deadline before ps l
sent-earlier c deadline now before ps [] h w = w
sent-earlier c deadline now before [] (e ∷ l) h w = w
sent-earlier c deadline now before (p ∷ ps) (e ∷ l) h w = (w.0, omega (arith, w.1), w.2)

module _ (i : Interface) (set : KeySettings) where
  -- it is sent to the single transport, and there is some of it
  sent-seen : (c : ℕ) (rest past : List Arrival) (deadline now : ℕ) (ps : List (List ℕ)) → Unhindered i (after_by standard_both set past) rest → SentOn i c deadline now ps rest → Sent c deadline now ps (seen_after i set past rest)
  sent-seen c [] past deadline now ps u w = w
  sent-seen c (a ∷ rest) past deadline now [] u w = absurd w
  sent-seen c (a ∷ rest) past deadline now (p ∷ ps) u w =
      let b : Both = after_by standard_both set past in
      let l : List Event = seen_after i set (a ∷ past) rest in
      only-known (λ o. Sent c deadline now (p ∷ ps) (o (seen_as b a) l)) a.interface i
      (λ q. (
        proper-seen b a w.0,
        w.1,
        ⊎_elim
            (λ o. inl (o.1, ap (λ (j : Interface). is_hindered b j a.time) q ∙ u.0 q, o.2, sent-seen c rest (a ∷ past) _ _ ps u.1 o.3))
            (λ o. inr (o.0 q, sent-seen c rest (a ∷ past) _ _ (p ∷ ps) u.1 o.1))
            w.2,
      ))
      (λ n. ⊎_elim (λ o. absurd (n o.0)) (λ o. sent-earlier c deadline a.time now (p ∷ ps) l w.1 (sent-seen c rest (a ∷ past) deadline a.time (p ∷ ps) u.1 o.1)) w.2)

  some-seen : (rest past : List Arrival) → Follows i past rest → Some (seen_after i set past rest)
  some-seen [] past w = w
  some-seen (a ∷ []) past w = only-known (λ o. Some (o (seen_as (after_by standard_both set past) a) [])) a.interface i (λ q. tt) (λ n. n w.1)
  some-seen (a ∷ (b ∷ rest)) past w =
      only-known (λ o. Some (o (seen_as (after_by standard_both set past) a) (seen_after i set (a ∷ past) (b ∷ rest)))) a.interface i (λ q. tt) (λ n. some-seen (b ∷ rest) (a ∷ past) w.1)

ends_next : (d : Transport) (c : ℕ) (x : Answer) (e : Event) (l : List Event) → Some l → Ends standard d c x (e ∷ l) → Hushed c e (step d e).answer × Ends standard (step d e).state c x l
ends_next d c x e [] s k = absurd s
ends_next d c x e (g ∷ l) s k = k

-- ---- how the key answers it

module _ {f : Behind} {D : AnyKey} (like : AsBoth f D) (set : KeySettings) (permitted : KeyPermitted set) (i : Interface) (c : ℕ) where
  hushed-on : (past : List Arrival) (a : Arrival) → TakenBy (a ∷ past) → a.interface ≡ i → Hushed c (seen_as (after_by standard_both set past) a) (alone set i past a) → Hushed c (bare a) (answer_by D set past a)
  hushed-on past a taken q h =
      record {
        own = λ e. (named-on like set permitted past a taken q nothing refl).1 (h.own e);
        other = λ e k. h.other e (hands-no-more f like.keeps i set.u2f (alone set i past a) (rw (agree_on like set permitted past a taken q) at k));
      }

  ends_on : (x : Answer) (rest past : List Arrival) → Follows i past rest → Ends standard (after standard (settings_on set i) (seen i set past)) c x (seen_after i set past rest) → EndsOn D (after_by D set past) i c (f i set.u2f x) rest
  ends_on x [] past w k = w
  ends_on x (a ∷ []) past w k =
      agree_on like set permitted past a w.0 w.1
      ∙ ap (f i set.u2f)
      (only-known (λ o. Ends standard (after standard (settings_on set i) (seen i set past)) c x (o (seen_as (after_by standard_both set past) a) []) → alone set i past a ≡ x) a.interface i
      (λ q z. z) (λ n z. absurd z) k)
  ends_on x (a ∷ (b ∷ rest)) past w k =
      let l : List Event = seen_after i set (a ∷ past) (b ∷ rest) in
      let e : Event = seen_as (after_by standard_both set past) a in
      let r : (a.interface ≡ i → Hushed c e (alone set i past a)) × Ends standard (after standard (settings_on set i) (seen i set (a ∷ past))) c x l =
      only-known
      (λ o. Ends standard (after standard (settings_on set i) (seen i set past)) c x (o e l) → (a.interface ≡ i → Hushed c e (alone set i past a)) × Ends standard (after standard (settings_on set i) (o e (seen i set past))) c x l)
      a.interface i
      (λ q z. let n = ends_next _ c x e l (some-seen i set (b ∷ rest) (a ∷ past) w.1) z in ((λ p. n.0), n.1))
      (λ n z. ((λ q. absurd (n q)), z)) k in
      ((λ q. hushed-on past a w.0 q (r.0 q)), ends_on x (b ∷ rest) (a ∷ past) w.1 r.1)

open-seen : (i : Interface) (set : KeySettings) (past : List Arrival) (time c : ℕ) → OpenOn i set past time c → Open (settings_on set i) (seen i set past) time c
open-seen i set past time c o =
    record {
      allocated = rw (sides i set past) at o.allocated;
      quiet = λ z. rw (sides i set past) at (o.quiet z);
      unlocked = λ z h. rw (sides i set past) at (o.unlocked z h);
    }

pub delivery-on-each : {f : Behind} {D : AnyKey} → AsBoth f D → DeliveryOnEach f D
delivery-on-each like set permitted past taken i c m allowed payload fits a rest is_open sending free =
    let e : Event = seen_as (after_by standard_both set past) a in
    let l : List Event = seen_after i set (a ∷ past) rest in
    let k : Seen (latest_of past) (seen i set past) = seen-taken i set past taken in
    ends_on like set permitted i c (handed_out m c payload) (a ∷ rest) past
    (sent-follows i c (a.time + 1) (a.packet ∷ sending.following) a rest past taken
    (sending.proper, sending.onward, inl (sending.interface, refl, omega arith, sending.followed)))
    (only-known (λ o. Ends standard (after standard (settings_on set i) (seen i set past)) c (handed_out m c payload) (o e l)) a.interface i
    (λ q. delivery (settings_on set i) (permitted i) (seen i set past) k.taken c m allowed payload fits e l (open-seen i set past a.time c is_open)
    (record {
      proper = proper-seen (after_by standard_both set past) a sending.proper;
      onward = omega (arith, k.onward, sending.onward);
      enabled = ap (λ (j : Interface). is_hindered (after_by standard_both set past) j a.time) q ∙ free.0 q;
      following = sending.following;
      cut = sending.cut;
      followed = sent-seen i set c rest (a ∷ past) (a.time + 100) a.time sending.following free.1 sending.followed;
    }))
    (λ n. absurd (n sending.interface)))
