-- The fields of a reply to INIT, and what follows them. Assumes nothing.
use Prim.Native.Nat.{ℕ, ◌+◌, ◌*◌, ◌≤◌}
use native.Mathlib.Nat.{zero-add}
use native.Mathlib.Omega.{arith}
use mathlib.Core.Path.{◌≡◌, refl, sym, ap, ◌∙◌}
use mathlib.Core.List.{List, [], ◌∷◌}
use mathlib.Core.Bool.{Bool, true, false, true≢false}
use lib.ListN.{length, take, drop, length-drop}
use lib.Seq.{get_or-drop}
use Rattle.ctaphid.specs.Packets.{byte, channel_in}
use Rattle.ctaphid.specs.Host.{InitHeard, not_init, init_fields, init_fields_of, init_of}
use Rattle.packet.specs.Reading.{ahead}
use Rattle.ctaphid.proofs.InitReplies.{init-known}
use Rattle.host.specs.declared.InitReply.{InitReply}
use Rattle.host.specs.declared.InitAnswer.TheVariants.{Refused, Fields}
use Rattle.host.specs.Meaning.{init_reply_of}
use Rattle.host.specs.Init.{is_taken, rest_of, before_rest, Agree, Agrees}

-- the first eight bytes, one by one
abbrev eight : List ℕ → List ℕ
eight p = byte p 0 ∷ byte p 1 ∷ byte p 2 ∷ byte p 3 ∷ byte p 4 ∷ byte p 5 ∷ byte p 6 ∷ byte p 7 ∷ []

take-eight : (p : List ℕ) → 8 ≤ length p → eight p ≡ take 8 p
take-eight [] h = absurd (omega arith)
take-eight (a ∷ []) h = absurd (omega arith)
take-eight (a ∷ (b ∷ [])) h = absurd (omega arith)
take-eight (a ∷ (b ∷ (c ∷ []))) h = absurd (omega arith)
take-eight (a ∷ (b ∷ (c ∷ (d ∷ [])))) h = absurd (omega arith)
take-eight (a ∷ (b ∷ (c ∷ (d ∷ (e ∷ []))))) h = absurd (omega arith)
take-eight (a ∷ (b ∷ (c ∷ (d ∷ (e ∷ (f ∷ [])))))) h = absurd (omega arith)
take-eight (a ∷ (b ∷ (c ∷ (d ∷ (e ∷ (f ∷ (g ∷ []))))))) h = absurd (omega arith)
take-eight (a ∷ (b ∷ (c ∷ (d ∷ (e ∷ (f ∷ (g ∷ (i ∷ p)))))))) h = refl

channel-at-8 : (p : List ℕ) → byte p 8 * 0x100_0000 + byte p 9 * 0x1_0000 + byte p 10 * 0x100 + byte p 11 ≡ channel_in (drop 8 p)
unfolding channel_in
channel-at-8 p = sym (rw (get_or-drop 8 p 0 0, get_or-drop 8 p 1 0, get_or-drop 8 p 2 0, get_or-drop 8 p 3 0))

pub fields-are : (p : List ℕ) → 17 ≤ length p → {cid : ℕ} → cid ≡ byte p 8 * 0x100_0000 + byte p 9 * 0x1_0000 + byte p 10 * 0x100 + byte p 11
    → (r : InitReply) → r ≡ record { nonce = eight p; answer = Fields cid (byte p 12) (byte p 13) (byte p 14) (byte p 15) (byte p 16) }
    → r ≡ init_reply_of (init_fields (init_fields_of p))
fields-are p n {cid} e r k =
    k ∙ (λ i. record { nonce = take-eight p (omega arith) i; answer = Fields ((e ∙ channel-at-8 p) i) (byte p 12) (byte p 13) (byte p 14) (byte p 15) (byte p 16) })

-- ---- what the test says of the reply
module _ (cmd : ℕ) (p : List ℕ) (b : Bool) (is : b ≡ is_taken (init_of cmd p)) where
  pub taken_is : b ≡ true → (17 ≤ length p) × (init_of cmd p ≡ init_fields (init_fields_of p))
  taken_is e =
      init-known cmd p (λ (h : InitHeard). is_taken h ≡ true → (17 ≤ length p) × (h ≡ init_fields (init_fields_of p)))
      (λ k. absurd (true≢false (sym k)))
      (λ low high k. (low, refl))
      (sym is ∙ e)

  pub none_is : b ≡ false → init_of cmd p ≡ not_init 11
  none_is e = init-known cmd p (λ (h : InitHeard). is_taken h ≡ false → h ≡ not_init 11) (λ k. refl) (λ low high k. absurd (true≢false k)) (sym is ∙ e)

  pub reply-taken : b ≡ true → (r : InitReply) → r ≡ init_reply_of (init_fields (init_fields_of p)) → r ≡ init_reply_of (init_of cmd p)
  reply-taken e r k = k ∙ sym (ap init_reply_of (taken_is e).1)

  pub reply-none : b ≡ false → (r : InitReply) → r ≡ record { nonce = 0 ∷ 0 ∷ 0 ∷ 0 ∷ 0 ∷ 0 ∷ 0 ∷ 0 ∷ []; answer = Refused 11 } → r ≡ init_reply_of (init_of cmd p)
  reply-none e r k = k ∙ sym (ap init_reply_of (none_is e))

-- ---- what follows the fields
pub rest-most : (cmd : ℕ) (p r : List ℕ) → r ≡ rest_of (init_of cmd p) → length r ≤ 7592
rest-most cmd p r e = rw e (init-known cmd p (λ (h : InitHeard). length (rest_of h) ≤ 7592) (omega arith) (λ low high. simp length-drop (omega arith)))

pub agrees : Agrees
agrees cmd p r x e i =
    init-known cmd p.now (λ (h : InitHeard). x ≡ init_reply_of h → r.now ≡ rest_of h → r.ref_ptr ≡ ahead (before_rest h) p.ref_ptr → Agree p r x)
    (λ k bytes place. record {
      refused = λ number is. (bytes, place ∙ simp zero-add);
      taken = λ cid protocol major minor build capabilities is. let z : ◌≡◌ {A = ℕ} 0 1 = cc in absurd (omega arith);
    })
    (λ low high k bytes place. record {
      refused = λ number is. let z : ◌≡◌ {A = ℕ} 0 1 = cc in absurd (omega arith);
      taken = λ cid protocol major minor build capabilities is. (bytes, place);
    })
    e i.bytes i.place
