-- What follows the fields of a reply to INIT, where it lies, and that it is handed back exactly where the fields are. Assumes nothing.
use Rattle.std.specs.Prelude.{ℕ, ◌≡◌, List, [], Bool, true, false, drop}
use Rattle.std.specs.Borrow.{Bor}
use Rattle.ctaphid.specs.Host.{InitHeard, not_init, init_fields, init_of}
use Rattle.packet.specs.Reading.{ahead}
use Rattle.host.specs.declared.InitReply.{InitReply}
use Rattle.host.specs.declared.InitAnswer.TheVariants.{Refused as NoFields, Fields}
use Rattle.host.specs.Meaning.{init_reply_of}

-- whether it is read as a reply to INIT
abbrev pub is_taken : InitHeard → Bool
is_taken (not_init number) = false
is_taken (init_fields f) = true

abbrev pub rest_of : InitHeard → List ℕ
rest_of (not_init number) = []
rest_of (init_fields f) = f.rest

-- how many bytes of the payload stand before it
abbrev pub before_rest : InitHeard → ℕ
before_rest (not_init number) = 0
before_rest (init_fields f) = 17

-- r is what follows the fields, and is that part of the payload itself
pub record IsRest (cmd : ℕ) (p r : Bor (List ℕ)) : Type 0 where
  pub bytes : r.now ≡ rest_of (init_of cmd p.now)
  pub place : r.ref_ptr ≡ ahead (before_rest (init_of cmd p.now)) p.ref_ptr

-- ---- `init_reply` and `init_rest` on one command and payload: they agree on what is a reply to INIT, whatever their contracts let them answer

pub record Agree (p r : Bor (List ℕ)) (x : InitReply) : Type 0 where
  -- with a refusal: the empty part at the payload's beginning
  pub refused : (number : ℕ) → x.answer ≡ NoFields number → (r.now ≡ []) × (r.ref_ptr ≡ p.ref_ptr)
  -- with fields: all from byte 17 on, where it stands
  pub taken : (cid protocol major minor build capabilities : ℕ) → x.answer ≡ Fields cid protocol major minor build capabilities
      → (r.now ≡ drop 17 p.now) × (r.ref_ptr ≡ ahead 17 p.ref_ptr)

abbrev pub Agrees : Type 0
Agrees = (cmd : ℕ) (p r : Bor (List ℕ)) (x : InitReply) → x ≡ init_reply_of (init_of cmd p.now) → IsRest cmd p r → Agree p r x
