use native.Mathlib.Omega.{arith}
use mathlib.Core.Path.{ap, ◌∙◌}
use Rattle.ble.specs.declared.Count.TheVariants.{Fragments}
use Rattle.ble.proofs.Sending.{sized, count-14, count-7, counts}
use Rattle.std.proofs.Common.{rules}
use Rattle.std.proofs.lemmas.Bool.{not_from_true}
use Rattle.ble.proofs.writing.fragment_count.Goals as goal

pub returns-then-not-is_size : goal.returns-then-not-is_size
returns-then-not-is_size c = search count-14

pub returns-then-len-gt-LARGEST_PAYLOAD : goal.returns-then-len-gt-LARGEST_PAYLOAD
returns-then-len-gt-LARGEST_PAYLOAD c = search (rules, count-7)

pub fragments_in-requires : goal.fragments_in-requires
fragments_in-requires c = ((sized _ c.is_size.result c.is_size.ensures (not_from_true _ c.if-not-is_size.false)).0, omega arith)

pub returns : goal.returns
returns c = ap Fragments c.fragments_in.ensures ∙ counts _ _ c.is_size.result c.is_size.ensures (not_from_true _ c.if-not-is_size.false) (omega arith)
