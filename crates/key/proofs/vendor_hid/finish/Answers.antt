use Rattle.key.proofs.Finishing.{finishes, finish-through}
use Rattle.key.proofs.vendor_hid.finish.Goals as goal

pub returns-then-is_strange : goal.returns-then-is_strange
returns-then-is_strange c = search finishes

pub returns-else-is_strange : goal.returns-else-is_strange
returns-else-is_strange c = search finishes

pub returns-in-Refused : goal.returns-in-Refused
returns-in-Refused c = search finishes

pub returns-in_default : goal.returns-in_default
returns-in_default c = finish-through _ _ _ c.in_default.not-Refused c.in_default.not-Message
