use mathlib.Core.Logic.{inl, inr}
use Rattle.bench_output.proofs.Answers.{echo-low, reply-low, said-refused, said-nothing, said-message, said-echo, said-reply}
use Rattle.std.proofs.Common.{rules}
use Rattle.bench_output.proofs.printing.put_answer.Goals as goal

pub put_packets-requires : goal.put_packets-requires
put_packets-requires c =
    let off = c.requires.2 in
    (elim c.in-Echo.is [ inl e ↦ echo-low off c.number-in-Echo.ensures e.1 | inr e ↦ reply-low off c.number-in-Echo.ensures e.1 ], search rules, search rules)

pub returns-in-Refused : goal.returns-in-Refused
returns-in-Refused c = search (said-refused)

pub returns-in-Nothing : goal.returns-in-Nothing
returns-in-Nothing c = search (said-nothing)

pub returns-in-Message : goal.returns-in-Message
returns-in-Message c = search (said-message)

pub returns-in-Echo : goal.returns-in-Echo
returns-in-Echo c =
    elim c.in-Echo.is [
      | inl e ↦ said-echo _ _ e.1 c.number-in-Echo.ensures c.put_packets.ensures
      | inr e ↦ said-reply _ _ e.1 c.number-in-Echo.ensures c.put_packets.ensures
    ]
