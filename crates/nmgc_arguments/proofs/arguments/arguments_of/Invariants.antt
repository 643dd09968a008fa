use Rattle.nmgc_arguments.proofs.{Vocabulary.map, Vocabulary.string_bytes, Passing.ArePassedTo}
use Rattle.nmgc_arguments.proofs.arguments.arguments_of.Given as goal

-- the arguments before this position were passed on
abbrev pub invariant-loop-place : goal.invariant-loop-place
invariant-loop-place g l = ArePassedTo (g.L.CommandLine.arguments l.line) l.place (map string_bytes l.arguments.items)
