use Rattle.nmgc_mutator.proofs.{Vocabulary.seen, Vocabulary.IsAsking}
use Rattle.nmgc_mutator.proofs.mutator.Mutator.run_program.Given as goal

abbrev pub invariant-loop-done : goal.invariant-loop-done
invariant-loop-done g l =
    IsAsking g.P.Program.next g.P.Program.steps g.P.Program.words g.P.Program.most l.round (seen l.initial.seat) l.initial.self l.initial.program l.slice
    l.done l.seat l.self l.program
    × g.P.Program.valid l.program
