use Rattle.nmgc_cycle.proofs.{Vocabulary.List, Vocabulary.refl, Vocabulary.sym, Vocabulary.subst, Vocabulary.CanStop, Vocabulary.Done, Vocabulary.IsRunSoFar, Vocabulary.nothing_given, Vocabulary.script_of, rounds.RunSoFar.empty_limits, rounds.RunSoFar.so_far_first}
use Rattle.nmgc_cycle.proofs.program_run.ProgramRun.new.Goals as goal

pub with_slices-requires : goal.with_slices-requires
with_slices-requires g c = empty_limits g.P.Program.words g.P.Program.most g.P.Program.valid c.args.config.now c.args.programs.now c.requires c.in_ok-empty.empty c.in_ok-empty.ensures

pub of-requires : goal.of-requires
of-requires g c = (nothing_given c.args.programs.now, refl)

pub returns-clause-stands : goal.returns-clause-stands
returns-clause-stands g c = subst (λ (given : List (List Done)).
    IsRunSoFar g.P.Program.next g.P.Program.words g.P.Program.most g.P.Program.valid c.args.config.now c.in_ok-collector.collector given c.args.programs.now × CanStop (script_of g.P.Program.next c.args.config.now given c.args.programs.now) c.in_ok-collector.collector)
    (sym c.of.ensures)
    (so_far_first g.P.Program.next g.P.Program.steps g.P.Program.words g.P.Program.most g.P.Program.valid (g.met.P.Program g.world.𝓛 g.world.𝓜 g.world.𝓡 ((λ s x. x), (λ x. x), (λ x. x), λ x. x)).waits c.args.config.now c.args.programs.now c.requires c.in_ok-empty.empty c.in_ok-collector.collector c.in_ok-empty.ensures
    c.in_ok-collector.ensures.fresh)

pub returns-clause-events : goal.returns-clause-events
returns-clause-events g c =
    let nothing = c.in_ok-collector.ensures.fresh.new.nothing in
    record { rounds = sym nothing.0; stops = sym nothing.1; cycles = sym nothing.2; alternate = tt; next = refl; numbered = tt }
