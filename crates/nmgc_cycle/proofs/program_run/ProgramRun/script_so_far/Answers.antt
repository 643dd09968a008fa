use Rattle.nmgc_cycle.proofs.Vocabulary.{refl, script_so_far}
use Rattle.nmgc_cycle.proofs.program_run.ProgramRun.script_so_far.Goals as goal

pub of-requires : goal.of-requires
of-requires g c = (script_so_far g.P.Program.next c.args.self.now c.args.programs.now, refl)
