use Rattle.nmgc_cycle.proofs.rounds.ScriptRuns.{lists_are_scripts}
use Rattle.nmgc_cycle.proofs.program_laws.lists_run_as_scripts.Goals as goal

pub returns : goal.returns
returns c = lists_are_scripts
