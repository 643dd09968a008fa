use Rattle.nmgc_script.proofs.CommandLaws.{gives_fitting}
use Rattle.nmgc_script.proofs.line.command_of_line.Goals as goal

pub returns-clause-fits : goal.returns-clause-fits
returns-clause-fits c = gives_fitting _ c.args.size _ _ c.third.ensures c.command.ensures
