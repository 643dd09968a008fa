use Rattle.nmgc_decider.specs.laws.Ready.{ready_more}
use Rattle.nmgc_loads.proofs.run.push.Goals as goal

pub returns-clause-all : goal.returns-clause-all
returns-clause-all c = ready_more _ _ c.args.count c.args.given _ _ c.args.program c.in_ok-push.ensures.items c.requires.others c.requires.program
