use Rattle.nmgc_journal.proofs.Ended.{splits_at}
use Rattle.nmgc_journal.proofs.stops.ended_count.Goals as goal

pub returns-clause-ended : goal.returns-clause-ended
returns-clause-ended c = (splits_at c.args.number c.args.cycles.now c.front_count.result c.requires c.front_count.ensures).front

pub returns-clause-rest : goal.returns-clause-rest
returns-clause-rest c = (splits_at c.args.number c.args.cycles.now c.front_count.result c.requires c.front_count.ensures).rest
