use Rattle.nmgc_cycle.proofs.rounds.Opened.{opening_there}
use Rattle.nmgc_cycle.proofs.round.opening_of.Goals as goal

pub of-requires : goal.of-requires
of-requires c = opening_there c.args.script.now.value c.args.collector.now c.requires
