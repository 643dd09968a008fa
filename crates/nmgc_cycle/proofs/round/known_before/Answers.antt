use Rattle.nmgc_cycle.proofs.Vocabulary.{refl}
use Rattle.nmgc_cycle.proofs.round.known_before.Goals as goal

pub of-requires : goal.of-requires
of-requires c = (c.args.script.now, refl)
