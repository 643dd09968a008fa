use Rattle.nmgc_pmark.proofs.{Vocabulary.◌-◌, Vocabulary.seen, Crews.split_rest}
use Rattle.nmgc_pmark.proofs.crew.make_crew.Goals as goal

pub split-own-requires-clause-ready : goal.split-own-requires-clause-ready
split-own-requires-clause-ready c =
    split_rest (seen c.loop-number.seat) (c.loop-number.number - 1) (c.args.bounds.markers - c.loop-number.number) c.loop-number.invariant.rest
