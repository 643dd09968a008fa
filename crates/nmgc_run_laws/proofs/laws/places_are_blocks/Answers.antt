use Rattle.nmgc_run_laws.specs.laws.Places.{blocks_at_stop, blocks_after_round, blocks_are_places}
use Rattle.nmgc_run_laws.proofs.laws.places_are_blocks.Goals as goal

pub returns-clause-at_stop : goal.returns-clause-at_stop
returns-clause-at_stop c = blocks_at_stop

pub returns-clause-after_round : goal.returns-clause-after_round
returns-clause-after_round c = blocks_after_round

pub returns-clause-back : goal.returns-clause-back
returns-clause-back c = λ layout earlier places w allocation words segments.
    blocks_are_places layout earlier places w allocation words segments c.words_differ.ensures.names
