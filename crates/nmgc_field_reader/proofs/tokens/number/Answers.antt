use Rattle.nmgc_field_reader.proofs.NumberReads.{number_given}
use Rattle.nmgc_field_reader.proofs.tokens.number.Goals as goal

pub returns-clause-gives : goal.returns-clause-gives
returns-clause-gives c =
    number_given c.args.limit c.args.word.now c.read_number.result c.ranges.limit.fits c.read_number.ensures.found c.read_number.ensures.none
