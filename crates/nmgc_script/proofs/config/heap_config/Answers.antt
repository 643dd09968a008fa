use Rattle.nmgc_script.proofs.{Vocabulary.arith, ConfigLaws.numbers_takes}
use Rattle.nmgc_script.proofs.config.heap_config.Goals as goal

pub returns-in-Ok-clause-fits : goal.returns-in-Ok-clause-fits
returns-in-Ok-clause-fits c = (numbers_takes c.args.version (omega arith) _ _ c.in-Ok.ensures).1
