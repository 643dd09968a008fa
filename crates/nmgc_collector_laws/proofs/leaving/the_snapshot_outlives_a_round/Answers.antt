use Rattle.nmgc_collector_laws.proofs.Vocabulary.{rows_keep_headers, round_is_forgotten}
use Rattle.nmgc_collector_laws.proofs.leaving.the_snapshot_outlives_a_round.Goals as goal

pub returns-clause-headers : goal.returns-clause-headers
returns-clause-headers c = rows_keep_headers

pub returns-clause-forgotten : goal.returns-clause-forgotten
returns-clause-forgotten c = round_is_forgotten
