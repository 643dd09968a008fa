use Rattle.nmgc_collector_laws.specs.laws.Remembering.{round_is_remembered}
use Rattle.nmgc_collector_laws.proofs.leaving.a_round_leaves_all_for_a_promotion.Goals as goal

pub returns : goal.returns
returns c = round_is_remembered
