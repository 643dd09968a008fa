use Rattle.nmgc_alloc.specs.laws.OneState.{rewritten_stands}
use Rattle.nmgc_alloc.proofs.laws.other_words_keep_the_state.Goals as goal

pub returns : goal.returns
returns c = rewritten_stands
