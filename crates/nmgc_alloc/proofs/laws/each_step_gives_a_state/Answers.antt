use Rattle.nmgc_alloc.proofs.Vocabulary.{Contains, IsMarked, HoldsKept, first_sound, placed_sound, begun_sound, retired_sound, swept_sound}
use Rattle.nmgc_alloc.proofs.laws.each_step_gives_a_state.Goals as goal

pub returns-clause-new : goal.returns-clause-new
returns-clause-new c = first_sound

pub returns-clause-allocate : goal.returns-clause-allocate
returns-clause-allocate c = placed_sound

pub returns-clause-prepare : goal.returns-clause-prepare
returns-clause-prepare c = begun_sound

pub returns-clause-retire_all : goal.returns-clause-retire_all
returns-clause-retire_all c = retired_sound

pub returns-clause-sweep_next : goal.returns-clause-sweep_next
returns-clause-sweep_next c = λ layout old new segment epoch number h s. swept_sound layout old new number (IsMarked segment epoch) h s

pub returns-clause-by_names : goal.returns-clause-by_names
returns-clause-by_names c = λ layout old new kept number h s. swept_sound layout old new number (HoldsKept (Contains kept) old number) h s
