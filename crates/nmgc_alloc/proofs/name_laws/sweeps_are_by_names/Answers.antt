use Rattle.nmgc_alloc.proofs.Vocabulary.{Contains, IsMarked, swept_by_names, sweeps_none, sweeps_more, some_count, all_swept}
use Rattle.nmgc_alloc.proofs.name_laws.sweeps_are_by_names.Goals as goal

pub returns-clause-by_names : goal.returns-clause-by_names
returns-clause-by_names c = λ old new segment epoch swept kept same s. swept_by_names old new swept (IsMarked segment epoch) (Contains kept) same s

pub returns-clause-none : goal.returns-clause-none
returns-clause-none c = λ kept old. sweeps_none (Contains kept) old

pub returns-clause-one_more : goal.returns-clause-one_more
returns-clause-one_more c = λ kept count swept old next new h s. sweeps_more (Contains kept) count swept old next new h s

pub returns-clause-count : goal.returns-clause-count
returns-clause-count c = λ kept count old new s. some_count (Contains kept) count old new s

pub returns-clause-all : goal.returns-clause-all
returns-clause-all c = λ kept old new s. all_swept (Contains kept) old new s
