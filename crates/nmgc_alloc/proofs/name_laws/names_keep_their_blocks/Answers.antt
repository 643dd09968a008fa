use Rattle.nmgc_alloc.proofs.Vocabulary.{IsMarked, mark_of, cases_eq, placed_names, swept_names, begun_names, retired_names}
use Rattle.nmgc_alloc.proofs.name_laws.names_keep_their_blocks.Goals as goal

pub returns-clause-placing : goal.returns-clause-placing
returns-clause-placing c = placed_names

pub returns-clause-sweeping : goal.returns-clause-sweeping
returns-clause-sweeping c = λ old new segment epoch swept s. swept_names old new swept (IsMarked segment epoch) (λ b. cases_eq (mark_of segment b) epoch) s

pub returns-clause-begun : goal.returns-clause-begun
returns-clause-begun c = begun_names

pub returns-clause-retired : goal.returns-clause-retired
returns-clause-retired c = retired_names
