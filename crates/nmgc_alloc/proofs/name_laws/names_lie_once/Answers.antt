use Rattle.nmgc_alloc.proofs.Vocabulary.{IsMarked, first_once, placed_once, swept_once, begun_once, retired_once}
use Rattle.nmgc_alloc.proofs.name_laws.names_lie_once.Goals as goal

pub returns-clause-first : goal.returns-clause-first
returns-clause-first c = first_once

pub returns-clause-placing : goal.returns-clause-placing
returns-clause-placing c = placed_once

pub returns-clause-sweeping : goal.returns-clause-sweeping
returns-clause-sweeping c = λ old new segment epoch swept s once. swept_once old new swept (IsMarked segment epoch) s once

pub returns-clause-begun : goal.returns-clause-begun
returns-clause-begun c = begun_once

pub returns-clause-retired : goal.returns-clause-retired
returns-clause-retired c = retired_once
