use Rattle.nmgc_collector_laws.proofs.cycles.Joining.{joining_lists, joiners_are_new, fewer_listed}
use Rattle.nmgc_collector_laws.proofs.marking.moved_join_the_list.Goals as goal

pub returns-clause-joining : goal.returns-clause-joining
returns-clause-joining c = joining_lists c.words_differ.ensures.headers

pub returns-clause-new : goal.returns-clause-new
returns-clause-new c = joiners_are_new c.words_differ.ensures.headers

pub returns-clause-fewer : goal.returns-clause-fewer
returns-clause-fewer c = fewer_listed
