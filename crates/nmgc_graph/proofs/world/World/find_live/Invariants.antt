use Rattle.nmgc_graph.proofs.Vocabulary.{◌+◌, length, unmarked_count, IsLiveSearch, AreRevived}
use Rattle.nmgc_graph.proofs.world.World.find_live.Given as goal

abbrev pub invariant-loop-name : goal.invariant-loop-name
invariant-loop-name l = IsLiveSearch l.self l.extra l.search × AreRevived l.self l.search

abbrev pub decreases-loop-name : goal.decreases-loop-name
decreases-loop-name l = unmarked_count l.search.marks + length l.search.work
