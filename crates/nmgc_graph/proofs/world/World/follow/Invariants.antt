use Rattle.nmgc_graph.proofs.Vocabulary.{◌+◌, length, unmarked_count, IsFollowed}
use Rattle.nmgc_graph.proofs.world.World.follow.Given as goal

abbrev pub invariant-loop-name : goal.invariant-loop-name
invariant-loop-name l = IsFollowed l.self l.initial.search l.search

abbrev pub decreases-loop-name : goal.decreases-loop-name
decreases-loop-name l = unmarked_count l.search.marks + length l.search.work
