use Rattle.nmgc_cycle.proofs.Vocabulary.{map, take, moved_of, HaveNoted}
use Rattle.nmgc_cycle.proofs.name_notes.note_moves.Given as goal

abbrev pub invariant-loop-moved : goal.invariant-loop-moved
invariant-loop-moved l = HaveNoted (map moved_of (take l.moved-index l.moves)) l.initial.names l.names
