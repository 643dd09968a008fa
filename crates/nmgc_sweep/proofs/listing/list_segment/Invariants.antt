use Rattle.nmgc_sweep.proofs.Vocabulary.{◌+◌, ◌≤◌, InUse, nth, ListsBlocks, IsLost, named_at}
use Rattle.nmgc_sweep.proofs.listing.list_segment.Given as goal

-- the names of the blocks so far are listed, and each took the room of at most one name
abbrev pub invariant-loop-block : goal.invariant-loop-block
invariant-loop-block l = record {
  had : ListsBlocks (InUse (nth l.segments.segments l.number))
      (named_at l.segments.layout l.names l.number (nth l.segments.segments l.number).class) l.block l.initial.had.names l.had.names;
  had_room : l.initial.had.spare ≤ l.had.spare + l.block;
  freed : ListsBlocks (IsLost (nth l.segments.segments l.number) l.epoch)
      (named_at l.segments.layout l.names l.number (nth l.segments.segments l.number).class) l.block l.initial.freed.names l.freed.names;
  freed_room : l.initial.freed.spare ≤ l.freed.spare + l.block;
}
