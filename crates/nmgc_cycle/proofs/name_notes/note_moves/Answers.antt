use Rattle.nmgc_sweep.specs.laws.NameTable.{none_noted}
use Rattle.nmgc_cycle.proofs.stops.Noted.{entry_exists, noted_more}
use Rattle.nmgc_cycle.proofs.name_notes.note_moves.Goals as goal

pub loop-moved-init : goal.loop-moved-init
loop-moved-init c = none_noted c.args.names.now

pub note-requires : goal.note-requires
note-requires c = entry_exists c.args.moves.now c.loop-moved.moved-index _ c.args.names.now c.loop-moved.names c.loop-moved-test.true
    c.loop-moved.invariant.count c.requires

pub loop-moved-preserved : goal.loop-moved-preserved
loop-moved-preserved c =
    noted_more c.args.moves.now c.loop-moved.moved-index _ c.args.names.now c.loop-moved.names c.note.new.self c.loop-moved-test.true
    (entry_exists c.args.moves.now c.loop-moved.moved-index _ c.args.names.now c.loop-moved.names c.loop-moved-test.true
    c.loop-moved.invariant.count c.requires) c.note.ensures c.loop-moved.invariant
