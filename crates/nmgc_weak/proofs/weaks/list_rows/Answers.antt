use Rattle.nmgc_weak.proofs.{Vocabulary.◌≡◌, Vocabulary.get_or, Vocabulary.arith, Vocabulary.Row, RowLaws.rows_part}
use Rattle.nmgc_weak.proofs.weaks.list_rows.Goals as goal

pub list_into-requires : goal.list_into-requires
list_into-requires c =
    let row : Row = c.row-item.result in
    let read : row ≡ get_or c.args.rows.now c.loop-row.row-index row = cc in
    let part = rows_part c.args.rows.now c.loop-row.row-index row c.loop-row-test.true in
    let inv = c.loop-row.invariant in
    let len = inv.len in
    let room = c.requires.room in
    let capacity = inv.capacity in
    grind (arith, part, read, len, room, capacity)
