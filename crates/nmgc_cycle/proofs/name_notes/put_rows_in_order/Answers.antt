use Rattle.nmgc_cycle.proofs.{Vocabulary.◌∙◌, Vocabulary.ap, Vocabulary.set, Vocabulary.subst, Vocabulary.sym, Vocabulary.map_over_more, Vocabulary.All-get_or, Vocabulary.CycleRow, Vocabulary.report_row, Vocabulary.HasNamesOnce, stops.Censuses.still_there}
use Rattle.nmgc_cycle.proofs.name_notes.put_rows_in_order.Goals as goal

pub put_row_in_order-requires : goal.put_row_in_order-requires
put_row_in_order-requires c =
    let l = c.loop-row in
    let same = still_there c.args.rows.now l.row-items l.row-index c.row-item.result c.loop-row-test.true l.invariant in
    subst (λ (row : CycleRow). HasNamesOnce row) (sym same)
    (All-get_or HasNamesOnce c.args.rows.now l.row-index c.row-item.result c.loop-row-test.true c.requires)

pub loop-row-preserved : goal.loop-row-preserved
loop-row-preserved c =
    let l = c.loop-row in
    ap (λ (row : CycleRow). set l.row-items l.row-index row) (c.put_row_in_order.ensures ∙ ap report_row (sym c.row-item.is))
    ∙ map_over_more report_row c.args.rows.now l.row-items l.row-index c.row-item.result c.loop-row-test.true l.invariant c.row-item.is
