use Rattle.nmgc_weak.proofs.{Vocabulary.◌≡◌, Vocabulary.length, Vocabulary.length-append, Vocabulary.take, Vocabulary.ap, Vocabulary.arith, Vocabulary.◌∙◌, Vocabulary.common_steps, Vocabulary.Row, Vocabulary.listed, Entries.no_entry, Entries.listed_below}
use Rattle.nmgc_weak.proofs.row.Row.list_into.Goals as goal

pub push_reserved-requires : goal.push_reserved-requires
push_reserved-requires c =
    let es = c.as_slice-entry-items.result.now in
    let i = c.loop-entry.entry-index in
    let below = listed_below es i no_entry c.loop-entry-test.true c.if-not-entry.true in
    let is : length (listed es) ≡ length c.args.self.now.list =
    ap (λ l. length (listed l)) c.as_slice-entry-items.ensures.value ∙ ap (λ (r : Row). length r.list) c.self.view_is in
    let items = ap length c.loop-entry.invariant.items ∙ length-append c.args.all.now.items (listed (take i es)) in
    let capacity = c.loop-entry.invariant.capacity in
    let room = c.requires in
    grind (arith, common_steps, below, is, items, capacity, room)
