use Rattle.nmgc_weak.proofs.{Vocabulary.◌≡◌, Vocabulary.◌<◌, Vocabulary.◌≤◌, Vocabulary.ℕ, Vocabulary.List, Vocabulary.get_or, Vocabulary.length, Vocabulary.refl, Vocabulary.sym, Vocabulary.ap, Vocabulary.◌∙◌, Vocabulary.arith, Vocabulary.Some, Vocabulary.slice_get, Vocabulary.slice_get-get_or, Vocabulary.slice_get_within, Vocabulary.IsInOrder, Vocabulary.Row, Vocabulary.alive_of, Vocabulary.names_of, RowLaws.of_row, RowLaws.one_done, RowLaws.rest_stays}
use Rattle.nmgc_weak.proofs.weaks.remove_dead.Goals as goal

pub loop-row-init : goal.loop-row-init
loop-row-init g c = record { words = refl; done = λ k old new less a b. absurd (omega (arith, less)); rest = λ k le. refl }

pub remove_dead-requires : goal.remove_dead-requires
remove_dead-requires g c weak there =
    let now : List Row = c.loop-row.row-items in
    let n : ℕ = c.loop-row.row-index in
    let row : Row = get_or now n c.row-item.result in
    let inv = c.loop-row.invariant in
    let count = c.loop-row.auto.row-items in
    let less = c.loop-row-test.true in
    let lt : c.loop-row.row-index < length c.loop-row.row-items = omega (arith, count, less) in
    let at : slice_get c.args.rows.now n ≡ Some row = sym (inv.rest n (omega arith)) ∙ slice_get-get_or now n c.row-item.result lt in
    let inside = c.requires weak (of_row c.args.rows.now n row weak at there) in
    let same = ap length inv.words in
    omega (arith, inside, same)

pub loop-row-preserved : goal.loop-row-preserved
loop-row-preserved g c =
    let was : List Row = c.args.rows.now in
    let now : List Row = c.loop-row.row-items in
    let n : ℕ = c.loop-row.row-index in
    let row : Row = get_or now n c.row-item.result in
    let next : Row = c.remove_dead.new.self in
    let ws = g.W.HeapWords.words c.args.words.now in
    let inv = c.loop-row.invariant in
    let count = c.loop-row.auto.row-items in
    let less = c.loop-row-test.true in
    let lt : c.loop-row.row-index < length c.loop-row.row-items = omega (arith, count, less) in
    let at : slice_get was n ≡ Some row = sym (inv.rest n (omega arith)) ∙ slice_get-get_or now n c.row-item.result lt in
    let left = c.remove_dead.ensures in
    let own : (next.list ≡ alive_of ws row.list) × IsInOrder (names_of next.list) × (row.spare ≤ next.spare) = (
      left.list ∙ ap (λ (l : List ℕ). alive_of l row.list) inv.words,
      left.ordered,
      left.spare,
    ) in
    record {
      words = left.words ∙ inv.words;
      done = one_done (λ (old new : Row). (new.list ≡ alive_of ws old.list) × IsInOrder (names_of new.list) × (old.spare ≤ new.spare)) was now n row next lt at
          own inv.done;
      rest = rest_stays was now n next inv.rest;
    }

pub returns-clause-rows : goal.returns-clause-rows
returns-clause-rows g c = λ k old new a b.
    let within = slice_get_within c.args.rows.now k old a in
    let past = c.loop-row-test.false in
    c.loop-row.invariant.done k old new (omega (arith, within, past)) a b
