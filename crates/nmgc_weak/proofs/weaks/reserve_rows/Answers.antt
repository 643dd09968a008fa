use Rattle.nmgc_weak.proofs.{Vocabulary.◌≡◌, Vocabulary.◌<◌, Vocabulary.◌≤◌, Vocabulary.ℕ, Vocabulary.List, Vocabulary.get_or, Vocabulary.length, Vocabulary.refl, Vocabulary.sym, Vocabulary.◌∙◌, Vocabulary.arith, Vocabulary.Some, Vocabulary.slice_get, Vocabulary.slice_get-get_or, Vocabulary.Row, RowLaws.one_done, RowLaws.rest_stays}
use Rattle.nmgc_weak.proofs.weaks.reserve_rows.Goals as goal

pub loop-row-init : goal.loop-row-init
loop-row-init c = record { done = λ k old new less a b. absurd (omega (arith, less)); rest = λ k le. refl }

pub loop-row-preserved : goal.loop-row-preserved
loop-row-preserved c =
    let was : List Row = c.args.rows.now in
    let now : List Row = c.loop-row.row-items in
    let n : ℕ = c.loop-row.row-index in
    let row : Row = get_or now n c.row-item.result in
    let next : Row = c.reserve.new.self in
    let inv = c.loop-row.invariant in
    let count = c.loop-row.auto.row-items in
    let less = c.loop-row-test.true in
    let lt : c.loop-row.row-index < length c.loop-row.row-items = omega (arith, count, less) in
    let at : slice_get was n ≡ Some row = sym (inv.rest n (omega arith)) ∙ slice_get-get_or now n c.row-item.result lt in
    let own : (next.list ≡ row.list) × (row.spare ≤ next.spare) × (c.args.more ≤ next.spare) = (
      c.reserve.ensures.list,
      c.reserve.ensures.kept,
      c.in_ok-reserve.ensures.ok,
    ) in
    record {
      done = one_done (λ (old new : Row). (new.list ≡ old.list) × (old.spare ≤ new.spare) × (c.args.more ≤ new.spare)) was now n row next lt at own inv.done;
      rest = rest_stays was now n next inv.rest;
    }
