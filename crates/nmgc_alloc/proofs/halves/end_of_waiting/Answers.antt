use Rattle.nmgc_alloc.proofs.{Vocabulary.ℕ, Vocabulary.◌≡◌, Vocabulary.◌+◌, Vocabulary.◌-◌, Vocabulary.◌<◌, Vocabulary.◌≤◌, Vocabulary.◌∙◌, Vocabulary.ap, Vocabulary.arith, Vocabulary.List, Vocabulary.length, Vocabulary.take, Vocabulary.drop, Vocabulary.sym, Vocabulary.get_or-drop, Vocabulary.get_or_default, Vocabulary.length-drop, Vocabulary.Segment, Vocabulary.free_segment, Vocabulary.Sweeping, Vocabulary.nth, Vocabulary.is_in_category, Vocabulary.sought_count, Vocabulary.one_if, HalvesLists.count_more, HalvesLists.one_or_none}
use Rattle.nmgc_alloc.proofs.halves.end_of_waiting.Goals as goal

pub loop-number-preserved : goal.loop-number-preserved
loop-number-preserved c =
    let all : List Segment = c.args.segments.now in
    let from : ℕ = c.args.from in
    let n : ℕ = c.loop-number.number in
    let ys : List Segment = drop from all in
    let low : from ≤ n = omega arith in
    let size : length ys ≡ length all - from = length-drop from all in
    let inside : n - from < length ys = omega (arith, size, low, c.loop-number-test.true) in
    let more = count_more ys (n - from) inside in
    let split : from + (n - from) ≡ n = omega (arith, low) in
    let step : n + 1 - from ≡ (n - from) + 1 = omega (arith, low) in
    let is : nth ys (n - from) ≡ c.index-segments-number.result = get_or-drop from all (n - from) (free_segment 0) ∙
    ap (λ (k : ℕ). nth all k) split ∙ get_or_default all n (free_segment 0) c.index-segments-number.result c.loop-number-test.true ∙
    sym c.index-segments-number.is in
    let one : one_if (is_in_category Sweeping (nth ys (n - from))) ≡ c.waiting_count-left.result = ap (λ (t : Segment). one_if (is_in_category Sweeping t)) is ∙
    sym c.waiting_count-left.ensures in
    let next : sought_count Sweeping (take (n + 1 - from) ys) ≡ sought_count Sweeping (take ((n - from) + 1) ys) =
    ap (λ (k : ℕ). sought_count Sweeping (take k ys)) step in
    let few = one_or_none (is_in_category Sweeping (nth ys (n - from))) in
    let so_far : c.loop-number.left + sought_count Sweeping (take (n - from) ys) ≡ c.args.count = c.loop-number.invariant in
    omega (arith, more, one, next, few, so_far, c.if-left-eq0.false)
