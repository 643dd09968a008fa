use Rattle.nmgc_cycle.proofs.{Vocabulary.◌≡◌, Vocabulary.◌≤◌, Vocabulary.ℕ, Vocabulary.List, Vocabulary.length, Vocabulary.sym, Vocabulary.ap, Vocabulary.subst, Vocabulary.◌∙◌, Vocabulary.arith, Vocabulary.Contains, Vocabulary.IsInOrder, Vocabulary.Move, Vocabulary.OldWeak, Vocabulary.names_of, Vocabulary.AreMovedInside, Vocabulary.CanJoin, Vocabulary.moved_weaks, Vocabulary.words_in, stops.ListOver.moved_few, stops.ListOver.moved_new, stops.ListOver.moved_ordered}
use Rattle.nmgc_cycle.proofs.collector.Collector.add_moved.Goals as goal

pub gather_moved-requires : goal.gather_moved-requires
gather_moved-requires c =
    let held : words_in c.args.self.now.heap.words ≡ c.in-Some.words = ap words_in c.in-Some.is in
    subst (λ (y : List ℕ × List Move). AreMovedInside y.0 y.1) (λ i. (held i, sym c.moves.ensures i)) c.requires.can.inside

pub overflow_cast-len : goal.overflow_cast-len
overflow_cast-len c =
    let most : length (moved_weaks c.in-Some.words c.moves.result.now) ≤ length c.moves.result.now = moved_few c.in-Some.words c.moves.result.now in
    let items = ap (λ (l : List OldWeak). length l) c.in_ok-fresh.ensures.gathered in
    let moves = ap (λ (l : List Move). length l) c.moves.ensures in
    let few = c.requires.can.few in
    let size = c.in_ok-fresh.fresh.ok.0 in
    let len = c.len.ensures in
    omega (arith, most, items, moves, few, size, len)

pub join_all-requires-clause-ordered : goal.join_all-requires-clause-ordered
join_all-requires-clause-ordered c =
    let fresh : c.as_slice.result.now ≡ moved_weaks c.in-Some.words c.args.self.now.heap.promotion.moves = c.as_slice.ensures.value ∙
    c.in_ok-fresh.ensures.gathered ∙ ap (λ (l : List Move). moved_weaks c.in-Some.words l) c.moves.ensures in
    subst (λ (l : List OldWeak). IsInOrder (names_of l)) (sym fresh) (moved_ordered c.in-Some.words c.args.self.now.heap.promotion.moves c.requires.can.ordered)

pub join_all-requires-clause-new : goal.join_all-requires-clause-new
join_all-requires-clause-new c = λ one other d e.
    let held : words_in c.args.self.now.heap.words ≡ c.in-Some.words = ap words_in c.in-Some.is in
    let fresh : c.as_slice.result.now ≡ moved_weaks c.in-Some.words c.args.self.now.heap.promotion.moves = c.as_slice.ensures.value ∙
    c.in_ok-fresh.ensures.gathered ∙ ap (λ (l : List Move). moved_weaks c.in-Some.words l) c.moves.ensures in
    let can : CanJoin c.in-Some.words c.args.self.now.heap.weaks.list c.args.self.now.heap.promotion.moves =
    subst (λ (l : List ℕ). CanJoin l c.args.self.now.heap.weaks.list c.args.self.now.heap.promotion.moves) held c.requires.can in
    moved_new c.in-Some.words c.args.self.now.heap.weaks.list c.args.self.now.heap.promotion.moves can one other (subst (λ (l : List OldWeak).
    Contains l one) fresh d) (subst (λ (l : List OldWeak). Contains l other) c.in_ok-reserve.ensures.list e)
