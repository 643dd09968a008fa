use Rattle.nmgc_image.proofs.{Vocabulary.ℕ, Vocabulary.◌<◌, Vocabulary.sym, Vocabulary.subst, Vocabulary.arith, Vocabulary.length, Vocabulary.Contains, Vocabulary.Contains-get_or, Searching.going_starts, Searching.going_object, Searching.going_within, Searching.going_ends, Searching.going_on, Searching.going_done}
use Rattle.nmgc_image.proofs.search.Search.run.Goals as goal

pub loop-next-init : goal.loop-next-init
loop-next-init c = going_starts c.args.words.now c.args.self.now c.requires.sound c.requires.room

pub loop-next-smaller : goal.loop-next-smaller
loop-next-smaller c =
    let order = c.loop-next.self.order in
    let all = order.ok in
    let lt : c.loop-next.next < length order.items = omega (arith, c.len.ensures, c.loop-next-test.true) in
    let ends = going_ends c.args.words.now c.args.self.now c.loop-next.self c.loop-next.next c.loop-next.invariant lt in
    omega (arith, ends)

pub expand-requires-clause-object : goal.expand-requires-clause-object
expand-requires-clause-object c =
    let lt : c.loop-next.next < length c.loop-next.self.order.items = omega (arith, c.len.ensures, c.loop-next-test.true) in
    let held : Contains c.loop-next.self.order.items c.index-at.result.now =
    subst (λ (k : ℕ). Contains c.loop-next.self.order.items k) (sym c.index-at.ensures)
    (Contains-get_or c.loop-next.self.order.items c.loop-next.next c.index-at.result.now lt) in
    going_object c.args.words.now c.args.self.now c.loop-next.self c.loop-next.next c.loop-next.invariant c.requires.objects c.index-at.result.now held

pub expand-requires-clause-within : goal.expand-requires-clause-within
expand-requires-clause-within c =
    let lt : c.loop-next.next < length c.loop-next.self.order.items = omega (arith, c.len.ensures, c.loop-next-test.true) in
    let held : Contains c.loop-next.self.order.items c.index-at.result.now =
    subst (λ (k : ℕ). Contains c.loop-next.self.order.items k) (sym c.index-at.ensures)
    (Contains-get_or c.loop-next.self.order.items c.loop-next.next c.index-at.result.now lt) in
    going_within c.args.words.now c.args.self.now c.loop-next.self c.loop-next.next c.loop-next.invariant c.requires.objects c.index-at.result.now held

pub loop-next-preserved : goal.loop-next-preserved
loop-next-preserved c =
    let lt : c.loop-next.next < length c.loop-next.self.order.items = omega (arith, c.len.ensures, c.loop-next-test.true) in
    let held : Contains c.loop-next.self.order.items c.index-at.result.now =
    subst (λ (k : ℕ). Contains c.loop-next.self.order.items k) (sym c.index-at.ensures)
    (Contains-get_or c.loop-next.self.order.items c.loop-next.next c.index-at.result.now lt) in
    let object = going_object c.args.words.now c.args.self.now c.loop-next.self c.loop-next.next c.loop-next.invariant c.requires.objects
    c.index-at.result.now held in
    going_on c.args.words.now c.args.self.now c.loop-next.self c.loop-next.next c.loop-next.invariant c.expand.new.self c.index-at.result.now lt
    c.index-at.result.now c.index-at.ensures c.in_ok-expand.ensures object

pub returns : goal.returns
returns c = going_done c.args.words.now c.args.self.now c.loop-next.self c.loop-next.next c.loop-next.invariant (omega (
  arith,
  c.len.ensures,
  c.loop-next-test.false,
))
