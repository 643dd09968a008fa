use Rattle.nmgc_field_checker.proofs.{Vocabulary.AddsTargets, Vocabulary.List, Vocabulary.Some, Vocabulary.arith, Vocabulary.get_or, Vocabulary.length, Vocabulary.slice_get, Vocabulary.slice_get-get_or, Vocabulary.subst, Vocabulary.ℕ, Vocabulary.◌<◌, Vocabulary.◌≡◌, Vocabulary.◌≤◌, FollowLaws.followed_all, FollowLaws.followed_more, FollowLaws.followed_none}
use Rattle.nmgc_field_checker.proofs.search.follow.Goals as goal

pub loop-place-init : goal.loop-place-init
loop-place-init c = followed_none c.args.heap.now c.args.found.now

pub loop-place-preserved : goal.loop-place-preserved
loop-place-preserved c =
    let items = c.loop-place.found.items in
    let place = c.loop-place.place in
    let within : place < length items = subst (λ (l : List ℕ). place < length l) c.items.ensures.items c.if-place-items.false in
    let adds : AddsTargets c.args.heap.now (get_or items place 0) c.loop-place.found c.add_targets.new.found =
    subst (λ (l : List ℕ). AddsTargets c.args.heap.now (get_or l place 0) c.loop-place.found c.add_targets.new.found)
    c.items-in-loop-place.ensures.items c.in_ok-add_targets.ensures in
    followed_more c.args.heap.now c.args.found.now c.loop-place.found c.add_targets.new.found place (get_or items place 0) c.loop-place.invariant
    (slice_get-get_or items place 0 within) adds

pub returns-then-place-items : goal.returns-then-place-items
returns-then-place-items c =
    followed_all c.args.heap.now c.args.found.now c.loop-place.found c.loop-place.place c.loop-place.invariant
    (subst (λ (l : List ℕ). length l ≤ c.loop-place.place) c.items.ensures.items c.if-place-items.true)

pub returns : goal.returns
returns c =
    let few : length c.loop-place.found.items < 18446744073709551616 =
    subst (λ (l : List ℕ). length l < 18446744073709551616) c.items-2.ensures.items c.items-2.ensures.few in
    followed_all c.args.heap.now c.args.found.now c.loop-place.found c.loop-place.place c.loop-place.invariant (omega arith)
