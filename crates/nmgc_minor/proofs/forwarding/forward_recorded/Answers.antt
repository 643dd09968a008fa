use Rattle.nmgc_minor.proofs.{Vocabulary.ℕ, Vocabulary.◌≡◌, Vocabulary.◌+◌, Vocabulary.◌++◌, Vocabulary.List, Vocabulary.take, Vocabulary.subst, Vocabulary.sym, Vocabulary.arith, Vocabulary.Contains, Vocabulary.flat_map, Vocabulary.take_all, Vocabulary.Contains-get_or, Vocabulary.Contains-append_left, Vocabulary.Contains-append_right, Vocabulary.Contains-append_cases, Vocabulary.Address, Vocabulary.contains_flat, Vocabulary.ForwardsAt, Vocabulary.forward_word, ForwardLaws.none_forwarded, ForwardLaws.forwards_then, Listing.flat_more}
use Rattle.nmgc_minor.proofs.forwarding.forward_recorded.Goals as goal

pub loop-mutator-init : goal.loop-mutator-init
loop-mutator-init g c = none_forwarded (forward_word c.args.table.now c.args.base) (g.W.HeapWords.words c.args.words.now) (λ i.
    Contains (flat_map g.M.MutatorRoots.recorded (take 0 c.args.mutators.now)) (record { 0 = i })) (λ i h. omega (arith, h.1))

pub forward_places-requires-clause-inside : goal.forward_places-requires-clause-inside
forward_places-requires-clause-inside g c = λ at h.
    let f = g.M.MutatorRoots.recorded in
    let ms = c.args.mutators.now in
    let x = c.mutator-item.result in
    let there = subst (λ y. Contains ms y) (sym c.mutator-item.is) (Contains-get_or ms c.loop-mutator.mutator-index x c.loop-mutator-test.true) in
    let inside = c.requires.inside at (contains_flat f ms x at there (subst (λ (l : List Address). Contains l at) c.recorded.ensures h)) in
    let total = c.loop-mutator.invariant.total in
    omega (arith, inside, total)

pub loop-mutator-preserved : goal.loop-mutator-preserved
loop-mutator-preserved g c =
    let f = g.M.MutatorRoots.recorded in
    let ms = c.args.mutators.now in
    let i : ℕ = c.loop-mutator.mutator-index in
    let x = c.mutator-item.result in
    let old : List ℕ = g.W.HeapWords.words c.args.words.now in
    let mid : List ℕ = g.W.HeapWords.words c.loop-mutator.words in
    let new : List ℕ = g.W.HeapWords.words c.forward_places.new.words in
    let before : List Address = flat_map f (take i ms) in
    let more : flat_map f (take (i + 1) ms) ≡ before ++ f x = flat_more f ms i x c.loop-mutator-test.true c.mutator-item.is in
    let step : ForwardsAt (forward_word c.args.table.now c.args.base) mid new (λ k. Contains (f x) (record { 0 = k })) =
    subst (λ (l : List Address). ForwardsAt (forward_word c.args.table.now c.args.base) mid new (λ k. Contains l (record { 0 = k })))
    c.recorded.ensures c.forward_places.ensures in
    subst (λ (l : List Address). ForwardsAt (forward_word c.args.table.now c.args.base) old new (λ k. Contains l (record { 0 = k }))) (sym more)
    (forwards_then c.args.table.now c.args.base old mid new (λ k. Contains before (record { 0 = k })) (λ k. Contains (f x) (record { 0 = k })) (λ k.
    Contains (before ++ f x) (record { 0 = k })) c.requires.small c.loop-mutator.invariant step
    (λ k h. Contains-append_left before (f x) (record { 0 = k }) h)
    (λ k h. Contains-append_right before (f x) (record { 0 = k }) h)
    (λ k h. Contains-append_cases before (f x) (record { 0 = k }) h))

pub returns : goal.returns
returns g c =
    let f = g.M.MutatorRoots.recorded in
    let all = take_all c.loop-mutator.mutator-index c.args.mutators.now c.loop-mutator-test.false in
    subst (λ xs. ForwardsAt (forward_word c.args.table.now c.args.base) (g.W.HeapWords.words c.args.words.now)
    (g.W.HeapWords.words c.loop-mutator.words) (λ i. Contains (flat_map f xs) (record { 0 = i }))) all c.loop-mutator.invariant
