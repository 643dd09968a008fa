use Rattle.nmgc_minor.proofs.{Vocabulary.ℕ, Vocabulary.◌≡◌, Vocabulary.List, Vocabulary.take, Vocabulary.subst, Vocabulary.sym, Vocabulary.ap, Vocabulary.Contains, Vocabulary.take_all, Vocabulary.Contains-get_or, Vocabulary.FinQueue, Vocabulary.Notes, Vocabulary.map_in, StartLaws.notes_first, StartLaws.notes_item, StartLaws.notes_mapped, StartLaws.within_after}
use Rattle.nmgc_minor.proofs.starts.note_queues.Goals as goal

pub loop-mutator-init : goal.loop-mutator-init
loop-mutator-init g c = notes_first (λ m w. Contains (g.M.MutatorRoots.queue m).words w) c.args.young.now c.args.mutators.now c.requires.young

pub note_queue-requires-clause-within : goal.note_queue-requires-clause-within
note_queue-requires-clause-within g c =
    let f = g.M.MutatorRoots.queue in
    let ms = c.args.mutators.now in
    let x = c.mutator-item.result in
    let there = subst (λ y. Contains ms y) (sym c.mutator-item.is) (Contains-get_or ms c.loop-mutator.mutator-index x c.loop-mutator-test.true) in
    let read : c.queue.result.now.words ≡ (f x).words = ap (λ (q : FinQueue). q.words) c.queue.ensures in
    λ word h. within_after c.args.young.now c.loop-mutator.young (λ w. (m : _) × Contains (take c.loop-mutator.mutator-index ms) m × Contains (f m).words w)
    c.loop-mutator.invariant word (c.requires.within (f x) word (map_in f ms x there) (subst (λ (ws : List ℕ). Contains ws word) read h))

pub loop-mutator-preserved : goal.loop-mutator-preserved
loop-mutator-preserved g c =
    let f = g.M.MutatorRoots.queue in
    let x = c.mutator-item.result in
    let read : c.queue.result.now.words ≡ (f x).words = ap (λ (q : FinQueue). q.words) c.queue.ensures in
    notes_item (λ m w. Contains (f m).words w) c.args.young.now c.loop-mutator.young c.note_queue.new.young c.args.mutators.now c.loop-mutator.mutator-index
    x c.loop-mutator-test.true c.mutator-item.is c.loop-mutator.invariant
    (subst (λ (ws : List ℕ). Notes c.loop-mutator.young c.note_queue.new.young (Contains ws)) read c.note_queue.ensures)

pub returns : goal.returns
returns g c =
    let f = g.M.MutatorRoots.queue in
    let ms = c.args.mutators.now in
    let all = take_all c.loop-mutator.mutator-index ms c.loop-mutator-test.false in
    notes_mapped f (λ (q : FinQueue) w. Contains q.words w) c.args.young.now c.loop-mutator.young ms
    (subst (λ xs. Notes c.args.young.now c.loop-mutator.young (λ w. (m : _) × Contains xs m × Contains (f m).words w)) all c.loop-mutator.invariant)
