use Rattle.nmgc_minor.proofs.{Vocabulary.ℕ, Vocabulary.List, Vocabulary.take, Vocabulary.subst, Vocabulary.sym, Vocabulary.Contains, Vocabulary.take_all, Vocabulary.Contains-get_or, Vocabulary.contains_flat, Vocabulary.Notes, StartLaws.notes_first, StartLaws.notes_item, StartLaws.notes_words, StartLaws.within_after}
use Rattle.nmgc_minor.proofs.starts.note_registers.Goals as goal

pub loop-mutator-init : goal.loop-mutator-init
loop-mutator-init g c = notes_first (λ m w. Contains (g.M.MutatorRoots.registers m) w) c.args.young.now c.args.mutators.now c.requires.young

pub note_all-requires-clause-within : goal.note_all-requires-clause-within
note_all-requires-clause-within g c =
    let f = g.M.MutatorRoots.registers in
    let ms = c.args.mutators.now in
    let x = c.mutator-item.result in
    let there = subst (λ y. Contains ms y) (sym c.mutator-item.is) (Contains-get_or ms c.loop-mutator.mutator-index x c.loop-mutator-test.true) in
    λ word h. within_after c.args.young.now c.loop-mutator.young (λ w. (m : _) × Contains (take c.loop-mutator.mutator-index ms) m × Contains (f m) w)
    c.loop-mutator.invariant word
    (c.requires.within word (contains_flat f ms x word there (subst (λ (ws : List ℕ). Contains ws word) c.registers.ensures h)))

pub loop-mutator-preserved : goal.loop-mutator-preserved
loop-mutator-preserved g c =
    let f = g.M.MutatorRoots.registers in
    notes_item (λ m w. Contains (f m) w) c.args.young.now c.loop-mutator.young c.note_all.new.self c.args.mutators.now c.loop-mutator.mutator-index
    c.mutator-item.result c.loop-mutator-test.true c.mutator-item.is c.loop-mutator.invariant
    (subst (λ (ws : List ℕ). Notes c.loop-mutator.young c.note_all.new.self (Contains ws)) c.registers.ensures c.note_all.ensures)

pub returns : goal.returns
returns g c =
    let f = g.M.MutatorRoots.registers in
    let ms = c.args.mutators.now in
    let all = take_all c.loop-mutator.mutator-index ms c.loop-mutator-test.false in
    notes_words f c.args.young.now c.loop-mutator.young ms
    (subst (λ xs. Notes c.args.young.now c.loop-mutator.young (λ w. (m : _) × Contains xs m × Contains (f m) w)) all c.loop-mutator.invariant)
