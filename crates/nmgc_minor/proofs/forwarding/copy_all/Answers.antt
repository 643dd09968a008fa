use Rattle.nmgc_minor.proofs.{Vocabulary.ℕ, Vocabulary.List, Vocabulary.take, Vocabulary.drop, Vocabulary.get_or, Vocabulary.subst, Vocabulary.sym, Vocabulary.arith, Vocabulary.◌∙◌, Vocabulary.Contains, Vocabulary.take-append-drop, Vocabulary.get_or_default, Vocabulary.Contains-get_or, Vocabulary.Contains-append_left, Vocabulary.Move, Vocabulary.forward_word, ForwardLaws.still_header, ForwardLaws.copy_header, ForwardLaws.copies_more}
use Rattle.nmgc_minor.proofs.forwarding.copy_all.Goals as goal

no_move : Move
no_move = record { name = record { maker = 0; serial = 0 }; from = record { 0 = 0 }; to = record { 0 = 0 } }

taken_in : (xs : List Move) (n : ℕ) (x : Move) → Contains (take n xs) x → Contains xs x
taken_in xs n x c = subst (λ (ys : List Move). Contains ys x) (take-append-drop n xs) (Contains-append_left (take n xs) (drop n xs) x c)

pub copy_object-requires-clause-header : goal.copy_object-requires-clause-header
unfolding no_move
copy_object-requires-clause-header g c =
    let i = c.loop-moved.moved-index in
    let all = c.args.moves.now in
    copy_header c.args.base (forward_word c.args.table.now c.args.base) (g.W.HeapWords.words c.args.words.now)
    (g.W.HeapWords.words c.loop-moved.words) all (take i all) (get_or all i no_move) (taken_in all i) c.requires c.loop-moved.invariant
    (Contains-get_or all i no_move c.loop-moved-test.true)

pub copy_object-requires-clause-apart : goal.copy_object-requires-clause-apart
unfolding no_move
copy_object-requires-clause-apart g c =
    let i = c.loop-moved.moved-index in
    let all = c.args.moves.now in
    let m = get_or all i no_move in
    let here = Contains-get_or all i no_move c.loop-moved-test.true in
    let h = c.requires.each m here in
    let same = still_header c.args.base (forward_word c.args.table.now c.args.base) (g.W.HeapWords.words c.args.words.now)
    (g.W.HeapWords.words c.loop-moved.words) all (take i all) m (taken_in all i) c.requires c.loop-moved.invariant here m.from.0 h.1 in
    λ header is. let b = c.requires.below m header here (is.0, sym same ∙ is.1) in let f = h.1 in omega (arith, b, f)

pub loop-moved-preserved : goal.loop-moved-preserved
unfolding no_move
loop-moved-preserved g c =
    let i = c.loop-moved.moved-index in
    let all = c.args.moves.now in
    copies_more c.args.base (forward_word c.args.table.now c.args.base) (g.W.HeapWords.words c.args.words.now)
    (g.W.HeapWords.words c.loop-moved.words) (g.W.HeapWords.words c.copy_object.new.words) all i (get_or all i no_move) c.requires
    c.loop-moved-test.true (get_or_default all i no_move (get_or all i no_move) c.loop-moved-test.true) c.loop-moved.invariant c.copy_object.ensures
