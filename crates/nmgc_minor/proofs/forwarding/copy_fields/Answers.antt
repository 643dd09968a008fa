use Rattle.nmgc_minor.proofs.{Vocabulary.◌+◌, Vocabulary.ℕ, Vocabulary.List, Vocabulary.set, Vocabulary.ap, Vocabulary.◌∙◌, Vocabulary.length, Vocabulary.arith, Vocabulary.HEADER_WORDS, Vocabulary.forward_word, ForwardLaws.none_copied, ForwardLaws.fields_copied}
use Rattle.nmgc_minor.proofs.forwarding.copy_fields.Goals as goal

pub loop-i-init : goal.loop-i-init
loop-i-init g c = none_copied (forward_word c.args.table.now c.args.base) (g.W.HeapWords.words c.args.words.now) (c.args.from + HEADER_WORDS)
    (c.args.to + HEADER_WORDS)

pub load-word-requires : goal.load-word-requires
load-word-requires g c =
    let e = c.loop-i.invariant.total in
    let r = c.requires.inside in
    omega (arith, e, r)

pub store_if_changed-requires : goal.store_if_changed-requires
store_if_changed-requires g c =
    let e = c.loop-i.invariant.total in
    let f = ap length c.load-word.ensures.same in
    let r = c.requires.inside in
    let a = c.requires.apart in
    omega (arith, e, f, r, a)

pub loop-i-preserved : goal.loop-i-preserved
loop-i-preserved g c =
    let cur = g.W.HeapWords.words c.loop-i.words in
    let r = c.requires.inside in
    let a = c.requires.apart in
    let word = c.forward_word.ensures ∙ ap (forward_word c.args.table.now c.args.base) c.load-word.ensures.word in
    let stored = c.store_if_changed.ensures ∙ ap (λ (ws : List ℕ). set ws (c.args.to + HEADER_WORDS + c.loop-i.i) c.forward_word.result) c.load-word.ensures.same ∙
    ap (λ (x : ℕ). set cur (c.args.to + HEADER_WORDS + c.loop-i.i) x) word in
    rw (stored) (fields_copied (forward_word c.args.table.now c.args.base) (g.W.HeapWords.words c.args.words.now) cur (c.args.from + HEADER_WORDS)
    (c.args.to + HEADER_WORDS) c.loop-i.i (omega (arith, a)) (omega (arith, r)) c.loop-i.invariant)
