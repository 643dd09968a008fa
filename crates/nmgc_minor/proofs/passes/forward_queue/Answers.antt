use Rattle.nmgc_minor.proofs.{Vocabulary.◌≡◌, Vocabulary.◌+◌, Vocabulary.◌++◌, Vocabulary.◌<◌, Vocabulary.ℕ, Vocabulary.List, Vocabulary.length, Vocabulary.map, Vocabulary.take, Vocabulary.drop, Vocabulary.set, Vocabulary.slice_index, Vocabulary.refl, Vocabulary.sym, Vocabulary.ap, Vocabulary.◌∙◌, Vocabulary.arith, Vocabulary.length-append, Vocabulary.length-take, Vocabulary.length-drop, Vocabulary.get_or_default, Vocabulary.length-map, Vocabulary.map_over_more, Vocabulary.FinQueue, Vocabulary.forward_word, ForwardLaws.low_words}
use Rattle.nmgc_minor.proofs.passes.forward_queue.Goals as goal

same_queue : (a b : FinQueue) → a.words ≡ b.words → a.spare ≡ b.spare → a ≡ b
same_queue a b e f =
    let first : a ≡ record { words = b.words; spare = a.spare } = ap (λ (k : List ℕ). let n : FinQueue = record { words = k; spare = a.spare } in n) e in
    let second : ◌≡◌ {A = FinQueue} (record { words = b.words; spare = a.spare }) b =
    ap (λ (k : ℕ). let n : FinQueue = record { words = b.words; spare = k } in n) f in
    first ∙ second

-- a queue without nursery objects is unchanged
pub returns-then-is_below : goal.returns-then-is_below
returns-then-is_below c =
    let q : FinQueue = c.args.queue.now in
    let low = c.is_below.ensures c.if-is_below.true in
    same_queue q (record q { words = map (forward_word c.args.table.now c.args.base) q.words }) (sym (low_words c.args.table.now c.args.base q.words low)) refl

-- one more word of the queue
queue_more : (f : ℕ → ℕ) (old cur new : FinQueue) (i word : ℕ) → i < length old.words → cur.words ≡ map f (take i old.words) ++ drop i old.words →
    cur.spare ≡ old.spare → new.words ≡ set cur.words i word → new.spare ≡ cur.spare → word ≡ f (slice_index cur.words i) →
    ◌≡◌ {A = FinQueue} new (record old { words = map f (take (i + 1) old.words) ++ drop (i + 1) old.words })
queue_more f old cur new i word lt words spare now same is =
    let size = ap length words in
    let a = length-append (map f (take i old.words)) (drop i old.words) in
    let b = length-map (take i old.words) f in
    let c = length-take i old.words in
    let d = length-drop i old.words in
    let within : i < length cur.words = omega (arith, size, a, b, c, d) in
    let more = map_over_more f old.words cur.words i (slice_index cur.words i) lt words (get_or_default cur.words i 0 (slice_index cur.words i) within) in
    same_queue new (record old { words = map f (take (i + 1) old.words) ++ drop (i + 1) old.words }) (now ∙ ap (λ (x : ℕ). set cur.words i x) is ∙
    more) (same ∙ spare)

pub loop-i-preserved : goal.loop-i-preserved
loop-i-preserved c =
    let e = ap length c.words-i-end.ensures in
    let lt : c.loop-i.i < length c.args.queue.now.words = omega (arith, e, c.loop-i-test.true) in
    queue_more (forward_word c.args.table.now c.args.base) c.args.queue.now c.loop-i.queue c.set.new.self c.loop-i.i c.forward_word.result lt
    (ap (λ (q : FinQueue). q.words) c.loop-i.invariant)
    (ap (λ (q : FinQueue). q.spare) c.loop-i.invariant)
    c.set.ensures.words
    c.set.ensures.spare
    (c.forward_word.ensures ∙ ap (λ (xs : List ℕ). forward_word c.args.table.now c.args.base (slice_index xs c.loop-i.i)) c.words.ensures)
