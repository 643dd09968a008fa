use Rattle.nmgc_mark.proofs.{Vocabulary.ℕ, Vocabulary.◌≡◌, Vocabulary.◌+◌, Vocabulary.◌<◌, Vocabulary.◌∙◌, Vocabulary.List, Vocabulary.take, Vocabulary.get_or, Vocabulary.length, Vocabulary.sym, Vocabulary.subst, Vocabulary.ap, Vocabulary.refl, Vocabulary.arith, Vocabulary.slice_index, Vocabulary.Contains-get_or, Vocabulary.take_all, Vocabulary.Marks, Vocabulary.with_name, Vocabulary.name_meant, Vocabulary.slots_of, Vocabulary.IsTied, Vocabulary.with_words, Vocabulary.marked_none, Words.words_more, Words.slot_word, Words.slots_count, Fields.marked_more}
use Rattle.nmgc_mark.proofs.marker.Marker.mark_shared.Goals as goal

pub loop-slot-init : goal.loop-slot-init
loop-slot-init g c = record { words = refl; marked = marked_none c.args.segments.now c.args.self.now c.requires.room; turns = refl; tied = λ o m h. h }

pub load-word-requires : goal.load-word-requires
load-word-requires g c =
    let e = ap length c.loop-slot.invariant.words in
    let r = c.requires.inside in
    omega arith

pub mark_word-requires-clause-room : goal.mark_word-requires-clause-room
mark_word-requires-clause-room g c = c.loop-slot.invariant.marked.room

pub mark_word-requires-clause-small : goal.mark_word-requires-clause-small
mark_word-requires-clause-small g c = λ at e.
    let lt : c.loop-slot.slot < 16 = let e = c.from-slot-end.ensures in let t = c.loop-slot-test.true in omega (arith, e, t) in
    let ws : List ℕ = g.W.HeapWords.words c.args.words.now in
    let is : c.load-word.result ≡ get_or (slots_of ws) c.loop-slot.slot 0 = c.load-word.ensures.word ∙
    ap (λ (l : List ℕ). slice_index l (3 + c.loop-slot.slot)) c.loop-slot.invariant.words ∙ sym (slot_word ws c.loop-slot.slot lt) in
    let n = slots_count ws c.requires.inside in
    c.requires.small (get_or (slots_of ws) c.loop-slot.slot 0) at (Contains-get_or (slots_of ws) c.loop-slot.slot 0 (omega arith)) (sym is ∙ e)

pub loop-slot-preserved : goal.loop-slot-preserved
loop-slot-preserved g c =
    let lt : c.loop-slot.slot < 16 = let e = c.from-slot-end.ensures in let t = c.loop-slot-test.true in omega (arith, e, t) in
    let ws : List ℕ = g.W.HeapWords.words c.args.words.now in
    let is : c.load-word.result ≡ get_or (slots_of ws) c.loop-slot.slot 0 = c.load-word.ensures.word ∙
    ap (λ (l : List ℕ). slice_index l (3 + c.loop-slot.slot)) c.loop-slot.invariant.words ∙ sym (slot_word ws c.loop-slot.slot lt) in
    let n = slots_count ws c.requires.inside in
    record {
      words = c.load-word.ensures.same ∙ c.loop-slot.invariant.words;
      marked = marked_more c.args.segments.now c.loop-slot.segments c.mark_word.new.segments c.args.self.now c.loop-slot.self c.mark_word.new.self
          c.loop-slot.invariant.marked c.mark_word.ensures.marked;
      turns = c.mark_word.ensures.turns ∙ c.loop-slot.invariant.turns;
      tied = λ o m h. subst (λ (k : Marks). IsTied o k c.mark_word.new.segments c.mark_word.new.self)
          (ap (λ (w : ℕ). with_name o.core.snapshot (with_words o m (take c.loop-slot.slot (slots_of ws))) (name_meant o.places w)) is ∙
          sym (words_more o m (slots_of ws) c.loop-slot.slot (omega arith)))
          (c.mark_word.ensures.tied o (with_words o m (take c.loop-slot.slot (slots_of ws))) (c.loop-slot.invariant.tied o m h));
    }

pub returns-clause-tied : goal.returns-clause-tied
returns-clause-tied g c = λ o m h.
    let ws : List ℕ = g.W.HeapWords.words c.args.words.now in
    let n = slots_count ws c.requires.inside in
    let e = c.from-slot-end.ensures in
    let whole : take c.loop-slot.slot (slots_of ws) ≡ slots_of ws = take_all c.loop-slot.slot (slots_of ws) (let le = c.loop-slot-test.false in
    omega (arith, n, e, le)) in
    subst (λ (l : List ℕ). IsTied o (with_words o m l) c.loop-slot.segments c.loop-slot.self) whole (c.loop-slot.invariant.tied o m h)
