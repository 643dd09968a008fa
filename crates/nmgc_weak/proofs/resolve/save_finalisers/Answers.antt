use Rattle.nmgc_weak.proofs.{Vocabulary.◌≡◌, Vocabulary.◌+◌, Vocabulary.ℕ, Vocabulary.List, Vocabulary.[], Vocabulary.◌∷◌, Vocabulary.◌++◌, Vocabulary.take, Vocabulary.get_or, Vocabulary.length, Vocabulary.refl, Vocabulary.sym, Vocabulary.ap, Vocabulary.subst, Vocabulary.◌∙◌, Vocabulary.arith, Vocabulary.slice_index, Vocabulary.IsReady, Vocabulary.OldWeak, Vocabulary.Death, Vocabulary.finaliser_place, Vocabulary.deaths_of, Vocabulary.marked_none, Vocabulary.word_is, Clearing.deaths_more, Counting.marked_sum, Finding.at_contains, Joining.get_default, Saving.IsSaving, Saving.saving_begins, Saving.saving_more, Saving.saving_done, Stages.remade, Stages.stage_ready}
use Rattle.nmgc_weak.proofs.resolve.save_finalisers.Goals as goal

abbrev nobody : OldWeak
nobody = record { weak = record { maker = 0; serial = 0 }; at = record { 0 = 0 } }

-- a death with this word
abbrev death_with : OldWeak → ℕ → Death
death_with x w = record { weak = x.weak; finaliser = w }

pub loop-weak-init : goal.loop-weak-init
loop-weak-init g c = record {
  words = refl;
  deaths = c.requires.empty;
  capacity = refl;
  marked = (0, marked_none c.args.segments.now c.args.marker.now c.requires.room);
  turns = refl;
  each = λ o weaks h. saving_begins o (g.W.HeapWords.words c.args.words.now) c.args.segments.now c.args.marker.now weaks c.args.dying.now h;
}

pub load-finaliser-requires : goal.load-finaliser-requires
load-finaliser-requires g c =
    let x = get_or c.args.dying.now c.loop-weak.weak-index nobody in
    let inside = (c.requires.within x (at_contains c.args.dying.now c.loop-weak.weak-index nobody c.loop-weak-test.true)).inside in
    let l = ap length c.loop-weak.invariant.words in
    omega (arith, inside, l)

pub mark_word-requires-clause-room : goal.mark_word-requires-clause-room
mark_word-requires-clause-room g c = c.loop-weak.invariant.marked.1.room

pub mark_word-requires-clause-small : goal.mark_word-requires-clause-small
mark_word-requires-clause-small g c = λ to e.
    let ws = g.W.HeapWords.words c.args.words.now in
    let x = get_or c.args.dying.now c.loop-weak.weak-index nobody in
    let place : finaliser_place x.at.0 ≡ x.at.0 + 2 + 2 = omega arith in
    let within = c.requires.within x (at_contains c.args.dying.now c.loop-weak.weak-index nobody c.loop-weak-test.true) in
    within.small 2 to (omega arith) (ap (λ (i : ℕ). slice_index ws i) (sym place) ∙
    sym (word_is ws (g.W.HeapWords.words c.loop-weak.words) x.at.0 c.load-finaliser.result c.loop-weak.invariant.words c.load-finaliser.ensures.word) ∙ e)

pub loop-weak-preserved : goal.loop-weak-preserved
loop-weak-preserved g c =
    let ws = g.W.HeapWords.words c.args.words.now in
    let i : ℕ = c.loop-weak.weak-index in
    let x = get_or c.args.dying.now i nobody in
    let inv = c.loop-weak.invariant in
    let w = word_is ws (g.W.HeapWords.words c.loop-weak.words) x.at.0 c.load-finaliser.result inv.words c.load-finaliser.ensures.word in
    record {
      words = c.load-finaliser.ensures.same ∙ inv.words;
      deaths = c.push_reserved.ensures.items ∙ ap (λ (l : List Death). l ++ death_with x c.load-finaliser.result ∷ []) inv.deaths ∙
          ap (λ (y : ℕ). deaths_of ws (take i c.args.dying.now) ++ death_with x y ∷ []) w ∙
          sym (deaths_more ws c.args.dying.now i nobody c.loop-weak-test.true);
      capacity = c.push_reserved.ensures.capacity ∙ inv.capacity;
      marked = marked_sum c.args.segments.now c.loop-weak.segments c.mark_word.new.segments c.args.marker.now c.loop-weak.marker
          c.mark_word.new.self inv.marked (0, c.mark_word.ensures.marked);
      turns = c.mark_word.ensures.turns ∙ inv.turns;
      each = λ o weaks h. saving_more o ws c.args.segments.now c.args.marker.now weaks c.args.dying.now h c.loop-weak.segments
          c.mark_word.new.segments c.loop-weak.marker c.mark_word.new.self i x c.load-finaliser.result (inv.each o weaks h)
          (get_default c.args.dying.now i nobody c.loop-weak-test.true) w (λ m t. c.mark_word.ensures.tied o m t);
    }

pub finish-requires-clause-room : goal.finish-requires-clause-room
finish-requires-clause-room g c = c.loop-weak.invariant.marked.1.room

pub finish-requires-clause-ready : goal.finish-requires-clause-ready
finish-requires-clause-ready g c =
    let ws = g.W.HeapWords.words c.args.words.now in
    let inv = c.loop-weak.invariant in
    let r = c.requires.can in
    let b = inv.each r.0 r.1 r.2 in
    let ready = stage_ready r.0 b.opened b.m ws c.loop-weak.segments c.loop-weak.marker r.2.can.marking r.2.can.ready.opens b.stage in
    (remade r.0 b.opened b.m, subst (λ (l : List ℕ). IsReady (remade r.0 b.opened b.m) l c.loop-weak.segments c.loop-weak.marker) (sym inv.words) ready)

pub returns-clause-marked : goal.returns-clause-marked
returns-clause-marked g c =
    marked_sum c.args.segments.now c.loop-weak.segments c.finish.new.segments c.args.marker.now c.loop-weak.marker c.finish.new.self
    c.loop-weak.invariant.marked c.finish.ensures.marked

pub returns-clause-saved : goal.returns-clause-saved
returns-clause-saved g c = λ o weaks h.
    let ws = g.W.HeapWords.words c.args.words.now in
    let inv = c.loop-weak.invariant in
    let end : c.loop-weak.weak-index ≡ length c.args.dying.now = (let past = c.loop-weak-test.false in let le = c.loop-weak.auto.weak-index-end in
    omega arith) in
    let b = subst (λ (n : ℕ).
    IsSaving o ws c.args.segments.now c.args.marker.now weaks c.args.dying.now h c.loop-weak.segments c.loop-weak.marker n) end (inv.each o weaks h) in
    saving_done o ws c.args.segments.now c.args.marker.now weaks c.args.dying.now h c.loop-weak.segments c.finish.new.segments c.loop-weak.marker
    c.finish.new.self b
    (λ p ready. c.finish.ensures.finished p (subst (λ (l : List ℕ). IsReady p l c.loop-weak.segments c.loop-weak.marker) (sym inv.words) ready))
