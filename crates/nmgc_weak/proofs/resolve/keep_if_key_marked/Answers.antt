use Rattle.nmgc_weak.proofs.{Vocabulary.ℕ, Vocabulary.List, Vocabulary.sym, Vocabulary.subst, Vocabulary.inl, Vocabulary.inr, Vocabulary.CanKeep, Vocabulary.HasKept, Vocabulary.marked_none, Passing.can_keep, Passing.one_kept, Passing.none_kept}
use Rattle.nmgc_weak.proofs.resolve.keep_if_key_marked.Goals as goal

pub returns-in_default-clause-marked : goal.returns-in_default-clause-marked
returns-in_default-clause-marked g c = (0, marked_none c.args.segments.now c.args.marker.now c.requires.room)

pub returns-in_default-clause-passed : goal.returns-in_default-clause-passed
returns-in_default-clause-passed g c = λ o weaks h here.
    none_kept o (g.W.HeapWords.words c.args.words.now) c.args.segments.now c.args.marker.now weaks c.args.weak h here (inr c.in_default.ensures.none)

pub returns-then-not-has_marked_key-clause-marked : goal.returns-then-not-has_marked_key-clause-marked
returns-then-not-has_marked_key-clause-marked g c = (0, marked_none c.args.segments.now c.args.marker.now c.requires.room)

pub returns-then-not-has_marked_key-clause-passed : goal.returns-then-not-has_marked_key-clause-passed
returns-then-not-has_marked_key-clause-passed g c = λ o weaks h here.
    let snap = c.in-Some.ensures.some.1 in
    none_kept o (g.W.HeapWords.words c.args.words.now) c.args.segments.now c.args.marker.now weaks c.args.weak h here
    (inl (
      c.has_marked_key.ensures.epoch,
      (
        snap,
        λ m. let t = c.has_marked_key.ensures.marked.1 m in let f = c.if-not-has_marked_key.true in
            (let bad : ⊥ = cc in bad),
      ),
    ))

pub keep-requires-clause-begins : goal.keep-requires-clause-begins
keep-requires-clause-begins g c = c.in-Some.ensures.some.0

pub keep-requires-clause-can : goal.keep-requires-clause-can
keep-requires-clause-can g c =
    let ws = g.W.HeapWords.words c.args.words.now in
    let r = c.requires.can in
    let snap = c.in-Some.ensures.some.1 in
    let k = can_keep r.0 ws c.args.segments.now c.args.marker.now r.1 c.args.weak r.2 r.3 c.has_marked_key.ensures.epoch snap
    (c.has_marked_key.ensures.marked.0 c.if-not-has_marked_key.false) in (
      r.0,
      r.1,
      c.args.weak.weak,
      subst (λ (l : List ℕ).
          CanKeep r.0 l c.args.segments.now c.args.marker.now r.1 c.args.weak.at.0 c.args.weak.weak) (sym c.has_marked_key.ensures.words) k,
    )

pub returns-clause-passed : goal.returns-clause-passed
returns-clause-passed g c = λ o weaks h here.
    let ws = g.W.HeapWords.words c.args.words.now in
    let snap = c.in-Some.ensures.some.1 in
    let k = can_keep o ws c.args.segments.now c.args.marker.now weaks c.args.weak h here c.has_marked_key.ensures.epoch snap
    (c.has_marked_key.ensures.marked.0 c.if-not-has_marked_key.false) in
    let can = subst (λ (l : List ℕ).
    CanKeep o l c.args.segments.now c.args.marker.now weaks c.args.weak.at.0 c.args.weak.weak) (sym c.has_marked_key.ensures.words) k in
    let kept = c.keep.ensures.kept o weaks c.args.weak.weak can in
    one_kept o ws c.keep.new.segments c.keep.new.marker weaks c.args.weak.weak c.args.segments.now c.args.marker.now h (subst (λ (l : List ℕ).
    HasKept o l c.keep.new.segments c.keep.new.marker weaks c.args.weak.weak) c.has_marked_key.ensures.words kept)
