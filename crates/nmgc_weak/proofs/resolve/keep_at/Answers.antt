use Rattle.nmgc_weak.proofs.{Vocabulary.[], Vocabulary.◌∷◌, Vocabulary.get_or, Vocabulary.OldWeak, Vocabulary.places_of, Vocabulary.marked_none, Finding.at_contains, Passing.goes_nowhere, Passing.passed_on, Saving.has_place}
use Rattle.nmgc_weak.proofs.resolve.keep_at.Goals as goal

abbrev nobody : OldWeak
nobody = record { weak = record { maker = 0; serial = 0 }; at = record { 0 = 0 } }

pub returns-then-place-list-clause-marked : goal.returns-then-place-list-clause-marked
returns-then-place-list-clause-marked g c = (0, marked_none c.args.segments.now c.args.marker.now c.requires.room)

pub returns-then-place-list-clause-goes : goal.returns-then-place-list-clause-goes
returns-then-place-list-clause-goes g c =
    goes_nowhere (g.W.HeapWords.words c.args.words.now) c.args.segments.now c.args.marker.now (places_of c.args.list.now)

pub keep_if_key_marked-requires-clause-within : goal.keep_if_key_marked-requires-clause-within
keep_if_key_marked-requires-clause-within g c =
    c.requires.within (get_or c.args.list.now c.args.place nobody) (at_contains c.args.list.now c.args.place nobody c.if-place-list.false)

pub keep_if_key_marked-requires-clause-can : goal.keep_if_key_marked-requires-clause-can
keep_if_key_marked-requires-clause-can g c =
    let x = get_or c.args.list.now c.args.place nobody in
    let r = c.requires.can in (
      r.0,
      places_of c.args.list.now,
      r.1,
      has_place c.args.list.now x (at_contains c.args.list.now c.args.place nobody c.if-place-list.false),
    )

pub returns-clause-goes : goal.returns-clause-goes
returns-clause-goes g c =
    let x = get_or c.args.list.now c.args.place nobody in
    let here = has_place c.args.list.now x (at_contains c.args.list.now c.args.place nobody c.if-place-list.false) in
    passed_on (g.W.HeapWords.words c.args.words.now) c.args.segments.now c.keep_if_key_marked.new.segments c.args.marker.now
    c.keep_if_key_marked.new.marker (places_of c.args.list.now) (x.weak ∷ []) (λ o h. c.keep_if_key_marked.ensures.passed o (places_of c.args.list.now) h here)
