use Rattle.nmgc_cycle.proofs.{Vocabulary.◌≡◌, Vocabulary.ℕ, Vocabulary.List, Vocabulary.length, Vocabulary.map, Vocabulary.refl, Vocabulary.sym, Vocabulary.ap, Vocabulary.subst, Vocabulary.◌∙◌, Vocabulary.arith, Vocabulary.Contains, Vocabulary.with_items, Vocabulary.length-map, Vocabulary.StandsFor, Vocabulary.Stopped, Vocabulary.IsSettled, Vocabulary.Copies, Vocabulary.contains_map, Vocabulary.moved_of, Vocabulary.Move, Vocabulary.Mutator, Vocabulary.header_word, Vocabulary.Layout, Vocabulary.HaveEntries, Vocabulary.HaveNoted, Vocabulary.low_entry, Vocabulary.promoted_by, Vocabulary.words_in, Vocabulary.StandsStopped, Vocabulary.slice_index, lists.MutatorLists.words_of_queues, lists.MutatorLists.vec_back, lists.MutatorLists.stopped_now, stops.Promoted.refilled_are}
use Rattle.nmgc_collector_laws.specs.Worked.{registers_of, queues_of}
use Rattle.nmgc_cycle.proofs.collector.Collector.move_promoted.Goals as goal

pub promote-requires-clause-stopped : goal.promote-requires-clause-stopped
promote-requires-clause-stopped c =
    let h = c.requires.stopped in (
      h.0,
      stopped_now h.0 c.args.self.now.heap.segments c.args.self.now.heap.words c.in-Some.words c.args.self.now.mutators.items c.as_mut_slice.result.now
          c.in-Some.is c.as_mut_slice.ensures.value h.1,
    )

pub note_moves-requires : goal.note_moves-requires
note_moves-requires c = λ m there.
    let h = c.requires.stopped in
    let settled = c.promote.ensures.settled h.0 (stopped_now h.0 c.args.self.now.heap.segments c.args.self.now.heap.words c.in-Some.words
    c.args.self.now.mutators.items c.as_mut_slice.result.now c.in-Some.is c.as_mut_slice.ensures.value h.1) in
    let low = settled.low (moved_of m) (contains_map moved_of c.promote.new.self.moves m (subst (λ (l : List Move).
    Contains l m) c.moves.ensures there)) in
    low_entry c.promote.new.segments.layout c.args.self.now.heap.names m.to.0 c.promote.ensures.sound.layout (subst (λ (l : Layout).
    HaveEntries l c.args.self.now.heap.names) (sym c.promote.ensures.layout) c.requires.entries) (omega (arith, low))

pub returns-clause-promoted : goal.returns-clause-promoted
returns-clause-promoted c =
    let v = c.args.self.now.mutators in
    let was = c.as_mut_slice.ensures.value in
    let stopped = λ (t : Stopped) (h : StandsStopped t c.args.self.now).
    stopped_now t c.args.self.now.heap.segments c.args.self.now.heap.words c.in-Some.words v.items c.as_mut_slice.result.now c.in-Some.is was h in
    let held : words_in c.args.self.now.heap.words ≡ c.in-Some.words = ap words_in c.in-Some.is in
    let forward : ℕ → ℕ = c.promote.ensures.changes.0 in
    let new : List Mutator = c.promote.new.mutators in
    let promoted : new ≡ map (promoted_by forward) v.items = c.promote.ensures.changes.2 ∙ refilled_are forward c.as_mut_slice.result.now ∙
    ap (λ (ms : List Mutator). map (promoted_by forward) ms) was in
    let count : length new ≡ length v.items = ap (λ (ms : List Mutator). length ms) promoted ∙ length-map v.items (promoted_by forward) in
    let back : (with_items v new).items ≡ new = vec_back v new count in
    record {
      rest = refl;
      has_words = refl;
      noted = subst (λ (l : List Move). HaveNoted (map moved_of l) c.args.self.now.heap.names c.note_moves.new.names) c.moves.ensures c.note_moves.ensures;
      forward = forward;
      held = back ∙ promoted;
      settled = λ t h.
          subst (λ (ms : List Mutator).
          IsSettled t c.promote.new.segments c.promote.new.words (registers_of ms) (queues_of ms) (map moved_of c.promote.new.self.moves)) (sym back)
          (subst (λ (queues : List (List ℕ)).
          IsSettled t c.promote.new.segments c.promote.new.words (registers_of new) queues (map moved_of c.promote.new.self.moves))
          (words_of_queues new) (c.promote.ensures.settled t (stopped t h)));
      places = λ t h a shown. c.promote.ensures.places t (stopped t h) a (subst (λ (words : List ℕ).
          StandsFor c.args.self.now.heap.segments words a) held shown);
      sound = c.promote.ensures.sound;
      marks = c.promote.ensures.marks;
      layout = c.promote.ensures.layout;
      lists = c.promote.ensures.lists;
      copied = record {
        forward = forward;
        forwards = c.promote.ensures.changes.1.forwards;
        copied = λ m header d valid is.
            let word : slice_index c.in-Some.words m.from ≡ header_word header = ap (λ (l : List ℕ). slice_index l m.from) (sym held) ∙ is in
            subst (λ (l : List ℕ). Copies forward l c.promote.new.words m.from m.to header.fields) (sym held)
            (c.promote.ensures.changes.1.rewrites.moved m header d (valid, word)).0;
      };
    }
