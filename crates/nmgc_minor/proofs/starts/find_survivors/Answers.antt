use Rattle.nmgc_minor.proofs.{Vocabulary.ℕ, Vocabulary.List, Vocabulary.◌+◌, Vocabulary.slice_index, Vocabulary.refl, Vocabulary.subst, Vocabulary.◌∙◌, Vocabulary.Contains, Vocabulary.flat_map, Vocabulary.Notes, Vocabulary.Follows, Vocabulary.inputs_of, Vocabulary.map, StartLaws.Starts, StartLaws.OfQueue, StartLaws.OfShared, StartLaws.OfRecorded, StartLaws.OfWeak, StartLaws.by_register, StartLaws.by_queue, StartLaws.by_shared, StartLaws.by_recorded, StartLaws.by_weak, StartLaws.notes_starts, StartLaws.within_after, StartLaws.can_follow_noted, StartLaws.finds_all}
use Rattle.nmgc_minor.proofs.starts.find_survivors.Goals as goal

pub note_registers-requires-clause-within : goal.note_registers-requires-clause-within
note_registers-requires-clause-within g c = λ word h.
    c.requires.within word (by_register (flat_map g.M.MutatorRoots.registers c.args.mutators.now) (map g.M.MutatorRoots.queue c.args.mutators.now)
    (flat_map g.M.MutatorRoots.recorded c.args.mutators.now) (flat_map g.M.MutatorRoots.young_weaks c.args.mutators.now)
    (g.W.HeapWords.words c.args.words.now) word h)

pub note_queues-requires-clause-within : goal.note_queues-requires-clause-within
note_queues-requires-clause-within g c = λ queue word h k.
    within_after c.args.young.now c.note_registers.new.young (Contains (flat_map g.M.MutatorRoots.registers c.args.mutators.now)) c.note_registers.ensures word
    (c.requires.within word (by_queue (flat_map g.M.MutatorRoots.registers c.args.mutators.now) (map g.M.MutatorRoots.queue c.args.mutators.now)
    (flat_map g.M.MutatorRoots.recorded c.args.mutators.now) (flat_map g.M.MutatorRoots.young_weaks c.args.mutators.now)
    (g.W.HeapWords.words c.args.words.now) word (queue, h, k)))

pub note_shared-requires-clause-within : goal.note_shared-requires-clause-within
note_shared-requires-clause-within g c = λ i lt.
    let words = g.W.HeapWords.words c.args.words.now in
    let word = slice_index words (3 + i) in
    within_after c.note_registers.new.young c.note_queues.new.young
    (OfQueue (flat_map g.M.MutatorRoots.registers c.args.mutators.now) (map g.M.MutatorRoots.queue c.args.mutators.now)
    (flat_map g.M.MutatorRoots.recorded c.args.mutators.now) (flat_map g.M.MutatorRoots.young_weaks c.args.mutators.now)
    words) c.note_queues.ensures word
    (within_after c.args.young.now c.note_registers.new.young (Contains (flat_map g.M.MutatorRoots.registers c.args.mutators.now)) c.note_registers.ensures word
    (c.requires.within word (by_shared (flat_map g.M.MutatorRoots.registers c.args.mutators.now) (map g.M.MutatorRoots.queue c.args.mutators.now)
    (flat_map g.M.MutatorRoots.recorded c.args.mutators.now) (flat_map g.M.MutatorRoots.young_weaks c.args.mutators.now) words word (i, lt, refl))))

pub note_recorded-requires-clause-inside : goal.note_recorded-requires-clause-inside
note_recorded-requires-clause-inside g c = rw (c.note_shared.ensures.same) (c.requires.recorded)

pub note_recorded-requires-clause-within : goal.note_recorded-requires-clause-within
note_recorded-requires-clause-within g c =
    let words = g.W.HeapWords.words c.args.words.now in
    rw (c.note_shared.ensures.same) (λ at h.
    let word = slice_index words at.0 in
    within_after c.note_queues.new.young c.note_shared.new.young
    (OfShared (flat_map g.M.MutatorRoots.registers c.args.mutators.now) (map g.M.MutatorRoots.queue c.args.mutators.now)
    (flat_map g.M.MutatorRoots.recorded c.args.mutators.now) (flat_map g.M.MutatorRoots.young_weaks c.args.mutators.now) words)
    c.note_shared.ensures.notes word
    (within_after c.note_registers.new.young c.note_queues.new.young
    (OfQueue (flat_map g.M.MutatorRoots.registers c.args.mutators.now) (map g.M.MutatorRoots.queue c.args.mutators.now)
    (flat_map g.M.MutatorRoots.recorded c.args.mutators.now) (flat_map g.M.MutatorRoots.young_weaks c.args.mutators.now) words) c.note_queues.ensures word
    (within_after c.args.young.now c.note_registers.new.young (Contains (flat_map g.M.MutatorRoots.registers c.args.mutators.now)) c.note_registers.ensures word
    (c.requires.within word (by_recorded (flat_map g.M.MutatorRoots.registers c.args.mutators.now) (map g.M.MutatorRoots.queue c.args.mutators.now)
    (flat_map g.M.MutatorRoots.recorded c.args.mutators.now) (flat_map g.M.MutatorRoots.young_weaks c.args.mutators.now) words word (at, h, refl))))))

pub note_weaks-requires-clause-inside : goal.note_weaks-requires-clause-inside
note_weaks-requires-clause-inside g c = rw (c.note_recorded.ensures.same, c.note_shared.ensures.same) (c.requires.weaks)

pub note_weaks-requires-clause-within : goal.note_weaks-requires-clause-within
note_weaks-requires-clause-within g c =
    let words = g.W.HeapWords.words c.args.words.now in
    let recorded = subst (λ (ws : List ℕ).
    Notes c.note_shared.new.young c.note_recorded.new.young
    (OfRecorded (flat_map g.M.MutatorRoots.registers c.args.mutators.now) (map g.M.MutatorRoots.queue c.args.mutators.now)
    (flat_map g.M.MutatorRoots.recorded c.args.mutators.now) (flat_map g.M.MutatorRoots.young_weaks c.args.mutators.now) ws)) c.note_shared.ensures.same
    c.note_recorded.ensures.notes in
    rw (c.note_recorded.ensures.same, c.note_shared.ensures.same) (λ at word h k.
    within_after c.note_shared.new.young c.note_recorded.new.young
    (OfRecorded (flat_map g.M.MutatorRoots.registers c.args.mutators.now) (map g.M.MutatorRoots.queue c.args.mutators.now)
    (flat_map g.M.MutatorRoots.recorded c.args.mutators.now) (flat_map g.M.MutatorRoots.young_weaks c.args.mutators.now) words) recorded word
    (within_after c.note_queues.new.young c.note_shared.new.young
    (OfShared (flat_map g.M.MutatorRoots.registers c.args.mutators.now) (map g.M.MutatorRoots.queue c.args.mutators.now)
    (flat_map g.M.MutatorRoots.recorded c.args.mutators.now) (flat_map g.M.MutatorRoots.young_weaks c.args.mutators.now) words)
    c.note_shared.ensures.notes word
    (within_after c.note_registers.new.young c.note_queues.new.young
    (OfQueue (flat_map g.M.MutatorRoots.registers c.args.mutators.now) (map g.M.MutatorRoots.queue c.args.mutators.now)
    (flat_map g.M.MutatorRoots.recorded c.args.mutators.now) (flat_map g.M.MutatorRoots.young_weaks c.args.mutators.now) words) c.note_queues.ensures word
    (within_after c.args.young.now c.note_registers.new.young (Contains (flat_map g.M.MutatorRoots.registers c.args.mutators.now)) c.note_registers.ensures word
    (c.requires.within word (by_weak (flat_map g.M.MutatorRoots.registers c.args.mutators.now) (map g.M.MutatorRoots.queue c.args.mutators.now)
    (flat_map g.M.MutatorRoots.recorded c.args.mutators.now) (flat_map g.M.MutatorRoots.young_weaks c.args.mutators.now) words word (at, h, k)))))))

pub follow-requires-clause-can : goal.follow-requires-clause-can
follow-requires-clause-can g c =
    let words = g.W.HeapWords.words c.args.words.now in
    let same = c.note_recorded.ensures.same ∙ c.note_shared.ensures.same in
    let recorded = subst (λ (ws : List ℕ).
    Notes c.note_shared.new.young c.note_recorded.new.young
    (OfRecorded (flat_map g.M.MutatorRoots.registers c.args.mutators.now) (map g.M.MutatorRoots.queue c.args.mutators.now)
    (flat_map g.M.MutatorRoots.recorded c.args.mutators.now) (flat_map g.M.MutatorRoots.young_weaks c.args.mutators.now) ws)) c.note_shared.ensures.same
    c.note_recorded.ensures.notes in
    let weaks = subst (λ (ws : List ℕ).
    Notes c.note_recorded.new.young c.note_weaks.new.young
    (OfWeak (flat_map g.M.MutatorRoots.registers c.args.mutators.now) (map g.M.MutatorRoots.queue c.args.mutators.now)
    (flat_map g.M.MutatorRoots.recorded c.args.mutators.now) (flat_map g.M.MutatorRoots.young_weaks c.args.mutators.now) ws)) same
    c.note_weaks.ensures.notes in
    let n = notes_starts (flat_map g.M.MutatorRoots.registers c.args.mutators.now) (map g.M.MutatorRoots.queue c.args.mutators.now)
    (flat_map g.M.MutatorRoots.recorded c.args.mutators.now) (flat_map g.M.MutatorRoots.young_weaks c.args.mutators.now) words
    c.args.young.now c.note_registers.new.young
    c.note_queues.new.young c.note_shared.new.young c.note_recorded.new.young c.note_weaks.new.young c.note_registers.ensures c.note_queues.ensures
    c.note_shared.ensures.notes recorded weaks in
    rw (
      c.note_weaks.ensures.same,
      c.note_recorded.ensures.same,
      c.note_shared.ensures.same,
    ) (can_follow_noted c.args.young.now c.note_weaks.new.young words
    (Starts (flat_map g.M.MutatorRoots.registers c.args.mutators.now) (map g.M.MutatorRoots.queue c.args.mutators.now)
    (flat_map g.M.MutatorRoots.recorded c.args.mutators.now) (flat_map g.M.MutatorRoots.young_weaks c.args.mutators.now) words) c.requires.empty
    n c.requires.can)

pub returns-clause-finds : goal.returns-clause-finds
returns-clause-finds g c =
    let words = g.W.HeapWords.words c.args.words.now in
    let same = c.note_recorded.ensures.same ∙ c.note_shared.ensures.same in
    let recorded = subst (λ (ws : List ℕ).
    Notes c.note_shared.new.young c.note_recorded.new.young
    (OfRecorded (flat_map g.M.MutatorRoots.registers c.args.mutators.now) (map g.M.MutatorRoots.queue c.args.mutators.now)
    (flat_map g.M.MutatorRoots.recorded c.args.mutators.now) (flat_map g.M.MutatorRoots.young_weaks c.args.mutators.now) ws)) c.note_shared.ensures.same
    c.note_recorded.ensures.notes in
    let weaks = subst (λ (ws : List ℕ).
    Notes c.note_recorded.new.young c.note_weaks.new.young
    (OfWeak (flat_map g.M.MutatorRoots.registers c.args.mutators.now) (map g.M.MutatorRoots.queue c.args.mutators.now)
    (flat_map g.M.MutatorRoots.recorded c.args.mutators.now) (flat_map g.M.MutatorRoots.young_weaks c.args.mutators.now) ws)) same
    c.note_weaks.ensures.notes in
    let n = notes_starts (flat_map g.M.MutatorRoots.registers c.args.mutators.now) (map g.M.MutatorRoots.queue c.args.mutators.now)
    (flat_map g.M.MutatorRoots.recorded c.args.mutators.now) (flat_map g.M.MutatorRoots.young_weaks c.args.mutators.now) words
    c.args.young.now c.note_registers.new.young
    c.note_queues.new.young c.note_shared.new.young c.note_recorded.new.young c.note_weaks.new.young c.note_registers.ensures c.note_queues.ensures
    c.note_shared.ensures.notes recorded weaks in
    let follows = subst (λ (ws : List ℕ). Follows c.note_weaks.new.young c.follow.new.self ws) (c.note_weaks.ensures.same ∙ same) c.follow.ensures.follows in
    finds_all c.args.young.now c.note_weaks.new.young c.follow.new.self words
    (inputs_of (flat_map g.M.MutatorRoots.registers c.args.mutators.now) (map g.M.MutatorRoots.queue c.args.mutators.now)
    (flat_map g.M.MutatorRoots.recorded c.args.mutators.now) (flat_map g.M.MutatorRoots.young_weaks c.args.mutators.now)) c.requires.empty n follows
