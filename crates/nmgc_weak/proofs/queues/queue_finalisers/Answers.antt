use Rattle.nmgc_weak.proofs.{Vocabulary.◌≡◌, Vocabulary.◌+◌, Vocabulary.◌<◌, Vocabulary.◌++◌, Vocabulary.◌∷◌, Vocabulary.[], Vocabulary.ℕ, Vocabulary.map, Vocabulary.set, Vocabulary.get_or, Vocabulary.length, Vocabulary.take, Vocabulary.sym, Vocabulary.ap, Vocabulary.subst, Vocabulary.◌∙◌, Vocabulary.arith, Vocabulary.rules, Vocabulary.slice_get, Vocabulary.length-map, Vocabulary.FinQueue, Vocabulary.contains_at, Vocabulary.Death, Vocabulary.HaveJoined, Vocabulary.Some, Joining.none_joined, Joining.joined_count, Joining.nil_stays, Joining.one_joined, Joining.queue_at, Joining.has_room, Joining.get_default, queues.queue_finalisers.Goals.then-death-ne-NIL_WORD, queues.queue_finalisers.Goals.else-death-ne-NIL_WORD}
use Rattle.nmgc_weak.proofs.queues.queue_finalisers.Goals as goal

abbrev nothing : Death
nothing = record { weak = record { maker = 0; serial = 0 }; finaliser = 0 }

pub loop-death-init : goal.loop-death-init
loop-death-init g c = none_joined g.M.MutatorRoots.queue g.M.MutatorRoots.with_queue g.met.M.MutatorRoots.same_queue c.args.mutators.now

pub bounds-mutators-from : goal.bounds-mutators-from
bounds-mutators-from g c =
    let x = get_or c.args.deaths.now c.loop-death.death-index nothing in
    let m = c.requires.makers x (contains_at c.args.deaths.now c.loop-death.death-index x
    (get_default c.args.deaths.now c.loop-death.death-index nothing c.loop-death-test.true)) in
    let l = joined_count g.M.MutatorRoots.queue g.M.MutatorRoots.with_queue (take c.loop-death.death-index c.args.deaths.now) c.args.mutators.now
    c.loop-death.mutators c.loop-death.invariant in
    let n = length-map c.args.mutators.now g.M.MutatorRoots.queue in
    let f = c.from.ensures in
    omega (arith, m, l, n, f)

pub add-requires : goal.add-requires
add-requires g c =
    let queue = g.M.MutatorRoots.queue in
    let with_queue = g.M.MutatorRoots.with_queue in
    let ds = c.args.deaths.now in
    let i : ℕ = c.loop-death.death-index in
    let x = get_or ds i nothing in
    let ms = c.loop-death.mutators in
    let was = c.args.mutators.now in
    let bound = c.requires.makers x (contains_at ds i x (get_default ds i nothing c.loop-death-test.true)) in
    let l = joined_count queue with_queue (take i ds) was ms c.loop-death.invariant in
    let n = length-map was queue in
    let f = c.from.ensures in
    let m = get_or ms c.from.result c.index-mutators-from.result in
    let at : c.from.result < length ms = omega (arith, bound, l, n, f) in
    let here : slice_get ms x.weak.maker ≡ Some m = ap (λ (j : ℕ). slice_get ms j) (sym f) ∙ get_default ms c.from.result c.index-mutators-from.result at in
    subst (λ (q : FinQueue). 0 < q.spare) (sym c.queue_mut.ensures.value)
    (has_room ds i nothing (map queue was) (map queue ms) c.loop-death-test.true c.loop-death.invariant.joined c.requires (queue m)
    c.if-death-ne-NIL_WORD.true (queue_at queue with_queue ms x.weak.maker m here))

pub loop-death-preserved : goal.loop-death-preserved
loop-death-preserved g c =
    let queue = g.M.MutatorRoots.queue in
    let with_queue = g.M.MutatorRoots.with_queue in
    let laws = g.met.M.MutatorRoots in
    let ds = c.args.deaths.now in
    let i : ℕ = c.loop-death.death-index in
    let x = get_or ds i nothing in
    let ms = c.loop-death.mutators in
    let was = c.args.mutators.now in
    let bound = c.requires.makers x (contains_at ds i x (get_default ds i nothing c.loop-death-test.true)) in
    let l = joined_count queue with_queue (take i ds) was ms c.loop-death.invariant in
    let n = length-map was queue in
    elim c.if-death-ne-NIL_WORD.branch [
      | then-death-ne-NIL_WORD w ↦
          let f = w.from.ensures in
          let m = get_or ms w.from.result w.index-mutators-from.result in
          let at : w.from.result < length ms = omega (arith, bound, l, n, f) in
          let here : slice_get ms x.weak.maker ≡ Some m = ap (λ (j : ℕ). slice_get ms j) (sym f) ∙
          get_default ms w.from.result w.index-mutators-from.result at in
          let value = w.queue_mut.ensures.value in
          let words = w.add.ensures.words ∙ ap (λ (q : FinQueue). q.words ++ x.finaliser ∷ []) value in
          let spare = w.add.ensures.spare ∙ ap (λ (q : FinQueue). q.spare) value in
          let joins = one_joined queue with_queue ds i nothing was ms c.loop-death-test.true c.loop-death.invariant laws.own_queue laws.last_queue m
          w.add.new.self w.if-death-ne-NIL_WORD.true here words spare in
          let at_from = subst (λ (j : ℕ). HaveJoined queue with_queue (take (i + 1) ds) was (set ms j (with_queue m w.add.new.self))) (sym f) joins in
          subst (λ xs. HaveJoined queue with_queue (take (i + 1) ds) was xs) (sym w.mutators-is) at_from
      | else-death-ne-NIL_WORD w ↦
          subst (λ xs. HaveJoined queue with_queue (take (i + 1) ds) was xs) (sym w.mutators-is)
          (nil_stays queue with_queue ds i nothing was ms c.loop-death-test.true c.loop-death.invariant w.if-death-ne-NIL_WORD.false)
    ]

pub offset_bounds-mutators-from : goal.offset_bounds-mutators-from
offset_bounds-mutators-from g c =
    let x = get_or c.args.deaths.now c.loop-death.death-index nothing in
    let m = c.requires.makers x (contains_at c.args.deaths.now c.loop-death.death-index x
    (get_default c.args.deaths.now c.loop-death.death-index nothing c.loop-death-test.true)) in
    let n = length-map c.args.mutators.now g.M.MutatorRoots.queue in
    let f = c.from.ensures in
    let h : c.from.result < length c.args.mutators.now = omega (arith, m, n, f) in
    search rules
