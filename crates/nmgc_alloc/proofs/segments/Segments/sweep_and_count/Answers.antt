use Rattle.nmgc_alloc.proofs.{Vocabulary.arith, Vocabulary.refl, Vocabulary.sym, Vocabulary.◌<◌, Vocabulary.◌∙◌, Vocabulary.CLASSES, OneLaws.some_known, SweepLaws.was_swept, SweepLaws.swept_free, SweepLaws.swept_active, SweepLaws.swept_filled, SweepLaws.swept_class, SweepLaws.few_counted}
use Rattle.nmgc_alloc.specs.declared.search.Category.TheVariants as category
use Rattle.nmgc_alloc.proofs.segments.Segments.sweep_and_count.Goals as goal

pub leave-requires-clause-count : goal.leave-requires-clause-count
leave-requires-clause-count c =
    some_known category.Sweeping _ _ _ _ _ _ _ _ c.self.view_is c.self.invariant tt c.requires.least c.place.ensures c.index_mut.ensures.value

pub enter-requires-clause-count : goal.enter-requires-clause-count
enter-requires-clause-count c =
    few_counted category.Free _ _ _ _ _ _ _ _ _ _
    (was_swept _ _ _ c.args.epoch _ _ _ _ _ _ _ _ _ c.self.view_is c.self.invariant c.requires.least c.index_mut-segment.ensures.value
    c.in-Free.ensures.sweeps c.in-Free.ensures.sound c.place.ensures c.index_mut.ensures.value refl c.leave.ensures)
    tt (λ e. absurd (cc)) c.in-Free.ensures.state c.place-in-Free.ensures c.index_mut-in-Free.ensures.value

pub enter-requires-in-Active-clause-count : goal.enter-requires-in-Active-clause-count
enter-requires-in-Active-clause-count c =
    let class_is = c.class-class.ensures ∙ sym (swept_class _ _ c.args.epoch c.in-Active.ensures.sweeps) in
    let small : c.class-class.result < CLASSES = let most = c.in-Active.ensures.sound.class in omega (arith, most, class_is) in
    few_counted (category.Active c.class-class.result) _ _ _ _ _ _ _ _ _ _
    (was_swept _ _ _ c.args.epoch _ _ _ _ _ _ _ _ _ c.self.view_is c.self.invariant c.requires.least c.index_mut-segment.ensures.value
    c.in-Active.ensures.sweeps c.in-Active.ensures.sound c.place.ensures c.index_mut.ensures.value refl c.leave.ensures)
    small (λ e. absurd (cc)) (c.in-Active.ensures.state, sym class_is) c.place-in-Active.ensures c.index_mut-in-Active.ensures.value

pub invariant_of-self : goal.invariant_of-self
invariant_of-self c =
    swept_free _ _ _ _ _ _ _ _ _ _ _
    (was_swept _ _ _ c.args.epoch _ _ _ _ _ _ _ _ _ c.self.view_is c.self.invariant c.requires.least c.index_mut-segment.ensures.value
    c.in-Free.ensures.sweeps c.in-Free.ensures.sound c.place.ensures c.index_mut.ensures.value refl c.leave.ensures)
    c.in-Free.ensures.state c.place-in-Free.ensures c.index_mut-in-Free.ensures.value c.enter.ensures

pub invariant_of-self-in-Active : goal.invariant_of-self-in-Active
invariant_of-self-in-Active c =
    swept_active _ _ _ _ _ _ _ _ _ _ _ _
    (was_swept _ _ _ c.args.epoch _ _ _ _ _ _ _ _ _ c.self.view_is c.self.invariant c.requires.least c.index_mut-segment.ensures.value
    c.in-Active.ensures.sweeps c.in-Active.ensures.sound c.place.ensures c.index_mut.ensures.value refl c.leave.ensures)
    c.in-Active.ensures.state (c.class-class.ensures ∙
    sym (swept_class _ _ c.args.epoch c.in-Active.ensures.sweeps)) c.place-in-Active.ensures c.index_mut-in-Active.ensures.value c.enter-in-Active.ensures

pub invariant_of-self-in-Filled : goal.invariant_of-self-in-Filled
invariant_of-self-in-Filled c =
    swept_filled _ _ _ _ _ _ _ _
    (was_swept _ _ _ c.args.epoch _ _ _ _ _ _ _ _ _ c.self.view_is c.self.invariant c.requires.least c.index_mut-segment.ensures.value
    c.in-Filled.ensures.sweeps c.in-Filled.ensures.sound c.place.ensures c.index_mut.ensures.value refl c.leave.ensures)
    c.in-Filled.ensures.state

pub returns-in-Free-clause-sound : goal.returns-in-Free-clause-sound
returns-in-Free-clause-sound c =
    (swept_free _ _ _ _ _ _ _ _ _ _ _
    (was_swept _ _ _ c.args.epoch _ _ _ _ _ _ _ _ _ c.self.view_is c.self.invariant c.requires.least c.index_mut-segment.ensures.value
    c.in-Free.ensures.sweeps c.in-Free.ensures.sound c.place.ensures c.index_mut.ensures.value refl c.leave.ensures)
    c.in-Free.ensures.state c.place-in-Free.ensures c.index_mut-in-Free.ensures.value c.enter.ensures).0

pub returns-in-Active-clause-sound : goal.returns-in-Active-clause-sound
returns-in-Active-clause-sound c =
    (swept_active _ _ _ _ _ _ _ _ _ _ _ _
    (was_swept _ _ _ c.args.epoch _ _ _ _ _ _ _ _ _ c.self.view_is c.self.invariant c.requires.least c.index_mut-segment.ensures.value
    c.in-Active.ensures.sweeps c.in-Active.ensures.sound c.place.ensures c.index_mut.ensures.value refl c.leave.ensures)
    c.in-Active.ensures.state (c.class-class.ensures ∙
    sym (swept_class _ _ c.args.epoch c.in-Active.ensures.sweeps)) c.place-in-Active.ensures c.index_mut-in-Active.ensures.value
    c.enter-in-Active.ensures).0

pub returns-in-Filled-clause-sound : goal.returns-in-Filled-clause-sound
returns-in-Filled-clause-sound c =
    (swept_filled _ _ _ _ _ _ _ _
    (was_swept _ _ _ c.args.epoch _ _ _ _ _ _ _ _ _ c.self.view_is c.self.invariant c.requires.least c.index_mut-segment.ensures.value
    c.in-Filled.ensures.sweeps c.in-Filled.ensures.sound c.place.ensures c.index_mut.ensures.value refl c.leave.ensures)
    c.in-Filled.ensures.state).0
