use Rattle.nmgc_alloc.proofs.{Vocabulary.◌≡◌, Vocabulary.arith, Vocabulary.Sweeping, Vocabulary.sought_count, CountLaws.known_count, HalvesCount.search_begins, HalvesCount.swept_few, HalvesCount.swept_sweeps, HalvesCount.swept_invariant}
use Rattle.nmgc_alloc.proofs.segments.Segments.sweep_halves.Goals as goal

pub sweep_from-past-requires-clause-from : goal.sweep_from-past-requires-clause-from
sweep_from-past-requires-clause-from g c κs within =
    search_begins _ _ _ _ _ _ _ _ c.self.view_is c.self.invariant c.place.ensures c.index-waiting.ensures c.as_mut_slice.ensures.value

pub take_up-requires-clause-few : goal.take_up-requires-clause-few
take_up-requires-clause-few g c =
    swept_few _ c.args.epoch c.args.count _ _ _ _ _ _ _ _ _ c.self.invariant c.as_mut_slice.ensures.value c.as_mut_slice-2.ensures.value
    c.sweep_from-past.ensures.swept c.sweep_from-past.ensures.files

pub overflow_sub-waiting : goal.overflow_sub-waiting
overflow_sub-waiting g c =
    let known : c.index-waiting.result.now.count ≡ sought_count Sweeping c.args.self.now.segments =
    known_count Sweeping _ _ _ _ _ _ _ c.self.view_is c.self.invariant tt c.place.ensures c.index-waiting.ensures in
    omega (arith, known, c.requires.enough)

pub invariant_of-self : goal.invariant_of-self
invariant_of-self g c =
    swept_invariant _ c.args.epoch c.args.count _ _ _ _ _ _ _ _ _ _ _ _ _ _ _ _ c.self.invariant c.as_mut_slice.ensures.value c.as_mut_slice.ensures.len
    c.as_mut_slice-2.ensures.value c.as_mut_slice-2.ensures.len c.sweep_from-past.ensures.swept c.sweep_from-past.ensures.files c.place.ensures
    c.index-waiting.ensures c.take_up.ensures.kinds c.take_up.ensures.each c.place-2.ensures c.new.ensures

pub returns-clause-swept : goal.returns-clause-swept
returns-clause-swept g c =
    swept_sweeps _ _ c.args.epoch c.args.count _ _ _ _ c.self.view_is c.as_mut_slice.ensures.value c.as_mut_slice.ensures.len c.sweep_from-past.ensures.swept

pub returns-clause-sound : goal.returns-clause-sound
returns-clause-sound g c =
    (swept_invariant _ c.args.epoch c.args.count _ _ _ _ _ _ _ _ _ _ _ _ _ _ _ _ c.self.invariant c.as_mut_slice.ensures.value c.as_mut_slice.ensures.len
    c.as_mut_slice-2.ensures.value c.as_mut_slice-2.ensures.len c.sweep_from-past.ensures.swept c.sweep_from-past.ensures.files c.place.ensures
    c.index-waiting.ensures c.take_up.ensures.kinds c.take_up.ensures.each c.place-2.ensures c.new.ensures).0
