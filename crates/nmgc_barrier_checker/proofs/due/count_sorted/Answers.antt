use Rattle.nmgc_barrier_checker.proofs.Vocabulary.{◌∙◌, length, ap, List, Name, take_all}
use Rattle.nmgc_barrier_checker.specs.Dues.{once}
use Rattle.nmgc_barrier_checker.proofs.due.count_sorted.Goals as goal

pub returns : goal.returns
returns c = c.loop-place.invariant.is ∙ ap (λ (l : List Name). length (once l)) (take_all c.loop-place.place c.args.names.now c.loop-place-test.false)
