use Rattle.std.proofs.Common.{rules}
use Rattle.std.proofs.lemmas.List.Sorted.{answers_always}
use Rattle.nmgc_barrier_checker.proofs.Vocabulary.{Name}
use Rattle.nmgc_barrier_checker.proofs.due.sort.Goals as goal

pub returns-clause-sorted : goal.returns-clause-sorted
returns-clause-sorted c = c.sort_unstable_by_key.ensures.sorted (λ (name : Name). (name.maker, name.serial)) (answers_always _ _ _ (λ f a r g h.
    search rules))
