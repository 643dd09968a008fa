use Rattle.nmgc_cycle.proofs.Vocabulary.{◌≡◌, ℕ, List, sym, ap, subst, Mutator, finalised_of, FinalisedAreListed, words_in}
use Rattle.nmgc_cycle.proofs.collector.Collector.remove_finalised.Goals as goal

pub remove_noted-requires : goal.remove_noted-requires
remove_noted-requires c =
    let held : words_in c.args.self.now.heap.words ≡ c.in-Some.words = ap words_in c.in-Some.is in
    subst (λ (l : List Mutator). FinalisedAreListed c.in-Some.words c.args.self.now.heap.weaks.list (finalised_of l)) (sym c.as_slice.ensures.value)
    (subst (λ (l : List ℕ). FinalisedAreListed l c.args.self.now.heap.weaks.list (finalised_of c.args.self.now.mutators.items)) held c.requires.reported)
