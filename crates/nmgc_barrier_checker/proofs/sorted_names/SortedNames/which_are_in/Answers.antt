use Rattle.nmgc_barrier_checker.proofs.{Vocabulary.ℕ, Vocabulary.List, Vocabulary.subst, Vocabulary.take, Vocabulary.get_or, Vocabulary.Option, Vocabulary.Contains, Vocabulary.IfNone, Vocabulary.take_more, Vocabulary.Name, Vocabulary.IsInOrder, OrderedLaws.met_here, OrderedLaws.met_elsewhere, sorted_names.SortedNames.which_are_in.Goals.in-Some, sorted_names.SortedNames.which_are_in.Goals.in_default}
use Rattle.nmgc_barrier_checker.proofs.sorted_names.SortedNames.which_are_in.Goals as goal

pub loop-other-preserved : goal.loop-other-preserved
loop-other-preserved c =
    let other : Name = get_or c.args.others.now c.loop-other.other-index (record { maker = 0; serial = 0 }) in
    let so_far : List Name = take c.loop-other.other-index c.args.others.now in
    let o : IsInOrder c.args.self.now = subst IsInOrder c.self.view_is c.self.invariant in
    rw (take_more c.args.others.now c.loop-other.other-index (record { maker = 0; serial = 0 }) c.loop-other-test.true) (elim c.match-find.branch [
      | in-Some w ↦ rw w.met-is
          (met_here c.args.self.now so_far c.loop-other.met.items c.loop-other.invariant other w.in-Some.place o w.in-Some.ensures.some)
      | in_default w ↦ rw w.met-is
          (met_elsewhere c.args.self.now so_far c.loop-other.met.items c.loop-other.invariant other
          (let never = subst (λ (found : Option ℕ). IfNone found (Contains c.args.self.now other → ⊥)) w.in_default.is c.find.ensures.none in never))
    ])
