use Rattle.nmgc_object.proofs.{Vocabulary.ℕ, Vocabulary.List, Vocabulary.drop, Vocabulary.sym, Vocabulary.subst, Vocabulary.arith, Vocabulary.HavePointersUpTo, Pointers.added_up_to}
use Rattle.nmgc_object.proofs.fin_queue.FinQueue.add.Goals as goal

pub invariant_of-self : goal.invariant_of-self
invariant_of-self c =
    let q = c.self.inside in
    let inv = c.self.invariant in
    let len = c.push_reserved.ensures.len in (
      omega (arith, inv.0, len),
      subst (λ (l : List ℕ). HavePointersUpTo (drop q.first l) c.bound_with-self-inside.result) (sym c.push_reserved.ensures.items)
          (added_up_to q.words.items q.first c.args.word q.highest c.bound_with-self-inside.result (grind (arith, inv.0)) inv.1 c.bound_with-self-inside.ensures.kept c.bound_with-self-inside.ensures.pointer),
    )
