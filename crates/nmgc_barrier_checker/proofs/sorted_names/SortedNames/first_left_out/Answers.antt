use Rattle.nmgc_barrier_checker.proofs.{Vocabulary.◌∙◌, Vocabulary.◌≡◌, Vocabulary.List, Vocabulary.Name, Vocabulary.sym, Vocabulary.subst, Vocabulary.AreMet, OrderedLaws.left_first}
use Rattle.nmgc_barrier_checker.proofs.sorted_names.SortedNames.first_left_out.Goals as goal

pub returns-then-not-index : goal.returns-then-not-index
returns-then-not-index c =
    let is : c.items-names.result.now ≡ c.args.self.now = c.items-names.ensures ∙ c.self.view_is in
    rw (← is) (left_first c.items-names.result.now c.args.others.now c.in_ok-met.met.items c.loop-place.place (record { maker = 0; serial = 0 }) _
    (subst (λ (l : List Name). AreMet l c.args.others.now c.in_ok-met.met.items) (sym is) c.in_ok-met.ensures) c.loop-place.invariant c.loop-place-test.true
    (sym c.index.ensures ∙ c.if-not-index.true))
