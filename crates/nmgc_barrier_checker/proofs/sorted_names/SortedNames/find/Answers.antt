use Rattle.nmgc_barrier_checker.proofs.{Vocabulary.◌≡◌, Vocabulary.◌∙◌, Vocabulary.List, Vocabulary.sym, Vocabulary.subst, Vocabulary.ap, Vocabulary.arith, Vocabulary.get_or, Vocabulary.Contains, Vocabulary.false≢true, Vocabulary.get_or_default, Vocabulary.Name, Vocabulary.is_same_name, Vocabulary.IsInOrder, Vocabulary.is_same_name-refl, Vocabulary.StandsAt, OrderedLaws.not_there, sorted_names.SortedNames.find.Goals.else-place-names-via-then-place-names+else-eq, sorted_names.SortedNames.find.Goals.else-place-names-via-else-place-names}
use Rattle.nmgc_barrier_checker.proofs.sorted_names.SortedNames.find.Goals as goal

pub returns-clause-none : goal.returns-clause-none
returns-clause-none c has =
    let e : c.args.self.now ≡ c.items-names.result.now = sym (c.items-names.ensures ∙ c.self.view_is) in
    let o : IsInOrder c.items-names.result.now = subst IsInOrder (sym c.items-names.ensures) c.self.invariant in
    let here : StandsAt c.items-names.result.now c.place_of-place.result c.args.name → ⊥ = elim c.else-place-names.branch [
      | else-place-names-via-then-place-names+else-eq w ↦ λ s.
          let there : get_or c.items-names.result.now c.place_of-place.result (record { maker = 0; serial = 0 }) ≡ c.args.name =
          get_or_default c.items-names.result.now c.place_of-place.result (record { maker = 0; serial = 0 }) c.args.name s.0 ∙ s.1 in
          false≢true (sym w.if-eq.false ∙ w.eq.ensures ∙ ap (λ (n : Name). is_same_name n c.args.name) there ∙ is_same_name-refl c.args.name)
      | else-place-names-via-else-place-names w ↦ λ s. omega (arith, w.if-place-names.false, s.0)
    ] in
    not_there c.items-names.result.now c.args.name c.place_of-place.result o c.place_of-place.ensures here
    (subst (λ (l : List Name). Contains l c.args.name) e has)
