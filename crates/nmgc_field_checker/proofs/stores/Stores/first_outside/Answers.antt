use Rattle.nmgc_field_checker.proofs.{Vocabulary.Contains, Vocabulary.FieldStore, Vocabulary.IsEarliestIf, Vocabulary.List, Vocabulary.Option, Vocabulary.Stored, Vocabulary.ap, Vocabulary.never, Vocabulary.refl, Vocabulary.store_line, Vocabulary.subst, Vocabulary.sym, Vocabulary.take, Vocabulary.take_all, Vocabulary.ℕ, Vocabulary.◌+◌, Vocabulary.◌∙◌, EarliestLaws.Among, EarliestLaws.earliest_none, EarliestLaws.earliest_skip, EarliestLaws.earliest_take}
use Rattle.nmgc_field_checker.proofs.stores.Stores.first_outside.Goals.{else-not-has, then-not-has}
use Rattle.nmgc_field_checker.proofs.stores.Stores.first_outside.Goals as goal

pub loop-store-init : goal.loop-store-init
loop-store-init c = earliest_none store_line (λ (s : FieldStore). Contains c.args.kept.now.items s.object → ⊥)

pub loop-store-preserved : goal.loop-store-preserved
loop-store-preserved c =
    let stores = c.items-store-items.result.now in
    let i = c.loop-store.store-index in
    elim c.if-not-has.branch [
      | then-not-has w ↦ subst (λ (o : Option FieldStore). IsEarliestIf store_line (Among (λ (s : FieldStore). Contains c.args.kept.now.items s.object → ⊥) (take (i + 1) stores)) o) (sym w.least-is)
          (earliest_take store_line (λ (s : FieldStore). Contains c.args.kept.now.items s.object → ⊥) stores i (record { object = 0; line = 0 }) c.loop-store.least w.earlier.result c.loop-store-test.true c.loop-store.invariant
          (λ k. never (w.if-not-has.ensures.contains.1 k)) w.earlier.ensures)
      | else-not-has w ↦ subst (λ (o : Option FieldStore). IsEarliestIf store_line (Among (λ (s : FieldStore). Contains c.args.kept.now.items s.object → ⊥) (take (i + 1) stores)) o) (sym w.least-is)
          (earliest_skip store_line (λ (s : FieldStore). Contains c.args.kept.now.items s.object → ⊥) stores i (record { object = 0; line = 0 }) c.loop-store.least c.loop-store-test.true c.loop-store.invariant
          (λ outside. outside (w.if-not-has.ensures.contains.0 refl)))
    ]

pub returns : goal.returns
returns c =
    subst (λ (l : List FieldStore). IsEarliestIf store_line (Among (λ (s : FieldStore). Contains c.args.kept.now.items s.object → ⊥) l) c.loop-store.least)
    (take_all c.loop-store.store-index c.items-store-items.result.now c.loop-store-test.false ∙ c.items-store-items.ensures ∙
    ap (λ (s : Stored). s.items) c.self.view_is) c.loop-store.invariant
