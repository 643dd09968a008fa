use Rattle.nmgc_cycle.proofs.Vocabulary.{◌∷◌, ◌++◌, ◌∙◌, List, [], ap, sym, subst, append_assoc, All, All-cons, All-nil, All-append, All-head, All-tail, CycleRow, HasNamesOnce}
use Rattle.nmgc_cycle.proofs.ended_cycles.add_rows.Goals as goal

pub loop-row-preserved : goal.loop-row-preserved
loop-row-preserved c =
    let left : All HasNamesOnce (c.in-Some.row ∷ c.take_first.new.self) = subst (λ (l : List CycleRow). All HasNamesOnce l) c.in-Some.ensures.first c.loop-row.invariant.2 in (
      ap (λ (l : List CycleRow). l ++ c.take_first.new.self) c.in_ok-push.ensures.ok
          ∙ append_assoc c.loop-row.rows (c.in-Some.row ∷ []) c.take_first.new.self
          ∙ ap (λ (l : List CycleRow). c.loop-row.rows ++ l) (sym c.in-Some.ensures.first)
          ∙ c.loop-row.invariant.0,
      subst (λ (l : List CycleRow). All HasNamesOnce l) (sym c.in_ok-push.ensures.ok)
          (All-append HasNamesOnce c.loop-row.rows (c.in-Some.row ∷ []) c.loop-row.invariant.1
          (All-cons HasNamesOnce c.in-Some.row [] (All-head HasNamesOnce c.in-Some.row c.take_first.new.self left) (All-nil HasNamesOnce))),
      All-tail HasNamesOnce c.in-Some.row c.take_first.new.self left,
    )
