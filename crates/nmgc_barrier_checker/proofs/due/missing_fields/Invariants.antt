use Rattle.nmgc_barrier_checker.proofs.Vocabulary.{◌≡◌, take, not, filter, stands_in}
use Rattle.nmgc_barrier_checker.proofs.due.missing_fields.Given as goal

abbrev pub invariant-loop-field : goal.invariant-loop-field
invariant-loop-field l = l.gone ≡ filter (λ f. not (stands_in l.world f)) (take l.field-index l.fields)
