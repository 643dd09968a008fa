use Rattle.nmgc_barrier_checker.proofs.Vocabulary.{◌≡◌, take, filter}
use Rattle.nmgc_snapshot_laws.specs.Machine.{is_pushed_in}
use Rattle.nmgc_barrier_checker.proofs.due.owable_names.Given as goal

abbrev pub invariant-loop-name : goal.invariant-loop-name
invariant-loop-name l = l.owable.items ≡ filter (is_pushed_in l.snapshot) (take l.name-index l.names)
