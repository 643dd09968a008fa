use Rattle.nmgc_core.proofs.Vocabulary.{◌≡◌, take, not, filter, mark_of}
use Rattle.nmgc_core.proofs.closing.waiting_weaks.Given as goal

abbrev pub invariant-loop-weak : goal.invariant-loop-weak
invariant-loop-weak l = l.weaks ≡ filter (λ weak. not (mark_of l.ended-inside.rows weak)) (take l.weak-index l.weak-items)
