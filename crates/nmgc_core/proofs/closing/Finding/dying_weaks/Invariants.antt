use Rattle.nmgc_core.proofs.Vocabulary.{◌≡◌, take, filter, parts_of, is_hidden}
use Rattle.nmgc_core.proofs.closing.Finding.dying_weaks.Given as goal

abbrev pub invariant-loop-weak : goal.invariant-loop-weak
invariant-loop-weak l = l.names ≡ filter (λ weak. is_hidden l.self.marks (parts_of l.core.snapshot weak)) (take l.weak-index l.weaks)
