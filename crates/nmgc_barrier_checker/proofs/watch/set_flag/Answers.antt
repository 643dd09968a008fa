use Rattle.nmgc_barrier_checker.proofs.{Vocabulary.◌≤◌, Vocabulary.List, Vocabulary.Bool, Vocabulary.length, Vocabulary.sym, Vocabulary.subst, Vocabulary.arith, RunningLaws.past_set}
use Rattle.nmgc_barrier_checker.proofs.watch.set_flag.Goals as goal

pub returns-then-place-items : goal.returns-then-place-items
returns-then-place-items c = sym (past_set c.args.flags.now c.args.mutator (subst (λ (l : List Bool). length l ≤ c.args.mutator) c.items.ensures (omega arith)))
