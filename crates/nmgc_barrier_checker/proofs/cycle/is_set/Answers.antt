use Rattle.nmgc_barrier_checker.proofs.{Vocabulary.arith, RunningLaws.past_flag}
use Rattle.nmgc_barrier_checker.proofs.cycle.is_set.Goals as goal

pub returns-then-place-flags : goal.returns-then-place-flags
returns-then-place-flags c = past_flag c.args.flags.now c.args.mutator (omega arith)
