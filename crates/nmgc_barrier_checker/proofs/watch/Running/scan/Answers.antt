use Rattle.nmgc_barrier_checker.proofs.{Vocabulary.◌<◌, Vocabulary.ℕ, Vocabulary.sym, Vocabulary.subst, RunningLaws.scanned_in}
use Rattle.nmgc_barrier_checker.proofs.watch.Running.scan.Goals as goal

pub returns : goal.returns
returns c =
    scanned_in c.args.self.now c.self.inside.cycle.value c.self.inside.scans c.self.view_is c.deref_mut.result.now c.deref_mut.ensures.value
    c.args.mutator c.read_registers.new.self c.set_flag.new.flags
    (subst (λ (k : ℕ). c.args.mutator < k) c.mutators.ensures c.if-mutator-mutators.false) (sym c.if-is_scanned.ensures)
    c.in_ok-read_registers.ensures c.set_flag.ensures
