use Rattle.nmgc_barrier_checker.proofs.Vocabulary.{List, Name, sym, subst, take, take_more, take_all, nothing_in, IsUntakenIn}
use Rattle.nmgc_barrier_checker.proofs.cycle.first_untaken_in.Goals as goal

pub loop-name-init : goal.loop-name-init
loop-name-init c = λ name is. absurd (nothing_in name is)

pub loop-name-preserved : goal.loop-name-preserved
loop-name-preserved c =
    subst (λ (l : List Name). IsUntakenIn c.args.taken.now l c.earlier_untaken-first.result)
    (sym (take_more c.args.names.now c.loop-name.name-index (record { maker = 0; serial = 0 }) c.loop-name-test.true))
    (c.earlier_untaken-first.ensures (take c.loop-name.name-index c.args.names.now) c.loop-name.invariant)

pub returns : goal.returns
returns c = subst (λ (l : List Name). IsUntakenIn c.args.taken.now l c.loop-name.first)
    (take_all c.loop-name.name-index c.args.names.now c.loop-name-test.false) c.loop-name.invariant
