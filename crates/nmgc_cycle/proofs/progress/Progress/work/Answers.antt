use Rattle.nmgc_cycle.proofs.Vocabulary.{refl, subst, sym, Marking, HasHelped}
use Rattle.nmgc_cycle.specs.declared.progress.Progress.{Progress}
use Rattle.nmgc_cycle.specs.declared.progress.Progress.TheVariants as progress
use Rattle.nmgc_cycle.proofs.progress.Progress.work.Goals as goal

pub returns-in-Marking-clause-polled : goal.returns-in-Marking-clause-polled
returns-in-Marking-clause-polled g c = c.work-marking.ensures.polled

pub returns-in-Marking-clause-helped : goal.returns-in-Marking-clause-helped
returns-in-Marking-clause-helped g c =
    let n : Marking = record c.in-Marking.marking { marker = c.work-marking.new.self; last = c.work-marking.result } in
    let did = c.work-marking.ensures in
    subst (λ (q : Progress).
    HasHelped c.args.inputs.now.round.now c.args.inputs.now.config.now.quota c.args.seat.now c.work-marking.new.seat c.args.segments.now c.work-marking.new.segments
    c.args.names.now q (progress.Marking n)) (sym c.in-Marking.is) (
      n,
      refl,
      record { rest = refl; worked = did.worked; most = did.most; least = did.least; empty = did.empty; turns = did.turns },
    )
