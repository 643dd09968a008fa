use Rattle.nmgc_cycle.proofs.Vocabulary.{◌≡◌, sym, ap, ◌∙◌, Doing, Sweeping, sweeper_in}
use Rattle.nmgc_cycle.specs.declared.progress.Progress.TheVariants as doing
use Rattle.nmgc_cycle.proofs.collector.Collector.is_swept.Goals as goal

pub returns-in-Sweeping : goal.returns-in-Sweeping
returns-in-Sweeping c =
    let here = c.in-Sweeping.sweeping in
    let same : (w : Sweeping) → c.args.self.now.cycle.progress ≡ doing.Sweeping w → here.sweeper.left ≡ w.sweeper.left = λ w is.
    ap (λ (p : Doing). (sweeper_in p).left) (sym c.in-Sweeping.is ∙ is) in (
      λ yes. (here, c.in-Sweeping.is, c.is_finished.ensures.0 yes),
      λ swept. c.is_finished.ensures.1 (same swept.0 swept.1 ∙ swept.2),
    )
