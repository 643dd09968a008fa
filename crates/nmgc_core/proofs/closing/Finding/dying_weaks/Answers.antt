use Rattle.std.proofs.lemmas.List.{take_all}
use Rattle.nmgc_core.proofs.Waiting.{dying_listed}
use Rattle.nmgc_core.proofs.closing.Finding.dying_weaks.Goals as goal

pub returns : goal.returns
returns c = rw (
  c.loop-weak.invariant,
  take_all c.loop-weak.weak-index c.args.weaks.now c.loop-weak-test.false,
)
    (dying_listed c.args.core.now c.args.self.now c.requires.found c.args.weaks.now c.requires.waiting)
