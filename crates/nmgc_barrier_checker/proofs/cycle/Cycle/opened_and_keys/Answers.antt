use Rattle.std.proofs.Common.{◌∙◌, refl}
use Rattle.nmgc_barrier_checker.proofs.{ClosingLaws.found_with, CycleLaws.seen}
use Rattle.nmgc_barrier_checker.proofs.cycle.Cycle.opened_and_keys.Goals as goal

-- the keys were looked for among all weak pointers that are alive
pub returns : goal.returns
returns c = rw (← c.self.view_is) (found_with (seen c.self.inside.world c.self.inside.snapshot c.self.inside.remembered c.self.inside.accounts
    c.self.inside.opened c.self.inside.taken c.self.inside.finalised) c.args.dead.now c.in_ok-weaks.weaks c.in_ok-dying.dying c.in_ok-ended.ended
    c.in_ok-weaks.ensures c.in_ok-dying.ensures (rw c.items.ensures at c.in_ok-ended.ensures) _ (c.in_ok-names.ensures ∙ rw (
      c.items-4.ensures,
      c.as_slice.ensures.value,
      c.in_ok-keys.ensures,
      c.items-3.ensures,
      c.in_ok-living.ensures,
      c.items-2.ensures,
    ) refl))
