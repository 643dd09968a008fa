use Rattle.nmgc_barrier_checker.proofs.{Vocabulary.◌≡◌, Vocabulary.refl, Vocabulary.subst, Vocabulary.Value, CycleLaws.seen, Hands.counts_given, Hands.given_then}
use Rattle.nmgc_world_spec.specs.World.{with_register}
use Rattle.nmgc_barrier_checker.specs.Cycles.{with_scans}
use Rattle.nmgc_barrier_checker.proofs.cycle.Cycle.hand.Goals as goal

pub returns-clause-dues : goal.returns-clause-dues
returns-clause-dues c =
    rw (← c.self.view_is) (
      c.in_ok-came.came,
      counts_given (with_scans c.args.scans.now (seen c.self.inside.world c.self.inside.snapshot c.self.inside.remembered c.self.inside.accounts
          c.self.inside.opened c.self.inside.taken c.self.inside.finalised)) c.args.hand.giver c.args.hand.value c.args.hand.taker
          c.as_slice.result.now c.in_ok-came.came
          (rw (c.as_slice.ensures.value, c.in_ok-names.ensures, c.is_set-seen.ensures, c.is_set.ensures, c.value-value.ensures.value) refl)
          c.in_ok-came.ensures,
      c.saturating_add.ensures,
    )

pub returns-clause-given : goal.returns-clause-given
returns-clause-given c =
    rw (← c.self.view_is)
    (given_then c.args.scans.now c.args.line c.args.hand (seen c.self.inside.world c.self.inside.snapshot c.self.inside.remembered c.self.inside.accounts
    c.self.inside.opened c.self.inside.taken c.self.inside.finalised) c.owe_names.new.self c.as_slice-2.result.now (rw (← c.self.view_is) at c.requires)
    (rw (c.as_slice-2.ensures.value, c.in_ok-names.ensures, c.is_set-seen.ensures, c.is_set.ensures, c.value-value.ensures.value) refl)
    (rw (← c.self.view_is) at c.in_ok-owe_names.ensures) c.set_register.new.self
    (subst (λ (v : Value). c.set_register.new.self ≡ record c.owe_names.new.self { world = with_register c.owe_names.new.self.world c.args.hand.taker c.args.hand.dest v })
    c.value-value.ensures.value c.set_register.ensures))
