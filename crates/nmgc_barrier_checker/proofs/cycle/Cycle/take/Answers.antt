use Rattle.nmgc_barrier_checker.proofs.{Vocabulary.◌∙◌, Vocabulary.refl, Vocabulary.sym, Vocabulary.joined, ListedLaws.joined_is, CycleLaws.with_taken, CycleLaws.took_then, CycleLaws.not_pushed}
use Rattle.nmgc_barrier_checker.proofs.cycle.Cycle.take.Goals as goal

pub returns-then-not-has : goal.returns-then-not-has
returns-then-not-has c = rw (← c.self.view_is) (
  refl,
  refl,
  not_pushed c.self.inside.world c.self.inside.snapshot c.self.inside.remembered c.self.inside.accounts c.self.inside.opened c.self.inside.taken
      c.self.inside.finalised c.self.invariant c.args.name (sym c.has.ensures ∙ c.if-not-has.true),
)

pub add-requires : goal.add-requires
add-requires c = c.self.invariant.taken.places

pub invariant_of-self-2 : goal.invariant_of-self-2
invariant_of-self-2 c =
    rw c.in_ok-add.ensures.ok (with_taken c.self.inside.world c.self.inside.snapshot c.self.inside.remembered c.self.inside.accounts
    c.self.inside.opened c.self.inside.taken c.self.inside.finalised c.self.invariant
    (joined c.self.inside.snapshot c.self.inside.taken c.args.name) (joined_is c.self.inside.snapshot c.self.inside.taken c.self.invariant.taken c.args.name))

pub returns : goal.returns
returns c = rw (
  ← c.self.view_is,
  c.in_ok-add.ensures.ok,
) (took_then c.self.inside.world c.self.inside.snapshot c.self.inside.remembered c.self.inside.accounts
    c.self.inside.opened c.self.inside.taken c.self.inside.finalised c.self.invariant c.args.name (sym c.has.ensures ∙ c.if-not-has.false))
