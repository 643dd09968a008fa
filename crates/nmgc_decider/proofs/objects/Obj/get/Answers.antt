use Rattle.nmgc_decider.specs.laws.Shapes.{field_given}
use Rattle.nmgc_decider.proofs.objects.Obj.get.Goals as goal

pub returns-clause-given : goal.returns-clause-given
returns-clause-given g c w m shaped = rw c.get.ensures.is (field_given g.S.Shape.TAG g.S.Shape.FIELDS w m c.args.dest c.args.self.register c.args.field shaped c.requires)
