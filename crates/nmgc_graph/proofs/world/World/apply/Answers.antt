use Rattle.nmgc_world_laws.specs.laws.Growth.{answer_grows}
use Rattle.nmgc_graph.proofs.world.World.apply.Goals as goal

pub returns-clause-grows : goal.returns-clause-grows
returns-clause-grows c =
    answer_grows c.args.self.now c.do_command-answer.new.self c.args.mutator c.args.command.now c.do_command-answer.result c.requires.mutator
    c.do_command-answer.ensures.step c.do_command-answer.ensures.err
