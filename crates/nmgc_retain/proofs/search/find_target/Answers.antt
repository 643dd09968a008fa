use Rattle.std.proofs.Common.{not, ap, ◌∙◌}
use Rattle.nmgc_retain.proofs.Steps.{reach_old}
use Rattle.nmgc_retain.proofs.search.find_target.Goals as goal

pub returns-else-is_none : goal.returns-else-is_none
returns-else-is_none c =
    reach_old c.args.nodes.now c.args.value c.in-Ref.name c.args.new c.args.found.now c.args.last.now.items c.in-Some.at _ c.in-Ref.is
    c.requires.sized c.in-Some.ensures.some (c.is_none.ensures ∙ ap not c.if-is_none.false)
