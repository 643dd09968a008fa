use Rattle.std.proofs.Common.{rules, sym, ◌∙◌}
use Rattle.nmgc_core.proofs.Findings.{name_pushed}
use Rattle.nmgc_core.proofs.closing.Finding.mark.Goals as goal

pub returns : goal.returns
returns c = name_pushed c.args.snapshot.now c.args.self.now c.insert.new.self c.push.new.self c.args.name c.push.result c.requires (search rules)
    (sym c.contains.ensures ∙ c.if-contains.false) c.insert.ensures.marks c.push.ensures.ok
