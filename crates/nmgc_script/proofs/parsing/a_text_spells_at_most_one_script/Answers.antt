use Rattle.nmgc_script.specs.Spelling.{kept_lines}
use Rattle.nmgc_script.specs.Parts.{end_of}
use Rattle.nmgc_script.proofs.{ScriptLaws.one_script, OneFault.one_fault, OneFault.never_both}
use Rattle.nmgc_script.proofs.parsing.a_text_spells_at_most_one_script.Goals as goal

pub returns-clause-script : goal.returns-clause-script
returns-clause-script c one other h k = one_script c.args.bytes.now one other h k

pub returns-clause-fault : goal.returns-clause-fault
returns-clause-fault c m n d e p q = one_fault (end_of c.args.bytes.now) (kept_lines c.args.bytes.now) m d n e p q

pub returns-clause-never_both : goal.returns-clause-never_both
returns-clause-never_both c one n d h t = never_both c.args.bytes.now one n d h t
