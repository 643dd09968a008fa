use Rattle.nmgc_script.proofs.{ScriptLaws.found, ScriptLaws.only, ScriptLaws.few, FaultLaws.reported}
use Rattle.nmgc_script.proofs.parsing.parse.Goals as goal

pub returns-clause-found : goal.returns-clause-found
returns-clause-found c = found c.args.bytes.now c.script.result c.script.ensures

pub returns-clause-only : goal.returns-clause-only
returns-clause-only c s h = only c.args.bytes.now c.script.result s h c.script.ensures

pub returns-clause-few : goal.returns-clause-few
returns-clause-few c = few c.args.bytes.now c.script.result c.script.ensures

pub returns-clause-reported : goal.returns-clause-reported
returns-clause-reported c = reported c.args.bytes.now c.script.result c.script.ensures
