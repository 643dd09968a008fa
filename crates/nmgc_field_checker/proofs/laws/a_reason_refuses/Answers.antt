use Rattle.nmgc_field_checker.proofs.RefusalLaws.{reasons_refuse}
use Rattle.nmgc_field_checker.proofs.laws.a_reason_refuses.Goals as goal

pub returns : goal.returns
returns c = reasons_refuse
