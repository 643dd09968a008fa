use Rattle.nmgc_field_checker.proofs.{EndLaws.debt_against, EndLaws.ending_is, EndLaws.store_against, EndLaws.unscanned_against}
use Rattle.nmgc_field_checker.proofs.cycle.FieldCycle.result_or_why.Goals as goal

pub returns-in-Some-clause-ending : goal.returns-in-Some-clause-ending
returns-in-Some-clause-ending c = unscanned_against c.args.self.now c.in-Some.number c.in-Some.ensures

pub returns-in-Some-first_debt-clause-ending : goal.returns-in-Some-first_debt-clause-ending
returns-in-Some-first_debt-clause-ending c = debt_against c.args.self.now c.in_default.ensures c.in-Some-first_debt.debt c.in-Some-first_debt.ensures.debt

pub returns-in-Some-first_unkept-clause-ending : goal.returns-in-Some-first_unkept-clause-ending
returns-in-Some-first_unkept-clause-ending c = store_against c.args.self.now c.in_default.ensures c.in_default-first_debt.ensures.debt c.first_debt.new.self c.first_debt.ensures.same c.in-Some-first_unkept.store c.in-Some-first_unkept.ensures

pub returns-clause-ending : goal.returns-clause-ending
returns-clause-ending c = ending_is c.args.self.now c.in_default.ensures c.in_default-first_debt.ensures.debt c.first_debt.new.self c.first_debt.ensures.same c.in_ok-left.left c.in_default-first_unkept.ensures c.in_ok-left.ensures
