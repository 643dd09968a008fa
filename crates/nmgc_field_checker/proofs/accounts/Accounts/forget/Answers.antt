use Rattle.nmgc_field_checker.proofs.{Vocabulary.is_unpaid, Vocabulary.rules}
use Rattle.std.proofs.lemmas.Fn.{filter_same}
use Rattle.nmgc_field_checker.proofs.accounts.Accounts.forget.Goals as goal

pub returns-clause-debts : goal.returns-clause-debts
returns-clause-debts c = filter_same _ (is_unpaid c.args.roots.now.items c.args.remembered.now.items) _ (λ x b f' k. search rules) _ _ c.retain.ensures.filtered
