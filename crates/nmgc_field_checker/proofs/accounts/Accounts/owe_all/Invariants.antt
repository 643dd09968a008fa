use Rattle.nmgc_field_checker.proofs.{Vocabulary.AreAccounts, Vocabulary.IsHad, Vocabulary.OwesAll, Vocabulary.length, Vocabulary.take, Vocabulary.◌≡◌}
use Rattle.nmgc_field_checker.proofs.accounts.Accounts.owe_all.Given as goal

abbrev pub invariant-loop-object : goal.invariant-loop-object
invariant-loop-object l = OwesAll (IsHad l.roots.items l.remembered.items) l.line l.number (take l.object-index l.objects) l.fn.self l.self
