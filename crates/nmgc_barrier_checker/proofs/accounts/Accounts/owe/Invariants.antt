use Rattle.std.proofs.Common.{take}
use Rattle.nmgc_barrier_checker.proofs.AccountLaws.{Owed}
use Rattle.nmgc_barrier_checker.proofs.accounts.Accounts.owe.Given as goal

abbrev pub invariant-loop-name : goal.invariant-loop-name
invariant-loop-name l = Owed l.snapshot l.marks l.line l.mutator (take l.name-index l.names) l.fn.self l.self
