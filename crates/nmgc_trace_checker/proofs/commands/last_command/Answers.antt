use Rattle.nmgc_trace_checker.proofs.Vocabulary.{sym, subst, Command, IsLastIf, Some}
use Rattle.nmgc_trace_checker.proofs.commands.last_command.Goals as goal

pub returns-in_ok-unpack-in-Some : goal.returns-in_ok-unpack-in-Some
returns-in_ok-unpack-in-Some c = subst (λ (command : Command). IsLastIf c.args.script.threads (Some command)) (sym c.in_ok-unpack-in-Some.ensures) c.in-Some.ensures
