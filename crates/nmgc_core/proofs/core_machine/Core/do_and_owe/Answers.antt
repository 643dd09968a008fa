use Rattle.nmgc_core.proofs.CoreLaws.{command_undone, core_given}
use Rattle.nmgc_core.proofs.core_machine.Core.do_and_owe.Goals as goal

pub returns-in-Err-clause-err : goal.returns-in-Err-clause-err
returns-in-Err-clause-err c =
    rw (← c.self.view_is) (command_undone _ c.apply.new.self c.extend_at.new.lists c.truncate_at.new.lists c.args.mutator c.args.names.now
    c.count_at-before.result
    (rw c.self.invariant.owed (rw (← c.self.view_is) at c.requires.can).mutator) c.in-Err.ensures.err c.in_ok-extend_at.ensures.ok
    (rw c.items.ensures at c.count_at-before.ensures) c.truncate_at.ensures)

pub invariant_of-self-in_default : goal.invariant_of-self-in_default
invariant_of-self-in_default c =
    core_given c.self.inside.marks _ c.args.mutator c.args.command.now c.in_default.field-0 c.apply.new.self c.extend_at.new.lists c.args.names.now
    c.self.invariant
    (rw (← c.self.view_is) at c.requires.can) c.in_default.ensures.step c.in_default.ensures.closed (rw (← c.self.view_is) at c.requires.ended)
    c.in_ok-extend_at.ensures.ok
