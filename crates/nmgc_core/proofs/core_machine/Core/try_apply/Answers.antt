use Rattle.std.proofs.Common.{◌∙◌, refl}
use Rattle.nmgc_core.proofs.core_machine.Core.try_apply.Goals as goal

pub returns-clause-done : goal.returns-clause-done
returns-clause-done c =
    let names = c.as_slice.ensures.value ∙ c.in_ok-names.ensures in
    let opens = c.as_slice-2.ensures.value ∙ c.in_ok-opens.ensures in
    let ends = c.as_slice-3.ensures.value ∙ c.in_ok-ends.ensures in
    rw (← c.self.view_is) (
      (rw (← c.self.view_is) at c.requires, c.can_apply.ensures.0 c.if-not-can_apply.false, c.is_answer.ensures.0 c.if-not-is_answer.false),
      (rw (← c.self.view_is) at c.in_ok-do_command.ensures.ok) ∙ rw (names, opens, ends) refl,
    )
