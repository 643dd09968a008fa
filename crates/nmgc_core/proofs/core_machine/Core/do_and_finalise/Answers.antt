use Rattle.nmgc_core.proofs.{Vocabulary.◌∙◌, Vocabulary.◌≡◌, Vocabulary.length, Vocabulary.ap, Vocabulary.State, CoreLaws.core_ended, CoreLaws.core_back, CoreLaws.front_taken}
use Rattle.nmgc_core.proofs.core_machine.Core.do_and_finalise.Goals as goal

pub invariant_of-self-2 : goal.invariant_of-self-2
invariant_of-self-2 c = core_ended c.self.inside.marks _ c.args.ends.now c.extend.new.self c.self.invariant c.in_ok-extend.ensures.ok

pub invariant_of-self-in-Err : goal.invariant_of-self-in-Err
invariant_of-self-in-Err c =
    let same = c.self-2.view_is ∙ c.in-Err.ensures.err in
    let grown : c.self-2.inside.finalised ≡ c.extend.new.self = ap (λ (s : State). s.finalised) same in
    core_back c.self.inside.marks c.self-2.inside.marks _ _ c.extend.new.self c.truncate.new.self c.self.invariant c.self-2.invariant same
    (front_taken c.self.inside.finalised c.self-2.inside.finalised c.truncate.new.self c.args.ends.now _ (grown ∙
    c.in_ok-extend.ensures.ok) (ap length c.items-before.ensures) c.truncate.ensures)
