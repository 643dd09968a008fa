use Rattle.nmgc_cycle.proofs.Vocabulary.{◌≡◌, ◌↔◌, List, IsTrue, Some, slice_get, subst, SomeGives, CommandQueue}
use Rattle.nmgc_cycle.specs.Sessions.{next_in}
use Rattle.nmgc_cycle.proofs.session.Session.are_commands_left.Goals as goal

pub is_some_left-requires-after_bounds : goal.is_some_left-requires-after_bounds
is_some_left-requires-after_bounds c κs = λ k q e. c.requires k q (subst (λ (l : List CommandQueue). slice_get l k ≡ Some q) c.as_slice.ensures.value e)

pub returns-clause-closed : goal.returns-clause-closed
returns-clause-closed c = λ closed. subst (λ (l : List CommandQueue). IsTrue c.is_some_left.result ↔ SomeGives next_in l) c.as_slice.ensures.value c.is_some_left.ensures
