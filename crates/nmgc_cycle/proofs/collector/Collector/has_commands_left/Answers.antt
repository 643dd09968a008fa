use Rattle.nmgc_cycle.proofs.Vocabulary.{ℕ, ◌∙◌, List, length, ap, subst, ◌↔◌, IsTrue, SomeIsLeft}
use Rattle.nmgc_cycle.proofs.collector.Collector.has_commands_left.Goals as goal

pub are_commands_left-requires : goal.are_commands_left-requires
are_commands_left-requires c = ap (λ (l : List ℕ). length l) c.as_slice.ensures.value ∙ c.requires

pub returns : goal.returns
returns c =
    subst (λ (l : List ℕ). IsTrue c.are_commands_left.result ↔ SomeIsLeft c.args.script.now.threads l) c.as_slice.ensures.value c.are_commands_left.ensures
