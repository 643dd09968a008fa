use Rattle.std.proofs.Common.{◌∙◌, ap, subst}
use Rattle.nmgc_world_spec.specs.declared.node.Kind.{Kind}
use Rattle.nmgc_object.specs.Words.{HasTag}
use Rattle.nmgc_round.specs.laws.Tags.{tag_there}
use Rattle.nmgc_mutator.proofs.Vocabulary.{ℕ, List, Command, known_answer, tag_at, word_of, seen, part_of, hand_in}
use Rattle.nmgc_mutator.proofs.mutator.Mutator.tag.Goals as goal

pub give_number_in_order-requires-clause-reply : goal.give_number_in_order-requires-clause-reply
give_number_in_order-requires-clause-reply c =
    let v = seen c.object.new.seat in
    let f = c.in-Some.ensures.some in
    ap (λ (d : Command). known_answer (hand_in v) (part_of v).fixed d) c.requires.command ∙
    ap (λ (l : List ℕ). tag_at (part_of v).fixed (word_of l c.args.object)) c.object.ensures.ready.holds.registers ∙
    tag_there (part_of v).fixed (word_of c.args.self.now.registers c.args.object) c.in-Some.at.0 c.in-Some.header f.pointer f.is c.in-Con.is
    (subst (λ (k : Kind). HasTag k c.in-Some.header.tag) c.in-Con.is f.names.valid.0)
