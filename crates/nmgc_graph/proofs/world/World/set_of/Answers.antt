use Rattle.nmgc_graph.proofs.{Vocabulary.take, Vocabulary.sym, Vocabulary.◌∙◌, Vocabulary.false≢true, Vocabulary.take_more, Vocabulary.Name, Vocabulary.copied_is_some, Kepts.set_more, Kepts.set_same, world.World.set_of.Goals.then-is_some, world.World.set_of.Goals.else-is_some}
use Rattle.nmgc_graph.proofs.world.World.set_of.Goals as goal

pub loop-name-preserved : goal.loop-name-preserved
loop-name-preserved c =
    let w = c.args.self.now in
    let names = c.args.names.now in
    let i = c.loop-name.name-index in
    let none : Name = record { maker = 0; serial = 0 } in
    let found = c.is_some.ensures ∙ copied_is_some c.node.result _ c.node.ensures in
    elim c.if-is_some.branch [
      | then-is_some b ↦ rw (
        b.marks-is,
        b.insert.ensures.marks,
        take_more names i none c.loop-name-test.true,
      ) (set_more w (take i names) c.loop-name.marks _ c.loop-name.invariant (sym found ∙ b.if-is_some.true))
      | else-is_some b ↦ rw (
        b.marks-is,
        take_more names i none c.loop-name-test.true,
      ) (set_same w (take i names) c.loop-name.marks _ c.loop-name.invariant (λ there.
          false≢true (sym b.if-is_some.false ∙ found ∙ there)))
    ]
