use Rattle.nmgc_graph.proofs.{Vocabulary.sym, Vocabulary.◌∙◌, Vocabulary.IsWorld, Vocabulary.IsAliveWeak, Vocabulary.Name, Vocabulary.lists_more, Vocabulary.lists_same, Kepts.weak_some, Kepts.weak_none, Kepts.weaks_listed, world.World.list_weaks.Goals.then-is_some+in_ok-push, world.World.list_weaks.Goals.else-is_some}
use Rattle.nmgc_graph.proofs.world.World.list_weaks.Goals as goal

pub loop-serial-preserved : goal.loop-serial-preserved
loop-serial-preserved c =
    let w = c.args.self.now in
    let weak : Name = record { maker = c.args.maker; serial = c.loop-serial.serial } in
    elim c.if-is_some.branch [
      | then-is_some+in_ok-push b ↦
          rw (b.weaks-is, b.in_ok-push.ensures.ok) (lists_more (IsAliveWeak w) c.args.maker c.loop-serial.serial c.loop-serial.weaks
          (weak_some w weak c.parts.result c.parts.ensures.parts (sym c.is_some.ensures ∙ b.if-is_some.true)) c.loop-serial.invariant)
      | else-is_some b ↦
          rw b.weaks-is (lists_same (IsAliveWeak w) c.args.maker c.loop-serial.serial c.loop-serial.weaks
          (weak_none w weak c.parts.result c.parts.ensures.parts (sym c.is_some.ensures ∙ b.if-is_some.false)) c.loop-serial.invariant)
    ]

pub returns : goal.returns
returns c =
    let w = c.args.self.now in
    let h : IsWorld w = rw (← c.self.view_is) c.self.invariant in
    weaks_listed w h c.args.maker c.loop-serial.serial c.loop-serial.weaks (rw c.serial-serial-end.ensures at c.loop-serial-test.false) c.loop-serial.invariant
