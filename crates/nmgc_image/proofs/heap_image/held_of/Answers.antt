use Rattle.nmgc_image.proofs.{Vocabulary.◌≡◌, Vocabulary.◌≢◌, Vocabulary.◌∙◌, Vocabulary.◌+◌, Vocabulary.List, Vocabulary.sym, Vocabulary.subst, Vocabulary.take, Vocabulary.get_or, Vocabulary.true, Vocabulary.false, Vocabulary.Held, Vocabulary.ListsHeld, Holding.held_nil, Holding.held_more, heap_image.held_of.Goals.then-not-is_nil+in_ok-push, heap_image.held_of.Goals.else-not-is_nil}
use Rattle.nmgc_world_spec.specs.declared.value.Value.TheVariants as value
use Rattle.nmgc_image.proofs.heap_image.held_of.Goals as goal

pub loop-register-preserved : goal.loop-register-preserved
loop-register-preserved c =
    elim c.if-not-is_nil.branch [
      | then-not-is_nil+in_ok-push w ↦
          let some : get_or c.args.registers.now c.loop-register.register value.Nil ≢ value.Nil = λ e.
          let t : c.is_nil.result ≡ true = c.is_nil.ensures.1 e in let f : c.is_nil.result ≡ false = w.if-not-is_nil.true in cc in
          subst (λ (l : List Held). ListsHeld (take (c.loop-register.register + 1) c.args.registers.now) l) (sym (w.held-is ∙
          w.in_ok-push.ensures.ok)) (held_more c.args.registers.now c.loop-register.register value.Nil c.loop-register-test.true
          c.loop-register.held c.loop-register.invariant some)
      | else-not-is_nil w ↦
          let none : get_or c.args.registers.now c.loop-register.register value.Nil ≡ value.Nil = c.is_nil.ensures.0 w.if-not-is_nil.false in
          subst (λ (l : List Held).
          ListsHeld (take (c.loop-register.register + 1) c.args.registers.now) l) (sym w.held-is)
          (held_nil c.args.registers.now c.loop-register.register value.Nil c.loop-register-test.true c.loop-register.held c.loop-register.invariant none)
    ]
