use Rattle.nmgc_barrier_checker.proofs.{Vocabulary.◌∙◌, Vocabulary.◌<◌, Vocabulary.Value, Vocabulary.put, Vocabulary.ℕ, Vocabulary.List, Vocabulary.get_or, Vocabulary.take, Vocabulary.ap, Vocabulary.sym, Vocabulary.subst, Vocabulary.take_all, Vocabulary.take_more, Vocabulary.Watch, Vocabulary.AreKnownIn, Vocabulary.IsKnownIn, Vocabulary.mutators_of, Vocabulary.put_back, Borrowed.back_count, Borrowed.back_known, Borrowed.back_more, Borrowed.item_known}
use Rattle.nmgc_world_spec.specs.declared.value.Value.TheVariants as value
use Rattle.nmgc_barrier_checker.proofs.watch.Watch.put_back.Goals as goal

pub put-requires-clause-mutator : goal.put-requires-clause-mutator
put-requires-clause-mutator c =
    subst (λ (n : ℕ). c.args.mutator < n)
    (sym (ap mutators_of c.loop-register.invariant ∙
    back_count c.args.mutator c.args.held.now (take c.loop-register.register-index c.args.borrowed.now) c.args.self.now)) c.requires.mutator

pub put-requires-clause-known : goal.put-requires-clause-known
put-requires-clause-known c =
    subst (IsKnownIn c.loop-register.self) (sym c.held_value.ensures)
    (item_known c.loop-register.self c.args.held.now (get_or c.args.borrowed.now c.loop-register.register-index 0)
    (subst (λ (q : Watch). AreKnownIn q c.args.held.now) (sym c.loop-register.invariant)
    (back_known c.args.mutator c.args.held.now (take c.loop-register.register-index c.args.borrowed.now) c.args.self.now c.args.held.now
    c.requires.mutator c.requires.known)))

pub loop-register-preserved : goal.loop-register-preserved
loop-register-preserved c =
    let now : ℕ = get_or c.args.borrowed.now c.loop-register.register-index 0 in
    let first : List ℕ = take c.loop-register.register-index c.args.borrowed.now in
    let one = take_more c.args.borrowed.now c.loop-register.register-index 0 c.loop-register-test.true in
    c.put.ensures ∙ (ap (λ (v : Value). put c.args.mutator now v c.loop-register.self) c.held_value.ensures ∙
    (ap (put c.args.mutator now (get_or c.args.held.now now value.Nil)) c.loop-register.invariant ∙
    (sym (back_more c.args.mutator c.args.held.now first now c.args.self.now) ∙
    ap (λ (l : List ℕ). put_back c.args.mutator c.args.held.now l c.args.self.now) (sym one))))

pub returns : goal.returns
returns c =
    c.loop-register.invariant ∙ ap (λ (l : List ℕ). put_back c.args.mutator c.args.held.now l c.args.self.now)
    (take_all c.loop-register.register-index c.args.borrowed.now c.loop-register-test.false)
