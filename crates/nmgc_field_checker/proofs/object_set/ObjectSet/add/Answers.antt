use Rattle.nmgc_field_checker.proofs.{Vocabulary.Bool, Vocabulary.List, Vocabulary.Objects, Vocabulary.[], Vocabulary.ap, Vocabulary.append-nil, Vocabulary.sym, Vocabulary.length, Vocabulary.subst, Vocabulary.◌++◌, Vocabulary.◌<◌, Vocabulary.◌∙◌, Vocabulary.◌∷◌, SetLaws.flags_added, SetLaws.lent_length, SetLaws.object_added}
use Rattle.nmgc_field_checker.proofs.object_set.ObjectSet.add.Goals as goal

pub invariant_of-self-2 : goal.invariant_of-self-2
invariant_of-self-2 c =
    let lt : c.args.object < length c.self.inside.flags = subst (λ (l : List Bool). c.args.object < length l) c.items.ensures c.if-object-items.false in
    flags_added c.self.inside.flags c.items_mut.result.now c.self.inside.objects c.push.new.self c.args.object lt c.items_mut.ensures.value
    c.in_ok-push.ensures.ok c.self.invariant

pub returns-clause-joins : goal.returns-clause-joins
returns-clause-joins c =
    let lt : c.args.object < length c.self.inside.flags = subst (λ (l : List Bool). c.args.object < length l) c.items.ensures c.if-object-items.false in
    rw (← c.self.view_is) (object_added c.self.inside.flags c.items_mut.result.now c.self.inside.objects c.push.new.self c.args.object lt
    c.items_mut.ensures.value c.in_ok-push.ensures.ok)

pub returns-clause-grows : goal.returns-clause-grows
returns-clause-grows c =
    (c.args.object ∷ [], c.in_ok-push.ensures.ok ∙ ap (λ (s : Objects). s.items ++ c.args.object ∷ []) c.self.view_is)

pub returns-clause-bound : goal.returns-clause-bound
returns-clause-bound c = rw (← c.self.view_is) (lent_length c.self.inside.flags c.items_mut.result.now c.args.object c.items_mut.ensures.value)

pub returns-in_err-push-clause-grows : goal.returns-in_err-push-clause-grows
returns-in_err-push-clause-grows c =
    ([], c.in_err-push.ensures.err ∙ ap (λ (s : Objects). s.items) c.self.view_is ∙ sym (append-nil c.args.self.now.items))
