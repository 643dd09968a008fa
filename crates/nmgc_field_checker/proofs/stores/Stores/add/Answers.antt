use Rattle.nmgc_field_checker.proofs.{Vocabulary.FieldStore, Vocabulary.Stored, Vocabulary.length, Vocabulary.subst, Vocabulary.sym, Vocabulary.◌<◌, StoreLaws.store_added, StoreLaws.store_flags}
use Rattle.nmgc_field_checker.proofs.stores.Stores.add.Goals as goal

pub invariant_of-self-2 : goal.invariant_of-self-2
invariant_of-self-2 c =
    let lt : c.args.object < length c.self.inside.flags = subst (λ (s : Stored). c.args.object < s.bound) (sym c.self.view_is) c.requires in
    store_flags c.self.inside.flags c.items_mut.result.now c.self.inside.stores c.push.new.self (record { object = c.args.object; line = c.args.line }) lt
    c.items_mut.ensures.value c.in_ok-push.ensures.ok c.self.invariant

pub returns-clause-adds : goal.returns-clause-adds
returns-clause-adds c =
    let lt : c.args.object < length c.self.inside.flags = subst (λ (s : Stored). c.args.object < s.bound) (sym c.self.view_is) c.requires in
    rw (← c.self.view_is) (store_added c.self.inside.flags c.items_mut.result.now c.self.inside.stores c.push.new.self
    (record { object = c.args.object; line = c.args.line }) lt c.items_mut.ensures.value c.in_ok-push.ensures.ok)
