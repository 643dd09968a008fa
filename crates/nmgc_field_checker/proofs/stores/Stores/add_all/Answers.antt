use Rattle.nmgc_field_checker.proofs.{Vocabulary.AddsStores, Vocabulary.List, Vocabulary.[], Vocabulary.get_or, Vocabulary.refl, Vocabulary.subst, Vocabulary.sym, Vocabulary.take, Vocabulary.take_all, Vocabulary.take_more, Vocabulary.ℕ, Vocabulary.◌+◌, Vocabulary.◌<◌, Vocabulary.◌∙◌, Vocabulary.◌∷◌, StoreLaws.stores_lists, StoreLaws.stores_none}
use Rattle.nmgc_field_checker.proofs.stores.Stores.add_all.Goals as goal

pub loop-object-init : goal.loop-object-init
loop-object-init c = record { adds = stores_none c.args.line c.args.self.now; bound = refl }

pub loop-object-preserved : goal.loop-object-preserved
loop-object-preserved c =
    let objects = c.args.objects.now in
    let i = c.loop-object.object-index in
    record {
      adds = subst (λ (l : List ℕ). AddsStores c.args.line l c.args.self.now c.add.new.self) (sym (take_more objects i 0 c.loop-object-test.true))
          (stores_lists c.args.line c.args.self.now c.loop-object.self c.add.new.self (take i objects) (get_or objects i 0 ∷ [])
          c.loop-object.invariant.adds c.in_ok-add.ensures.adds);
      bound = c.add.ensures.bound ∙ c.loop-object.invariant.bound;
    }

pub add-requires : goal.add-requires
add-requires c =
    subst (λ (b : ℕ). get_or c.args.objects.now c.loop-object.object-index 0 < b) (sym c.loop-object.invariant.bound)
    (c.requires c.loop-object.object-index 0 c.loop-object-test.true)

pub returns-clause-adds : goal.returns-clause-adds
returns-clause-adds c =
    subst (λ (l : List ℕ). AddsStores c.args.line l c.args.self.now c.loop-object.self)
    (take_all c.loop-object.object-index c.args.objects.now c.loop-object-test.false) c.loop-object.invariant.adds
