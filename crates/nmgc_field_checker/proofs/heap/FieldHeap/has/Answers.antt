use Rattle.nmgc_field_checker.specs.laws.Heaps.{has_object, object_has}
use Rattle.nmgc_field_checker.proofs.Vocabulary.{Decides-ltb, List, Option, length, subst, sym, ℕ, ◌<◌}
use Rattle.nmgc_field_checker.proofs.heap.FieldHeap.has.Goals as goal

pub returns : goal.returns
returns c =
    let objects = c.self.inside.objects in
    let d = Decides-ltb c.args.object (length c.items.result.now) in
    rw (← c.self.view_is) (
      λ t. has_object objects c.args.object (subst (λ (l : List (List (Option ℕ))). c.args.object < length l) c.items.ensures (d.0 t)),
      λ h. d.1 (subst (λ (l : List (List (Option ℕ))). c.args.object < length l) (sym c.items.ensures) (object_has objects c.args.object h)),
    )
