use Rattle.nmgc_field_checker.proofs.Vocabulary.{Grows, Joins, take, ◌≡◌}
use Rattle.nmgc_field_checker.proofs.object_set.ObjectSet.extend.Given as goal

abbrev pub invariant-loop-object : goal.invariant-loop-object
invariant-loop-object l = record {
  joins : Joins l.fn.self (take l.object-index l.objects) l.self;
  bound : l.self.bound ≡ l.fn.self.bound;
  grows : Grows l.fn.self.items l.self.items;
}
