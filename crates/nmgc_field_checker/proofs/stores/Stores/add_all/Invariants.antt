use Rattle.nmgc_field_checker.proofs.{Vocabulary.AddsStores, Vocabulary.take, Vocabulary.◌≡◌}
use Rattle.nmgc_field_checker.proofs.stores.Stores.add_all.Given as goal

abbrev pub invariant-loop-object : goal.invariant-loop-object
invariant-loop-object l = record {
  adds : AddsStores l.line (take l.object-index l.objects) l.fn.self l.self;
  bound : l.self.bound ≡ l.fn.self.bound;
}
