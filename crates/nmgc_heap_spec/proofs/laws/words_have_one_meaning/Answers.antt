use Rattle.nmgc_heap_spec.proofs.Vocabulary.{one_at, above_zero, one_value, value_is_set, Contains, inl}
use Rattle.nmgc_heap_spec.proofs.laws.words_have_one_meaning.Goals as goal

pub returns : goal.returns
returns g c = record {
  place = λ layout earlier places w words r p q a b e. r.one p q a b (inl e);
  word = λ layout earlier places w words r word u v a b.
      one_value (Contains places) (one_at layout earlier g.K.KnownNodes.knows places w words r)
      (above_zero layout earlier g.K.KnownNodes.knows places w words r) word u v a b;
  set = λ layout earlier places w words r word v a z.
      value_is_set (Contains places) (one_at layout earlier g.K.KnownNodes.knows places w words r)
      (above_zero layout earlier g.K.KnownNodes.knows places w words r) word v a z;
}
