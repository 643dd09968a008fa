use Rattle.nmgc_pmark.proofs.Vocabulary.{◌≡◌, ◌++◌, into_iter_items, AreAllRead}
use Rattle.nmgc_pmark.proofs.claims.collect_lists.Given as goal

abbrev pub invariant-loop-names : goal.invariant-loop-names
invariant-loop-names l = record {
  all : l.yielded ++ into_iter_items l.names-iterator ≡ l.fn.read.items;
  each : AreAllRead l.yielded l.by;
}
