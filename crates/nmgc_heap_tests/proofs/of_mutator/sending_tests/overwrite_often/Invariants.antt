use Rattle.nmgc_heap_tests.proofs.Vocabulary.{◌≡◌, ◌+◌, ◌≤◌, small_layout, IsReady}
use Rattle.nmgc_heap_tests.proofs.of_mutator.sending_tests.overwrite_often.Given as goal

-- the mutator is ready for the next store, and has room for the stores that are left
abbrev pub invariant-loop-number : goal.invariant-loop-number
invariant-loop-number l = record {
  ready : IsReady l.round l.seat l.mutator;
  layout : l.mutator.layout ≡ small_layout;
  serial : l.mutator.serial ≤ 16 + l.number;
  replies : 200 ≤ l.number + l.mutator.replies.spare;
  recorded : 200 ≤ l.number + l.mutator.recorded.spare;
  updrem : 200 ≤ l.number + l.mutator.updrem.spare;
  finalised : 200 ≤ l.number + l.mutator.finalised.spare;
}
