use Rattle.nmgc_fin.proofs.Vocabulary.{◌≡◌, ◌<◌, ℕ, List, length, Some, Contains, slice_get, Job, IsPlaced}
use Rattle.nmgc_fin.proofs.order.names_in_order.Given as goal

-- the jobs of the lists so far are placed
abbrev pub invariant-loop-list : goal.invariant-loop-list
invariant-loop-list l = record {
  count : length l.names.items ≡ l.fn.count;
  placed : (k : ℕ) (xs : List Job) (x : Job) → k < l.list-index → slice_get l.fn.handled.by k ≡ Some xs → Contains xs x → IsPlaced l.names.items x;
}
