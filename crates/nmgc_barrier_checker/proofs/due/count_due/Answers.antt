use Rattle.nmgc_barrier_checker.proofs.Vocabulary.{◌∙◌, length, ap, subst, filter, List, Name}
use Rattle.std.specs.List.Sorted.{IsPermutation}
use Rattle.nmgc_snapshot_laws.specs.Machine.{is_pushed_in}
use Rattle.nmgc_barrier_checker.specs.Dues.{once}
use Rattle.nmgc_barrier_checker.proofs.Counting.{counted}
use Rattle.nmgc_barrier_checker.proofs.due.count_due.Goals as goal

pub returns : goal.returns
returns c =
    counted (filter (is_pushed_in c.args.snapshot.now) c.args.names.now) c.put_in_order-owable.result.items c.count_sorted.result
    (subst (λ (l : List Name). IsPermutation l c.put_in_order-owable.result.items) c.in_ok-owable_names.ensures c.put_in_order-owable.ensures.permutation)
    c.put_in_order-owable.ensures.sorted (c.count_sorted.ensures ∙ ap (λ (l : List Name). length (once l)) c.as_slice.ensures.value)
