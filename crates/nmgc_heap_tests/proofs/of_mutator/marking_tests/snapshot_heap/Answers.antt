use Rattle.std.proofs.Common.{◌∙◌, ap, List, ℕ, ◌++◌}
use Rattle.nmgc_heap_tests.proofs.Sampled.{snapshot_words}
use Rattle.nmgc_heap_tests.proofs.of_mutator.marking_tests.snapshot_heap.Goals as goal

pub returns : goal.returns
returns c =
    let objects : List ℕ = c.as_slice.result.now in
    let rest : List ℕ = c.as_slice-2.result.now in
    let first = c.in_ok-extend_from_slice.ensures.items ∙ ap (λ (l : List ℕ). l ++ objects) c.new-words.ensures.items in
    let both = c.in_ok-extend_from_slice-2.ensures.items ∙ ap (λ (l : List ℕ). l ++ rest) first in
    snapshot_words objects rest c.in_ok-heap.heap c.as_slice.ensures (c.as_slice-2.ensures.len ∙ c.in_ok-rest.ensures.len) (c.in_ok-heap.ensures ∙
    c.as_slice-3.ensures.value ∙ both)
