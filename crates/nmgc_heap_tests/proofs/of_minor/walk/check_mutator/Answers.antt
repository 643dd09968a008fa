use Rattle.nmgc_heap_tests.proofs.Vocabulary.{ℕ, ◌≡◌, List, ◌<◌, ◌≤◌, ◌+◌, ◌*◌, length, slice_index, subst, ◌∙◌, Contains, get_or_default, Address, PointsWell}
use Rattle.nmgc_heap_tests.proofs.of_minor.walk.check_mutator.Goals as goal

-- a property at each index is a property of each contained word
each : (P : ℕ → Type 0) (xs ys : List ℕ) → xs ≡ ys → ((k : ℕ) → k < length xs → P (slice_index xs k)) → (y : ℕ) → Contains ys y → P y
each P xs ys same all y c =
    subst P (get_or_default ys c.0 0 y c.1 ∙ c.2) (subst (λ (l : List ℕ). (k : ℕ) → k < length l → P (slice_index l k)) same all c.0 c.1)

pub returns : goal.returns
returns g c = record {
  registers = each (PointsWell c.args.base c.args.sizes.now) c.items.result.now c.args.mutator.now.registers c.items.ensures c.check_words.ensures;
  queue = each (PointsWell c.args.base c.args.sizes.now) c.words.result.now c.args.mutator.now.queue.words c.words.ensures c.check_words-2.ensures;
  recorded = subst (λ (l : List Address). (at : Address) → Contains l at → at.0 < c.args.base) c.items-2.ensures c.check_recorded.ensures;
  weaks = subst (λ (l : List Address). (at : Address) → Contains l at → PointsWell c.args.base c.args.sizes.now (2 * at.0) ×
      (at.0 + 5 ≤ c.args.words)) c.items-3.ensures c.check_weaks.ensures;
}
