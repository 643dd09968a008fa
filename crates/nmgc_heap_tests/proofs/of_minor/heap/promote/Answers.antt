use Rattle.nmgc_heap_tests.proofs.{Vocabulary.ℕ, Vocabulary.◌≡◌, Vocabulary.List, Vocabulary.◌+◌, Vocabulary.◌*◌, Vocabulary.◌<◌, Vocabulary.◌≤◌, Vocabulary.length, Vocabulary.map, Vocabulary.slice_index, Vocabulary.inl, Vocabulary.sym, Vocabulary.subst, Vocabulary.ap, Vocabulary.◌∙◌, Vocabulary.Contains, Vocabulary.flat_map, Vocabulary.FinQueue, Vocabulary.Nursery, Vocabulary.Address, Vocabulary.begins, Vocabulary.map_contains, Vocabulary.flat_contains, Vocabulary.Inputs, Vocabulary.inputs_by, Vocabulary.words_of, Vocabulary.places_of, Vocabulary.Mutator, Vocabulary.nurseries_of, Vocabulary.PointsWell, Vocabulary.PointsWellAll, Vocabulary.AreParts, Vocabulary.AreMade, Vocabulary.IsChecked, CheckedLaws.checked_can}
use Rattle.nmgc_heap_tests.proofs.of_minor.heap.promote.Goals as goal

-- lists over all mutators, from the lists of each mutator
abbrev registers : Mutator → List ℕ
registers m = m.registers

abbrev queue : Mutator → FinQueue
queue m = m.queue

abbrev recorded : Mutator → List Address
recorded m = m.recorded.items

abbrev weaks : Mutator → List Address
weaks m = m.young_weaks.items

module _ (base : ℕ) (sizes : List ℕ) (words : ℕ) (ms : List Mutator)
    (all : (m : Mutator) → Contains ms m → PointsWellAll base sizes words m) where
  all_registers : (word : ℕ) → Contains (flat_map registers ms) word → PointsWell base sizes word
  all_registers word c = let k = flat_contains registers ms word c in (all k.0 k.1).registers word k.2

  all_queues : (own : List ℕ) (word : ℕ) → Contains (words_of (map queue ms)) own → Contains own word → PointsWell base sizes word
  all_queues own word c d =
      let q = map_contains (λ (x : FinQueue). x.words) (map queue ms) own c in
      let m = map_contains queue ms q.0 q.1 in
      let is : own ≡ (queue m.0).words = q.2 ∙ ap (λ (x : FinQueue). x.words) m.2 in
      (all m.0 m.1).queue word (subst (λ (l : List ℕ). Contains l word) is d)

  all_recorded : (at : ℕ) → Contains (places_of (flat_map recorded ms)) at → at < base
  all_recorded at c =
      let a = map_contains (λ (x : Address). x.0) (flat_map recorded ms) at c in
      let m = flat_contains recorded ms a.0 a.1 in
      subst (λ (n : ℕ). n < base) (sym a.2) ((all m.0 m.1).recorded a.0 m.2)

  all_weaks : (at : ℕ) → Contains (places_of (flat_map weaks ms)) at → PointsWell base sizes (2 * at) × (at + 5 ≤ words)
  all_weaks at c =
      let a = map_contains (λ (x : Address). x.0) (flat_map weaks ms) at c in
      let m = flat_contains weaks ms a.0 a.1 in
      subst (λ (n : ℕ). PointsWell base sizes (2 * n) × (n + 5 ≤ words)) (sym a.2) ((all m.0 m.1).weaks a.0 m.2)

pub run_passes-requires-clause-can : goal.run_passes-requires-clause-can
run_passes-requires-clause-can g c =
    let layout = c.layout-layout.result in
    let base = c.nursery_base-base.result in
    let s = c.heap.inside.0.1.1.1.0 in
    let words = c.heap.inside.0.1.0 in
    let sizes = c.as_slice-sizes.result.now in
    let ms : List Mutator = c.items_mut-2.result.now in
    let inputs : Inputs = inputs_by registers queue recorded weaks ms in
    let nurseries : List Nursery = nurseries_of ms in
    let same_words = c.items-words.ensures in
    let own = c.items_mut-2.ensures.value in
    let parts : c.as_slice.result.now ≡ nurseries = c.as_slice.ensures.value ∙ c.in_ok-nurseries.ensures ∙ ap nurseries_of (c.items.ensures ∙ sym own) in
    let made : c.as_slice-2.result.now ≡ nurseries = c.as_slice-2.ensures.value ∙ c.in_ok-nurseries.ensures ∙ ap nurseries_of (c.items.ensures ∙ sym own) in
    let all : (m : Mutator) → Contains ms m → PointsWellAll base sizes (length words) m =
    subst (λ (y : List Mutator × List ℕ). (m : Mutator) → Contains y.0 m → PointsWellAll base sizes (length y.1) m) (λ i. (
      (c.items-2.ensures ∙ sym own) i,
      same_words i,
    )) c.check_mutators.ensures in
    let walked : IsChecked layout base words sizes nurseries inputs = record {
      begins = c.nursery_base-base.ensures;
      size = c.check_lengths.ensures.size;
      long = subst (λ (ws : List ℕ). base + layout.mutators * layout.nursery ≤ length ws) same_words c.check_lengths.ensures.long;
      parts = subst (λ (ns : List Nursery). AreParts layout ns) parts c.check_nurseries.ensures;
      objects = subst (λ (ns : List Nursery). AreMade layout base words sizes ns (length sizes)) made (subst (λ (ws : List ℕ).
          AreMade layout base ws sizes c.as_slice-2.result.now (length sizes)) same_words c.check_objects.ensures);
      words_point = subst (λ (ws : List ℕ). (k : ℕ) → k < length ws → PointsWell base sizes (slice_index ws k)) same_words c.check_words.ensures;
      registers = all_registers base sizes (length words) ms all;
      queues = all_queues base sizes (length words) ms all;
      recorded = all_recorded base sizes (length words) ms all;
      weaks = all_weaks base sizes (length words) ms all;
    } in
    checked_can layout base words sizes nurseries inputs walked s c.layout-layout.ensures.sound (sym c.layout-layout.ensures.layout)
    (inl (begins s.layout c.layout-layout.ensures.sound.layout.words s.segments c.check_room.ensures))
