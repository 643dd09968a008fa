use Rattle.nmgc_heap_tests.proofs.Vocabulary.{ℕ, ◌≡◌, ◌∙◌, List, [], ◌∷◌, subst, sym, ap, append-nil, young_stop, young_nurseries, young_registers, IsStopped, Segments, places_of, IsStoppedBy, Mutator, Nursery, Address}
use Rattle.nmgc_heap_tests.proofs.of_minor.stop.promote_young.Goals as goal

-- the lists over one mutator
one : (s : Segments) (words : List ℕ) (m : Mutator) (nurseries : List Nursery) (registers : List ℕ) → m.nursery ∷ [] ≡ nurseries →
    m.registers ≡ registers → m.queue.words ≡ [] → m.recorded.items ≡ [] → m.young_weaks.items ≡ [] →
    IsStopped young_stop s words nurseries registers ([] ∷ []) [] [] →
    IsStoppedBy (λ (x : Mutator). x.nursery) (λ (x : Mutator). x.registers) (λ (x : Mutator). x.queue) (λ (x : Mutator). x.recorded.items)
    (λ (x : Mutator). x.young_weaks.items) young_stop s words (m ∷ [])
one s words m nurseries registers n r q d y h =
    subst (λ (z : List Nursery × List ℕ × List ℕ × List Address × List Address).
    IsStopped young_stop s words z.0 z.1 (z.2 ∷ []) (places_of z.3) (places_of z.4)) (λ i. (
      sym n i,
      sym (append-nil m.registers ∙ r) i,
      sym q i,
      sym (append-nil m.recorded.items ∙ d) i,
      sym (append-nil m.young_weaks.items ∙ y) i,
    )) h

pub promote-requires-clause-stopped : goal.promote-requires-clause-stopped
promote-requires-clause-stopped g c =
    let s = c.args.segments.now in
    let words = c.args.words.now in
    let m : Mutator = c.requires.one.0 in
    let y = c.requires.one.2 in (
      young_stop,
      subst (λ (ms : List Mutator).
          IsStoppedBy (λ (x : Mutator). x.nursery) (λ (x : Mutator). x.registers) (λ (x : Mutator). x.queue) (λ (x : Mutator). x.recorded.items)
          (λ (x : Mutator). x.young_weaks.items) young_stop s words ms) (sym c.requires.one.1)
          (one s words m young_nurseries young_registers (ap (λ (n : Nursery). n ∷ []) y.nursery) y.registers y.queue y.recorded y.weaks
          (c.a_stop_may_have_a_new_object.ensures s words c.layout.ensures.sound c.requires.free c.requires.words)),
    )
