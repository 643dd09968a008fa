-- The nurseries of new mutators are unused, and a stop has nothing to do.
use Rattle.nmgc_cycle.proofs.{Vocabulary.ℕ, Vocabulary.zero, Vocabulary.suc, Vocabulary.◌≡◌, Vocabulary.◌+◌, Vocabulary.◌<◌, Vocabulary.List, Vocabulary.[], Vocabulary.◌∷◌, Vocabulary.◌++◌, Vocabulary.length, Vocabulary.map, Vocabulary.arith, Vocabulary.refl, Vocabulary.sym, Vocabulary.ap, Vocabulary.subst, Vocabulary.◌∙◌, Vocabulary.inl, Vocabulary.inr, Vocabulary.Some, Vocabulary.slice_get, Vocabulary.cases_lt, Vocabulary.get_or_past, Vocabulary.contains_cases, Vocabulary.World, Vocabulary.Layout, Vocabulary.Nursery, Vocabulary.nursery_place, Vocabulary.nursery_at, Vocabulary.AreEmpty, Vocabulary.Place, Vocabulary.shared_place, Vocabulary.Mutator, Vocabulary.numbers, Vocabulary.IsEmptied, Vocabulary.AreNurseries, Vocabulary.MutatorSeen, Vocabulary.seen_mutator, Vocabulary.Address, starts.News.AreNew}
use Rattle.std.proofs.Math.ListN.{length-map}

-- the nurseries of mutators
abbrev pub nurseries : List Mutator → List Nursery
nurseries mutators = map (λ (m : MutatorSeen). m.nursery) (map seen_mutator mutators)

-- a fact of each mutator's nursery is one of each nursery
each_nursery : (P : ℕ → Nursery → Type 0) (mutators : List Mutator) → ((k : ℕ) (m : Mutator) → slice_get mutators k ≡ Some m → P k m.nursery) →
    (k : ℕ) → k < length mutators → P k (nursery_at (nurseries mutators) k)
each_nursery P [] each k lt = absurd (omega arith)
each_nursery P (m ∷ mutators) each zero lt = each zero m refl
each_nursery P (m ∷ mutators) each (suc k) lt = each_nursery (λ (j : ℕ). P (suc j)) mutators (λ j n e. each (suc j) n e) k (omega arith)

-- and of each in the view of contracts
each_seen : (P : MutatorSeen → Type 0) (mutators : List Mutator) → ((k : ℕ) (m : Mutator) → slice_get mutators k ≡ Some m → P (seen_mutator m)) →
    (k : ℕ) (s : MutatorSeen) → slice_get (map seen_mutator mutators) k ≡ Some s → P s
each_seen P [] each k s e = absurd cc
each_seen P (m ∷ mutators) each zero s e = let same : seen_mutator m ≡ s = cc in subst P same (each zero m refl)
each_seen P (m ∷ mutators) each (suc k) s e = each_seen P mutators (λ j n is. each (suc j) n is) k s e

as_many : (mutators : List Mutator) → length (nurseries mutators) ≡ length mutators
as_many mutators = length-map (map seen_mutator mutators) (λ (m : MutatorSeen). m.nursery) ∙ length-map mutators seen_mutator

module _ (layout : Layout) (mutators : List Mutator) (new : AreNew layout mutators) where
  pub are_empty : AreEmpty (nurseries mutators)
  are_empty k = elim (cases_lt k (length mutators)) [
    | inl lt ↦ each_nursery (λ (j : ℕ) (n : Nursery). n.top ≡ n.base) mutators (λ j m e. (new j m e).unused.top) k lt
    | inr ge ↦
        let many = as_many mutators in
        let none : Nursery = record { base = 0; top = 0; end = 0 } in
        let past = get_or_past (nurseries mutators) k none (omega arith) in
        ap (λ (n : Nursery). n.top) past ∙ sym (ap (λ (n : Nursery). n.base) past)
  ]

  pub are_nurseries : (w : World) → length mutators ≡ layout.mutators → AreNurseries layout (shared_place ∷ []) w (nurseries mutators)
  are_nurseries w count = record {
    used = record {
      count = as_many mutators ∙ count;
      places_are = λ maker lt. each_nursery (λ (j : ℕ) (n : Nursery). n.base ≡ nursery_place layout j) mutators (λ j m e. let is = new j m e in
          cc (is.unused.base, is.layout_is, is.number_is)) maker (omega arith);
      tops = λ maker lt. let top = are_empty maker in (omega arith, omega arith);
      used = λ p node c low there. elim (contains_cases shared_place [] p c) [
        | inl e ↦ let at = ap (λ (q : Place). q.at) e in absurd (omega arith)
        | inr none ↦ absurd (omega (arith, none.1))
      ];
    };
    ends = λ maker lt. each_nursery (λ (j : ℕ) (n : Nursery). n.end ≡ n.base + layout.nursery) mutators (λ j m e. let is = new j m e in
        is.unused.end ∙ ap (λ (l : Layout). m.nursery.base + l.nursery) is.layout_is) maker (omega arith);
  }

  pub nothing_left : ((k : ℕ) (m : Mutator) → slice_get mutators k ≡ Some m → m.sender.since ≡ []) → (k : ℕ) (s : MutatorSeen) →
      slice_get (map seen_mutator mutators) k ≡ Some s → IsEmptied s
  nothing_left unsent = each_seen IsEmptied mutators (λ k m e. record {
    recorded = ap numbers (new k m e).recorded;
    young_weaks = ap numbers (new k m e).young_weaks;
    finalised = ap numbers (new k m e).finalised;
    entries = ap (λ (l : List Address). numbers (l ++ m.updrem.items)) (unsent k m e) ∙ ap numbers (new k m e).updrem;
  })
