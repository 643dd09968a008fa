-- The mutators after a promotion of their roots in place.
use Rattle.nmgc_cycle.proofs.Vocabulary.{ℕ, ◌≡◌, List, [], ◌∷◌, length, map, refl, ap, sym, ◌∙◌, Some, slice_get, refill, length-map, emptied, map_item, Mutator, refill_all, Nursery, promoted_by}
use Rattle.nmgc_mutator.specs.AtStop.{cleared}
use Rattle.nmgc_collector_laws.specs.Worked.{serials_of, nurseries_of}

-- words that replaced the same number of words are all the words
abbrev pub refilled : (ℕ → ℕ) → Mutator → Mutator
refilled forward m = record m {
  registers = refill (length m.registers) m.registers (map forward m.registers);
  queue = record m.queue { words = map forward m.queue.words };
  nursery = emptied m.nursery;
  recorded = cleared m.recorded;
  young_weaks = cleared m.young_weaks;
  finalised = cleared m.finalised;
}

pub refilled_are : (forward : ℕ → ℕ) (mutators : List Mutator) → map (refilled forward) mutators ≡ map (promoted_by forward) mutators
refilled_are forward [] = refl
refilled_are forward (m ∷ mutators) =
    ap (λ (l : List ℕ). record (promoted_by forward m) { registers = l } ∷ map (refilled forward) mutators)
    (refill_all m.registers (map forward m.registers) (length-map m.registers forward))
    ∙ ap (λ (l : List Mutator). promoted_by forward m ∷ l) (refilled_are forward mutators)

-- serials stay, and the nurseries are empty
pub serials_promoted : (forward : ℕ → ℕ) (mutators : List Mutator) → serials_of (map (promoted_by forward) mutators) ≡ serials_of mutators
serials_promoted forward [] = refl
serials_promoted forward (m ∷ mutators) = ap (λ (l : List ℕ). m.serial ∷ l) (serials_promoted forward mutators)

pub nurseries_promoted : (forward : ℕ → ℕ) (mutators : List Mutator) →
    nurseries_of (map (promoted_by forward) mutators) ≡ map emptied (nurseries_of mutators)
nurseries_promoted forward [] = refl
nurseries_promoted forward (m ∷ mutators) = ap (λ (l : List Nursery). emptied m.nursery ∷ l) (nurseries_promoted forward mutators)

-- a mutator is an earlier mutator, promoted
pub one_promoted : (forward : ℕ → ℕ) (old new : List Mutator) → new ≡ map (promoted_by forward) old → (k : ℕ) (n : Mutator) →
    slice_get new k ≡ Some n → (m : Mutator) × (slice_get old k ≡ Some m) × (n ≡ promoted_by forward m)
one_promoted forward old new held k n e = map_item (promoted_by forward) old k n (ap (λ (l : List Mutator). slice_get l k) (sym held) ∙ e)
