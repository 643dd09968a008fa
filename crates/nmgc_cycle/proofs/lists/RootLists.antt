-- The view of a collector's mutators, by the definitions of a run and of a round.
use Rattle.std.proofs.{Common.ℕ, Common.◌≡◌, Common.List, Common.[], Common.◌∷◌, Common.◌++◌, Common.map, Common.refl, Common.ap, Common.◌∙◌, Common.Some, lemmas.Option.slice_get-map}
use Rattle.std.specs.Prelude.{flat_map, slice_get, option_map}
use Rattle.nmgc_object.specs.declared.layout.Nursery.{Nursery}
use Rattle.nmgc_mutator.specs.{declared.mutator.Mutator.Mutator, Records.numbers}
use Rattle.nmgc_collector_laws.specs.Worked as turn
use Rattle.nmgc_run_spec.specs.Terms.{serials_of}
use Rattle.nmgc_collector_laws.specs.{laws.Roots.same_serials, Seen.MutatorSeen, Seen.end_of}
use Rattle.nmgc_cycle.specs.Shown.{seen_mutator}

pub same_nurseries : (ms : List Mutator) → map (λ (m : MutatorSeen). m.nursery) (map seen_mutator ms) ≡ turn.nurseries_of ms
same_nurseries [] = refl
same_nurseries (m ∷ ms) = ap (λ (l : List Nursery). m.nursery ∷ l) (same_nurseries ms)

pub same_recorded : (ms : List Mutator) → flat_map (λ (m : MutatorSeen). m.recorded) (map seen_mutator ms) ≡ turn.recorded_of ms
same_recorded [] = refl
same_recorded (m ∷ ms) = ap (λ (l : List ℕ). numbers m.recorded.items ++ l) (same_recorded ms)

pub same_weaks : (ms : List Mutator) → flat_map (λ (m : MutatorSeen). m.young_weaks) (map seen_mutator ms) ≡ turn.weaks_of ms
same_weaks [] = refl
same_weaks (m ∷ ms) = ap (λ (l : List ℕ). numbers m.young_weaks.items ++ l) (same_weaks ms)

pub same_finalised : (ms : List Mutator) → flat_map (λ (m : MutatorSeen). m.finalised) (map seen_mutator ms) ≡ turn.finalised_of ms
same_finalised [] = refl
same_finalised (m ∷ ms) = ap (λ (l : List ℕ). numbers m.finalised.items ++ l) (same_finalised ms)

-- a mutator is seen by its number
pub seen_at : (ms : List Mutator) (k : ℕ) (m : Mutator) → slice_get ms k ≡ Some m → slice_get (map seen_mutator ms) k ≡ Some (seen_mutator m)
seen_at ms k m e = slice_get-map seen_mutator ms k ∙ ap (option_map seen_mutator) e

-- and so is its next serial
pub serial_seen : (ms : List Mutator) (k : ℕ) (m : Mutator) → slice_get ms k ≡ Some m →
    slice_get (serials_of (map end_of (map seen_mutator ms))) k ≡ Some m.serial
serial_seen ms k m e = ap (λ (l : List ℕ). slice_get l k) (same_serials ms) ∙ slice_get-map (λ (n : Mutator). n.serial) ms k ∙
    ap (option_map (λ (n : Mutator). n.serial)) e
