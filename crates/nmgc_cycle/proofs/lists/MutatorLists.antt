-- Lists over all mutators at a stop.
use Rattle.nmgc_cycle.proofs.Vocabulary.{◌≡◌, ℕ, List, [], ◌∷◌, length, refl, sym, ap, subst, ◌∙◌, Option, Some, flat_map, with_items, map-append, with_items_is, Address, Nursery, Segments, Stopped, IsStopped, words_of, Mutator, recorded_of, young_weaks_of, queues_in, words_in}
use Rattle.std.proofs.Common.{Vec}
use Rattle.nmgc_minor.specs.Start.{places_of}
use Rattle.nmgc_collector_laws.specs.Worked.{registers_of, queues_of, nurseries_of}

-- the addresses of all fields that they recorded
abbrev pub addresses_of : List Mutator → List Address
addresses_of mutators = flat_map (λ (m : Mutator). m.recorded.items) mutators

-- the addresses of all weak pointers that they made
abbrev pub young_in : List Mutator → List Address
young_in mutators = flat_map (λ (m : Mutator). m.young_weaks.items) mutators

-- the addresses of the recorded fields
pub places_of_addresses : (mutators : List Mutator) → places_of (addresses_of mutators) ≡ recorded_of mutators
places_of_addresses [] = refl
places_of_addresses (m ∷ mutators) = cc (map-append (λ (at : Address). at.0) m.recorded.items (addresses_of mutators), places_of_addresses mutators)

-- and of the new weak pointers
pub places_of_young : (mutators : List Mutator) → places_of (young_in mutators) ≡ young_weaks_of mutators
places_of_young [] = refl
places_of_young (m ∷ mutators) = cc (map-append (λ (at : Address). at.0) m.young_weaks.items (young_in mutators), places_of_young mutators)

-- the words of the queues
pub words_of_queues : (mutators : List Mutator) → words_of (queues_in mutators) ≡ queues_of mutators
words_of_queues [] = refl
words_of_queues (m ∷ mutators) = ap (λ (rest : List (List ℕ)). m.queue.words ∷ rest) (words_of_queues mutators)

-- a vector whose items were written as a slice has these items
pub vec_back : {X Z : Type 0} (v : Vec X Z) (items : List X) → length items ≡ length v.items → (with_items v items).items ≡ items
vec_back v items same = with_items_is v items (same ∙ sym v.ok.0)

-- the heap at a stop, by equal lists
pub same_stopped : (t : Stopped) (s : Segments) (words words' : List ℕ) (nurseries nurseries' : List Nursery) (registers registers' : List ℕ)
    (queues queues' : List (List ℕ)) (recorded recorded' weaks weaks' : List ℕ) → words ≡ words' → nurseries ≡ nurseries' → registers ≡ registers' →
    queues ≡ queues' → recorded ≡ recorded' → weaks ≡ weaks' → IsStopped t s words nurseries registers queues recorded weaks →
    IsStopped t s words' nurseries' registers' queues' recorded' weaks'
same_stopped t s words words' nurseries nurseries' registers registers' queues queues' recorded recorded' weaks weaks' w n r q f y h =
    rw (← y) (rw (← f) (rw (← q) (rw (← r) (rw (← n) (subst (λ (x : List ℕ). IsStopped t s x nurseries registers queues recorded weaks) w h)))))

-- read as lists of each mutator's parts, they represent the same
pub stopped_now : (t : Stopped) (s : Segments) (held : Option (List ℕ)) (words : List ℕ) (old was : List Mutator) → held ≡ Some words → was ≡ old →
    IsStopped t s (words_in held) (nurseries_of old) (registers_of old) (queues_of old) (recorded_of old) (young_weaks_of old) →
    IsStopped t s words (nurseries_of was) (registers_of was) (words_of (queues_in was)) (places_of (addresses_of was)) (places_of (young_in was))
stopped_now t s held words old was w o h =
    same_stopped t s (words_in held) words (nurseries_of old) (nurseries_of was) (registers_of old) (registers_of was) (queues_of old)
    (words_of (queues_in was)) (recorded_of old) (places_of (addresses_of was)) (young_weaks_of old) (places_of (young_in was))
    (ap words_in w)
    (sym (ap nurseries_of o))
    (sym (ap registers_of o))
    (sym (ap (λ (ms : List Mutator). words_of (queues_in ms)) o ∙ words_of_queues old))
    (sym (ap (λ (ms : List Mutator). places_of (addresses_of ms)) o ∙ places_of_addresses old))
    (sym (ap (λ (ms : List Mutator). places_of (young_in ms)) o ∙ places_of_young old))
    h
