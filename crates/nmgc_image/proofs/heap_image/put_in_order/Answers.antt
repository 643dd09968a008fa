use Rattle.nmgc_image.proofs.{Vocabulary.ℕ, Vocabulary.◌≡◌, Vocabulary.◌∙◌, Vocabulary.◌++◌, Vocabulary.rules, Vocabulary.List, Vocabulary.[], Vocabulary.◌∷◌, Vocabulary.map, Vocabulary.refl, Vocabulary.sym, Vocabulary.ap, Vocabulary.subst, Vocabulary.All, Vocabulary.All-permutation, Vocabulary.IsPermutation, Vocabulary.IsPermutation-map, Vocabulary.IsNonDecreasingBy, Vocabulary.IsNonDecreasingBy-from_sort_by_key, Vocabulary.on_ok_weaker, Vocabulary.IsReadableObject, Vocabulary.Keyed, Vocabulary.IsKeyed, Vocabulary.keyed_at, Listing.places_of, Written.all_keyed, Written.rekeyed}
use Rattle.nmgc_image.proofs.heap_image.put_in_order.Goals as goal

keyed_places : (words places : List ℕ) → places_of (map (keyed_at words) places) ≡ places
keyed_places words [] = refl
keyed_places words (at ∷ places) = ap (λ (l : List ℕ). at ∷ l) (keyed_places words places)

pub keyed_of-requires : goal.keyed_of-requires
keyed_of-requires c = subst (λ (l : List ℕ). All (IsReadableObject c.args.words.now) l) (sym c.as_slice.ensures.value) c.requires

pub returns-clause-sorted : goal.returns-clause-sorted
returns-clause-sorted c =
    let words : List ℕ = c.args.words.now in
    let keyed : List Keyed = c.sort_unstable_by_key.new.self.items in
    let made : c.in_ok-keyed.keyed.items ≡ map (keyed_at words) c.args.places.now.items = c.in_ok-keyed.ensures ∙ ap (map (keyed_at words)) c.as_slice.ensures.value in
    let all : All (IsKeyed words) keyed = All-permutation (IsKeyed words) c.in_ok-keyed.keyed.items keyed c.sort_unstable_by_key.ensures.permutation
    (subst (All (IsKeyed words)) (sym made) (all_keyed words c.args.places.now.items c.requires)) in
    let sorted : IsNonDecreasingBy (λ (o : Keyed). o.key) keyed =
    IsNonDecreasingBy-from_sort_by_key (λ (o : Keyed). o.key) _ c.sort_unstable_by_key.ensures.sorted (λ a r q k. search rules) in
    on_ok_weaker c.push_places.result (λ is. subst (IsNonDecreasingBy (λ (o : Keyed). o.key))
    (sym (ap (map (keyed_at words)) (is ∙ ap (λ (l : List ℕ). l ++ places_of c.deref.result.now) c.clear.ensures.items ∙ ap places_of c.deref.ensures.value) ∙
    rekeyed words keyed all)) sorted) c.push_places.ensures

pub returns-clause-same : goal.returns-clause-same
returns-clause-same c =
    let words : List ℕ = c.args.words.now in
    let before : places_of c.in_ok-keyed.keyed.items ≡ c.args.places.now.items =
    ap places_of (c.in_ok-keyed.ensures ∙ ap (map (keyed_at words)) c.as_slice.ensures.value) ∙ keyed_places words c.args.places.now.items in
    let moved : IsPermutation (places_of c.in_ok-keyed.keyed.items) (places_of c.sort_unstable_by_key.new.self.items) =
    IsPermutation-map (λ (o : Keyed). o.at) c.in_ok-keyed.keyed.items c.sort_unstable_by_key.new.self.items c.sort_unstable_by_key.ensures.permutation in
    on_ok_weaker c.push_places.result (λ is. subst (λ (l : List ℕ). IsPermutation l c.push_places.new.places.items) before
    (subst (IsPermutation (places_of c.in_ok-keyed.keyed.items))
    (sym (is ∙ ap (λ (l : List ℕ). l ++ places_of c.deref.result.now) c.clear.ensures.items ∙ ap places_of c.deref.ensures.value)) moved)) c.push_places.ensures
