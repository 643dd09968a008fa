-- A step of the loop that takes the replies off the mutators.
use Rattle.nmgc_cycle.proofs.Vocabulary.{◌≡◌, ℕ, ◌+◌, ◌<◌, List, [], ◌∷◌, ◌++◌, length, map, take, drop, set, get_or, ap, ◌∙◌, arith, get_or_default, take_more, map_over_more, common_steps, Reply, Mutator, cleared, replies_of}

-- the rest of the list is as it was
rest_is : (was now : List Mutator) (i : ℕ) (m : Mutator) → i < length was → now ≡ map cleared (take i was) ++ drop i was → get_or now i m ≡ get_or was i m
rest_is was now i m lt e = grind (arith, common_steps)

replies_more : (was : List Mutator) (i : ℕ) (m : Mutator) → i < length was → m ≡ get_or was i m →
    replies_of (take i was) ++ m.replies.items ∷ [] ≡ replies_of (take (i + 1) was)
replies_more was i m lt e = grind (arith, common_steps, take_more was i m lt)

pub taken_more : (was now : List Mutator) (reported : List (List Reply)) (i : ℕ) (d : Mutator) → i < length was → length now ≡ length was →
    reported ≡ replies_of (take i was) → now ≡ map cleared (take i was) ++ drop i was →
    (reported ++ (get_or now i d).replies.items ∷ [] ≡ replies_of (take (i + 1) was)) ×
    (set now i (cleared (get_or now i d)) ≡ map cleared (take (i + 1) was) ++ drop (i + 1) was)
taken_more was now reported i d lt count e f =
    let m = get_or now i d in
    let is : m ≡ get_or now i m = get_or_default now i d m (omega arith) in (
      ap (λ (l : List (List Reply)). l ++ m.replies.items ∷ []) e ∙ replies_more was i m lt (is ∙ rest_is was now i m lt f),
      map_over_more cleared was now i m lt f is,
    )
