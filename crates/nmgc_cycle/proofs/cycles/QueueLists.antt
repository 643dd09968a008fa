-- Loops over the mutators' queues: the effect of one more step.
use Rattle.nmgc_cycle.proofs.{Vocabulary.ℕ, Vocabulary.◌≡◌, Vocabulary.◌+◌, Vocabulary.◌<◌, Vocabulary.◌≤◌, Vocabulary.List, Vocabulary.length, Vocabulary.get_or, Vocabulary.slice_index_or, Vocabulary.arith, Vocabulary.subst, Vocabulary.◌∙◌, Vocabulary.slice_set, Vocabulary.get_or_default, Vocabulary.Mutator, Vocabulary.OldWeak, Vocabulary.HasQueueRoom, Vocabulary.count_made_by, rounds.Reserving.up_to}

-- a further queue has room
pub room_more : (list : List OldWeak) (was now : List Mutator) (n : ℕ) (m next : Mutator) → n < length was → length now ≡ length was →
    m ≡ get_or now n m → ((k : ℕ) (d : Mutator) → k < n →
    HasQueueRoom (count_made_by (slice_index_or was k d).number list) (slice_index_or was k d) (slice_index_or now k d)) →
    ((k : ℕ) (d : Mutator) → n ≤ k → slice_index_or now k d ≡ slice_index_or was k d) → HasQueueRoom (count_made_by m.number list) m next →
    (k : ℕ) (d : Mutator) → k < n + 1 →
    HasQueueRoom (count_made_by (slice_index_or was k d).number list) (slice_index_or was k d) (slice_index_or (slice_set now n next) k d)
room_more list was now n m next lt count read before after own k d le =
    let there : n < length now = omega (arith, lt, count) in
    let old : m ≡ slice_index_or was n d = read ∙ get_or_default now n m d there ∙ after n d (omega arith) in
    up_to (λ (i : ℕ) (x : Mutator).
    HasQueueRoom (count_made_by (slice_index_or was i d).number list) (slice_index_or was i d) x) now n next d there k le (λ less.
    before k d less) (subst (λ (x : Mutator). HasQueueRoom (count_made_by x.number list) x next) old own)
