-- Words and addresses that are marked in order.
use Rattle.nmgc_mark.proofs.Vocabulary.{◌≡◌, ℕ, zero, suc, ◌+◌, ◌<◌, ◌≤◌, List, [], ◌∷◌, ◌++◌, length, map, refl, sym, ap, ◌∙◌, arith, take, drop, get_or, length-drop, get_or-take, get_or-drop, length-take-le, take_more, map-append, flat_map-append, flat_map, Address, FinQueue, Opening, Marks, name_at, name_meant, with_name, slots_of, places, with_places, with_words, with_queues, append-nil}

pub places_more : (o : Opening) (m : Marks) (xs : List Address) (i : ℕ) (a : Address) → i < length xs →
    with_places o m (places (take (i + 1) xs)) ≡ with_name o.core.snapshot (with_places o m (places (take i xs))) (name_at o.places (get_or xs i a).0)
places_more o m [] i a lt = absurd (omega arith)
places_more o m (x ∷ xs) zero a lt = refl
places_more o m (x ∷ xs) (suc i) a lt =
    let z : suc i + 1 ≡ suc (i + 1) = omega arith in
    ap (λ n. with_places o m (places (take n (x ∷ xs)))) z ∙ places_more o (with_name o.core.snapshot m (name_at o.places x.0)) xs i a (omega arith)

pub words_more : (o : Opening) (m : Marks) (xs : List ℕ) (i : ℕ) → i < length xs →
    with_words o m (take (i + 1) xs) ≡ with_name o.core.snapshot (with_words o m (take i xs)) (name_meant o.places (get_or xs i 0))
words_more o m [] i lt = absurd (omega arith)
words_more o m (x ∷ xs) zero lt = refl
words_more o m (x ∷ xs) (suc i) lt =
    let z : suc i + 1 ≡ suc (i + 1) = omega arith in
    ap (λ n. with_words o m (take n (x ∷ xs))) z ∙ words_more o (with_name o.core.snapshot m (name_meant o.places x)) xs i (omega arith)

pub words_append : (o : Opening) (m : Marks) (xs ys : List ℕ) → with_words o m (xs ++ ys) ≡ with_words o (with_words o m xs) ys
words_append o m [] ys = refl
words_append o m (x ∷ xs) ys = words_append o (with_name o.core.snapshot m (name_meant o.places x)) xs ys

pub queues_flat : (o : Opening) (m : Marks) (qs : List FinQueue) → with_queues o m qs ≡ with_words o m (flat_map (λ (q : FinQueue). q.words) qs)
queues_flat o m [] = refl
queues_flat o m (q ∷ qs) = queues_flat o (with_words o m q.words) qs ∙ sym (words_append o m q.words (flat_map (λ (q : FinQueue). q.words) qs))

-- the words of all items, with the next item
pub flat_more : {A : Type 0} (f : A → List ℕ) (xs : List A) (i : ℕ) (x : A) → i < length xs → x ≡ get_or xs i x →
    flat_map f (take (i + 1) xs) ≡ flat_map f (take i xs) ++ f x
flat_more {A} f xs i x lt is =
    cc (take_more xs i x lt, is, flat_map-append f (take i xs) (x ∷ []), append-nil (f x))

last_queue : (o : Opening) (m : Marks) (qs : List FinQueue) (q : FinQueue) → with_queues o m (qs ++ q ∷ []) ≡ with_words o (with_queues o m qs) q.words
last_queue o m [] q = refl
last_queue o m (x ∷ xs) q = last_queue o (with_words o m x.words) xs q

-- the marks with the next mutator's queue
pub queues_more : {A : Type 0} (f : A → FinQueue) (o : Opening) (m : Marks) (xs : List A) (i : ℕ) (x : A) → i < length xs → x ≡ get_or xs i x →
    with_queues o m (map f (take (i + 1) xs)) ≡ with_words o (with_queues o m (map f (take i xs))) (f x).words
queues_more {A} f o m xs i x lt is =
    cc (take_more xs i x lt, is, map-append f (take i xs) (x ∷ []), last_queue o m (map f (take i xs)) (f x))

-- a slot of g is a word of the heap
pub slot_word : (words : List ℕ) (i : ℕ) → i < 16 → get_or (slots_of words) i 0 ≡ get_or words (3 + i) 0
slot_word words i lt = get_or-take 16 (drop 3 words) i 0 lt ∙ get_or-drop 3 words i 0

pub slots_count : (words : List ℕ) → 32 ≤ length words → length (slots_of words) ≡ 16
slots_count words le = length-take-le 16 (drop 3 words) (let d = length-drop 3 words in omega arith)
