-- All that mutators hold, as lists.
use Rattle.nmgc_minor.proofs.Vocabulary.{ℕ, ◌≡◌, ◌+◌, ◌<◌, List, [], ◌∷◌, ◌++◌, length, map, take, get_or, refl, sym, ap, ◌∙◌, flat_map, get_or-map, take_more, get_or_default, length-map, map-append, flat_map-append, FinQueue, Nursery, emptied, nursery_at, forwarded, promoted, append-nil}

-- the concatenation with the next item's list
pub flat_more : {A B : Type 0} (f : A → List B) (xs : List A) (i : ℕ) (x : A) → i < length xs → x ≡ get_or xs i x →
    flat_map f (take (i + 1) xs) ≡ flat_map f (take i xs) ++ f x
flat_more {A} {B} f xs i x lt is =
    cc (take_more xs i x lt, is, flat_map-append f (take i xs) (x ∷ []), append-nil (f x))

-- a mutator's nursery among all
pub nursery_is : {A : Type 0} (f : A → Nursery) (ms : List A) (k : ℕ) (x : A) → k < length ms → x ≡ get_or ms k x → f x ≡ nursery_at (map f ms) k
nursery_is f ms k x lt is =
    let there : k < length (map f ms) = rw (length-map ms f) lt in
    ap f is ∙ sym (get_or-map f ms k x) ∙ get_or_default (map f ms) k (f x) (record { base = 0; top = 0; end = 0 }) there

-- the contents of mutators after promotion

module _ {M : Type 0} (registers : M → List ℕ) (with_registers : M → List ℕ → M) (queue : M → FinQueue) (with_queue : M → FinQueue → M)
    (after_stop : M → M) (forward : ℕ → ℕ) where
  abbrev then : M → M
  then m = promoted registers with_registers queue with_queue after_stop forward m

  abbrev changed : M → M
  changed m = with_registers m (map forward (registers m))

  -- its queue after it was changed too
  abbrev own_queue : M → FinQueue
  own_queue m = forwarded forward (queue (changed m))

  pub registers_then : ((m : M) (words : List ℕ) → length words ≡ length (registers m) → registers (with_registers m words) ≡ words) →
      ((m : M) (q : FinQueue) → registers (with_queue m q) ≡ registers m) → ((m : M) → registers (after_stop m) ≡ registers m) → (ms : List M) →
      flat_map registers (map then ms) ≡ map forward (flat_map registers ms)
  registers_then own apart stay [] = refl
  registers_then own apart stay (m ∷ ms) =
      let one : registers (then m) ≡ map forward (registers m) =
      stay (with_queue (changed m) (own_queue m))
      ∙ apart (changed m) (own_queue m)
      ∙ own m (map forward (registers m)) (length-map (registers m) forward) in
      cc (one, registers_then own apart stay ms, map-append forward (registers m) (flat_map registers ms))

  pub queues_then : ((m : M) (q : FinQueue) → queue (with_queue m q) ≡ q) → ((m : M) → queue (after_stop m) ≡ queue m) →
      ((m : M) (words : List ℕ) → queue (with_registers m words) ≡ queue m) → (ms : List M) →
      map queue (map then ms) ≡ map (forwarded forward) (map queue ms)
  queues_then own stays apart [] = refl
  queues_then own stays apart (m ∷ ms) =
      let one : queue (then m) ≡ forwarded forward (queue m) =
      stays (with_queue (changed m) (own_queue m)) ∙ own (changed m) (own_queue m) ∙ ap (forwarded forward) (apart m (map forward (registers m))) in
      cc (one, queues_then own stays apart ms)

  pub nurseries_then : (nursery : M → Nursery) → ((m : M) → nursery (after_stop m) ≡ emptied (nursery m)) →
      ((m : M) (q : FinQueue) → nursery (with_queue m q) ≡ nursery m) → ((m : M) (words : List ℕ) → nursery (with_registers m words) ≡ nursery m) →
      (ms : List M) → map nursery (map then ms) ≡ map emptied (map nursery ms)
  nurseries_then nursery empties by_queue by_registers [] = refl
  nurseries_then nursery empties by_queue by_registers (m ∷ ms) =
      let one : nursery (then m) ≡ emptied (nursery m) =
      empties (with_queue (changed m) (own_queue m)) ∙ ap emptied (by_queue (changed m) (own_queue m) ∙ by_registers m (map forward (registers m))) in
      cc (one, nurseries_then nursery empties by_queue by_registers ms)

-- the words of forwarded queues, and their room
pub words_forwarded : (forward : ℕ → ℕ) (queues : List FinQueue) →
    map (λ (queue : FinQueue). queue.words) (map (forwarded forward) queues) ≡ map (map forward) (map (λ (queue : FinQueue). queue.words) queues)
words_forwarded forward [] = refl
words_forwarded forward (queue ∷ queues) = ap (λ (rest : List (List ℕ)). map forward queue.words ∷ rest) (words_forwarded forward queues)

pub room_forwarded : (forward : ℕ → ℕ) (queues : List FinQueue) →
    map (λ (queue : FinQueue). queue.spare) (map (forwarded forward) queues) ≡ map (λ (queue : FinQueue). queue.spare) queues
room_forwarded forward [] = refl
room_forwarded forward (queue ∷ queues) = ap (λ (rest : List ℕ). queue.spare ∷ rest) (room_forwarded forward queues)
