-- More room in queues changes only the view of that room, which suffices for each listed weak pointer of a snapshot.
use Rattle.nmgc_cycle.proofs.Vocabulary.{ℕ, suc, ◌≡◌, ◌+◌, ◌<◌, ◌≤◌, Bool, true, false, cond, List, [], ◌∷◌, length, map, arith, refl, subst, slice_index_or, Some, slice_get, is_some, ◌==◌, ◌&&◌, sum_by-cons, get_or_from_slice_get, slice_get_within, slice_get-get_or, World, node_of, Place, Mutator, weak_count, MutatorSeen, end_of, OldWeak, place_of, places_of, HasQueueRoom, HaveQueueRoom, count_made_by, seen_mutator}

-- the first mutator, and the rest
first_room : (list : List OldWeak) (m n : Mutator) (old new : List Mutator) → HaveQueueRoom list (m ∷ old) (n ∷ new) →
    HasQueueRoom (count_made_by m.number list) m n
first_room list m n old new h = h.each 0 m (omega arith)

rest_room : (list : List OldWeak) (m n : Mutator) (old new : List Mutator) → HaveQueueRoom list (m ∷ old) (n ∷ new) → HaveQueueRoom list old new
rest_room list m n old new h = record {
  count = let all : length (n ∷ new) ≡ length (m ∷ old) = h.count in omega (arith, all);
  each = λ k d lt. h.each (suc k) d (omega arith);
}

-- a report has the same of them
one_end : (count : ℕ) (m n : Mutator) → HasQueueRoom count m n → end_of (seen_mutator n) ≡ end_of (seen_mutator m)
one_end count m n h =
    cc (h.rest, h.words)

pub room_ends : (list : List OldWeak) (old new : List Mutator) → HaveQueueRoom list old new →
    map end_of (map seen_mutator new) ≡ map end_of (map seen_mutator old)
room_ends list [] [] h = refl
room_ends list [] (n ∷ new) h = absurd (let all : length (n ∷ new) ≡ 0 = h.count in omega (arith, all))
room_ends list (m ∷ old) [] h = absurd (let all : 0 ≡ length (m ∷ old) = h.count in omega (arith, all))
room_ends list (m ∷ old) (n ∷ new) h =
    cc (one_end (count_made_by m.number list) m n (first_room list m n old new h), room_ends list old new (rest_room list m n old new h))

-- and their nurseries are the same
pub room_nurseries : (list : List OldWeak) (old new : List Mutator) → HaveQueueRoom list old new →
    map (λ (m : MutatorSeen). m.nursery) (map seen_mutator new) ≡ map (λ (m : MutatorSeen). m.nursery) (map seen_mutator old)
room_nurseries list [] [] h = refl
room_nurseries list [] (n ∷ new) h = absurd (let all : length (n ∷ new) ≡ 0 = h.count in omega (arith, all))
room_nurseries list (m ∷ old) [] h = absurd (let all : 0 ≡ length (m ∷ old) = h.count in omega (arith, all))
room_nurseries list (m ∷ old) (n ∷ new) h =
    cc ((first_room list m n old new h).rest, room_nurseries list old new (rest_room list m n old new h))

-- each is an earlier mutator
pub one_room : (list : List OldWeak) (old new : List Mutator) → HaveQueueRoom list old new → (k : ℕ) (n : Mutator) → slice_get new k ≡ Some n →
    (m : Mutator) × (slice_get old k ≡ Some m) × HasQueueRoom (count_made_by m.number list) m n
one_room list old new h k n e =
    let within : k < length new = slice_get_within new k n e in
    let lt : k < length old = (let count = h.count in omega (arith, within, count)) in
    let m : Mutator = slice_index_or old k n in
    let there : slice_get old k ≡ Some m = slice_get-get_or old k n lt in
    let is : slice_index_or new k n ≡ n = get_or_from_slice_get new k n n e in
    (m, there, subst (λ (x : Mutator). HasQueueRoom (count_made_by m.number list) m x) is (h.each k n lt))

-- a snapshot has at most the listed weak pointers that a mutator made
fewer_if : (a b : Bool) → cond (a && b) 1 0 ≤ cond a 1 0
fewer_if true true = omega arith
fewer_if true false = omega arith
fewer_if false b = omega arith

pub counted : (snapshot : World) (m : ℕ) (list : List OldWeak) → weak_count snapshot m (places_of list) ≤ count_made_by m list
counted snapshot m [] = omega arith
counted snapshot m (w ∷ list) =
    let first : weak_count snapshot m (places_of (w ∷ list)) ≡
    cond ((w.weak.maker == m) && is_some (node_of snapshot w.weak)) 1 0 + weak_count snapshot m (places_of list) =
    sum_by-cons (λ (p : Place). cond ((p.name.maker == m) && is_some (node_of snapshot p.name)) 1 0) (place_of w) (places_of list) in
    let second : count_made_by m (w ∷ list) ≡ cond (w.weak.maker == m) 1 0 + count_made_by m list =
    sum_by-cons (λ (o : OldWeak). cond (o.weak.maker == m) 1 0) w list in
    let least = fewer_if (w.weak.maker == m) (is_some (node_of snapshot w.weak)) in
    let rest = counted snapshot m list in
    omega (arith, first, second, least, rest)
