-- The mutators after finalisers have joined their queues: nothing else of them changed.
use Rattle.nmgc_cycle.proofs.Vocabulary.{ℕ, suc, ◌≡◌, ◌<◌, List, [], ◌∷◌, length, map, arith, refl, sym, ap, ◌∙◌, slice_index_or, Some, All, slice_get, slice_get_within, slice_get-get_or, All-cons, All-head, All-tail, FinQueue, Mutator, registers_of, queues_of, serials_of, HasAllRegisters, MutatorSeen, end_of, HaveQueues, no_queue, queues_in, seen_mutator}

-- mutator by mutator
abbrev pub AreWith : List FinQueue → List Mutator → List Mutator → Type 0
AreWith [] [] [] = Unit {0}
AreWith (q ∷ qs) (m ∷ old) (n ∷ new) = (n ≡ record m { queue = q }) × AreWith qs old new
AreWith _ _ _ = ⊥

pub are_with : (queues : List FinQueue) (old new : List Mutator) → length queues ≡ length old → HaveQueues queues old new → AreWith queues old new
are_with [] [] [] e h = tt
are_with [] [] (n ∷ new) e h = absurd (let c : length (n ∷ new) ≡ 0 = h.count in omega (arith, c))
are_with [] (m ∷ old) new e h = absurd (omega (arith, e))
are_with (q ∷ qs) [] new e h = absurd (omega (arith, e))
are_with (q ∷ qs) (m ∷ old) [] e h = absurd (let c : 0 ≡ length (m ∷ old) = h.count in omega (arith, c))
are_with (q ∷ qs) (m ∷ old) (n ∷ new) e h = (
  (let e : slice_get (n ∷ new) 0 ≡ Some (record m { queue = q }) = h.each 0 m refl in cc),
  are_with qs old new (omega (arith, e)) (record {
    count = let c : length (n ∷ new) ≡ length (m ∷ old) = h.count in omega (arith, c);
    each = λ k x e. h.each (suc k) x e;
  }),
)

-- their view in contracts
pub same_registers : (queues : List FinQueue) (old new : List Mutator) → AreWith queues old new →
    registers_of (map end_of (map seen_mutator new)) ≡ registers_of (map end_of (map seen_mutator old))
same_registers [] [] [] h = refl
same_registers [] [] (n ∷ new) h = absurd h
same_registers [] (m ∷ old) new h = absurd h
same_registers (q ∷ qs) [] new h = absurd h
same_registers (q ∷ qs) (m ∷ old) [] h = absurd h
same_registers (q ∷ qs) (m ∷ old) (n ∷ new) h = cc (h.0, same_registers qs old new h.1)

pub same_serials : (queues : List FinQueue) (old new : List Mutator) → AreWith queues old new →
    serials_of (map end_of (map seen_mutator new)) ≡ serials_of (map end_of (map seen_mutator old))
same_serials [] [] [] h = refl
same_serials [] [] (n ∷ new) h = absurd h
same_serials [] (m ∷ old) new h = absurd h
same_serials (q ∷ qs) [] new h = absurd h
same_serials (q ∷ qs) (m ∷ old) [] h = absurd h
same_serials (q ∷ qs) (m ∷ old) (n ∷ new) h = cc (h.0, same_serials qs old new h.1)

pub new_queues : (queues : List FinQueue) (old new : List Mutator) → AreWith queues old new →
    queues_of (map end_of (map seen_mutator new)) ≡ map (λ (q : FinQueue). q.words) queues
new_queues [] [] [] h = refl
new_queues [] [] (n ∷ new) h = absurd h
new_queues [] (m ∷ old) new h = absurd h
new_queues (q ∷ qs) [] new h = absurd h
new_queues (q ∷ qs) (m ∷ old) [] h = absurd h
new_queues (q ∷ qs) (m ∷ old) (n ∷ new) h = cc (h.0, new_queues qs old new h.1)

pub old_queues : (old : List Mutator) → queues_of (map end_of (map seen_mutator old)) ≡ map (λ (q : FinQueue). q.words) (queues_in old)
old_queues [] = refl
old_queues (m ∷ old) = ap (λ (l : List (List ℕ)). m.queue.words ∷ l) (old_queues old)

pub same_nurseries : (queues : List FinQueue) (old new : List Mutator) → AreWith queues old new →
    map (λ (m : MutatorSeen). m.nursery) (map seen_mutator new) ≡ map (λ (m : MutatorSeen). m.nursery) (map seen_mutator old)
same_nurseries [] [] [] h = refl
same_nurseries [] [] (n ∷ new) h = absurd h
same_nurseries [] (m ∷ old) new h = absurd h
same_nurseries (q ∷ qs) [] new h = absurd h
same_nurseries (q ∷ qs) (m ∷ old) [] h = absurd h
same_nurseries (q ∷ qs) (m ∷ old) (n ∷ new) h = cc (h.0, same_nurseries qs old new h.1)

pub same_whole : (queues : List FinQueue) (old new : List Mutator) → AreWith queues old new →
    All HasAllRegisters (map end_of (map seen_mutator old)) → All HasAllRegisters (map end_of (map seen_mutator new))
same_whole [] [] [] h all = all
same_whole [] [] (n ∷ new) h all = absurd h
same_whole [] (m ∷ old) new h all = absurd h
same_whole (q ∷ qs) [] new h all = absurd h
same_whole (q ∷ qs) (m ∷ old) [] h all = absurd h
same_whole (q ∷ qs) (m ∷ old) (n ∷ new) h all = All-cons HasAllRegisters (end_of (seen_mutator n)) (map end_of (map seen_mutator new))
    (cc (h.0, All-head HasAllRegisters (end_of (seen_mutator m)) (map end_of (map seen_mutator old)) all))
    (same_whole qs old new h.1 (All-tail HasAllRegisters (end_of (seen_mutator m)) (map end_of (map seen_mutator old)) all))

-- each is an earlier mutator
pub one_with : (queues : List FinQueue) (old new : List Mutator) → length queues ≡ length old → HaveQueues queues old new → (k : ℕ) (n : Mutator) →
    slice_get new k ≡ Some n → (m : Mutator) × (slice_get old k ≡ Some m) × (n ≡ record m { queue = n.queue })
one_with queues old new e h k n is =
    let within : k < length new = slice_get_within new k n is in
    let lt : k < length old = (let count = h.count in omega (arith, within, count)) in
    let m : Mutator = slice_index_or old k n in
    let there : slice_get old k ≡ Some m = slice_get-get_or old k n lt in
    let made : n ≡ record m { queue = slice_index_or queues k no_queue } =
    (let both : Some n ≡ Some (record m { queue = slice_index_or queues k no_queue }) = sym is ∙ h.each k m there in cc) in
    (m, there, made ∙ ap (λ (q : FinQueue). record m { queue = q }) (sym (ap (λ (x : Mutator). x.queue) made)))
