-- The mutators' state after a round represents the roots of its world.
use Rattle.nmgc_collector_laws.proofs.Vocabulary.{◌≡◌, ℕ, ◌*◌, ◌<◌, List, [], length, sym, ap, subst, ◌∙◌, arith, Some, slice_get, Contains, length-map, slice_get_within, REGISTERS, World, state_of, serial_of, AllMean, ListMeans, RepresentsRoots, map_item, list_more, Hand, Opening, Seen, hand_now, now, IsHand, IsFinished, places_then, Mutator, Done, HaveWorked, queues_of, RootsAreLeft, same_count, in_place, item, worker_at, HaveAll, registers_count, all_mean}
use Rattle.nmgc_round.specs.Objects.{IsIn}
use Rattle.nmgc_collector_laws.specs.Worked.{registers_of, serials_of}

-- its roots as a hand
abbrev roots_in : Mutator → Hand
roots_in m = record { registers = m.registers; queue = m.queue.words; serial = m.serial; stacks = [] }

module _ (o : Opening) (words : List ℕ) (v : Seen) (mutators : List Mutator) (done : List (List Done)) (h : IsFinished o words v)
    (all : HaveWorked o v.parts mutators done) where
  abbrev W : World
  W = (now o h.events).world

  as_many : length W.mutators ≡ length mutators
  as_many = same_count o.core h.events h.legal ∙ h.is.mutators ∙ sym all.mutators_are

  -- a mutator's state is as its rows left it
  record IsOwn (k : ℕ) (m : Mutator) : Type 0 where
    size : length m.registers ≡ REGISTERS
    hand : IsHand o h.born W k (roots_in m)

  own_at : (k : ℕ) (m : Mutator) → slice_get mutators k ≡ Some m → IsOwn k m
  own_at k m e =
      let lt = slice_get_within mutators k m e in let many = all.mutators_are in
      let w = worker_at o v.parts mutators done all k (omega arith) in
      let same : Some w.mutator ≡ Some m = sym w.mutator_there ∙ e in
      let is : w.mutator ≡ m = cc in
      let holds = w.worked.holds in
      let left : IsHand o h.born W k (hand_now o w.part) = subst (λ (n : ℕ).
      IsHand o h.born W n (hand_now o w.part)) w.number (h.parts k w.part w.part_there).0.hand in
      subst (λ (x : Mutator). IsOwn k x) is (record {
        size = w.worked.size;
        hand = record {
          registers = subst (λ (l : List ℕ). ListMeans (IsIn o h.born) l (state_of W k).registers) holds.registers left.registers;
          queue = subst (λ (l : List ℕ). ListMeans (IsIn o h.born) l (state_of W k).queue) holds.queue left.queue;
          serial = sym holds.serial ∙ left.serial;
        };
      })

  all_whole : HaveAll mutators
  all_whole k m e = (own_at k m e).size

  held : (k : ℕ) → k < length W.mutators → AllMean (Contains (places_then o h.born)) (registers_of mutators) (REGISTERS * k) (state_of W k).registers
  held k lt =
      let many = as_many in
      let m = item mutators k (omega arith) in
      let own = (own_at k m.0 m.1).hand in
      all_mean (Contains (places_then o h.born)) mutators all_whole k m.0 m.1 (state_of W k).registers
      (list_more (IsIn o h.born) (Contains (places_then o h.born)) (in_place o h.born) m.0.registers (state_of W k).registers own.registers)

  queued : (k : ℕ) (own : List ℕ) → slice_get (queues_of mutators) k ≡ Some own → ListMeans (Contains (places_then o h.born)) own (state_of W k).queue
  queued k own e =
      let m = map_item (λ (x : Mutator). x.queue.words) mutators k own e in
      rw m.2 (list_more (IsIn o h.born) (Contains (places_then o h.born)) (in_place o h.born) m.0.queue.words (state_of W k).queue (own_at k m.0 m.1).hand.queue)

  next : (k serial : ℕ) → slice_get (serials_of mutators) k ≡ Some serial → serial ≡ serial_of W k
  next k serial e = let m = map_item (λ (x : Mutator). x.serial) mutators k serial e in m.2 ∙ (own_at k m.0 m.1).hand.serial

  -- the roots of all mutators together
  roots : RepresentsRoots (places_then o h.born) W (registers_of mutators) (queues_of mutators) (serials_of mutators)
  roots = record {
    count = registers_count mutators all_whole ∙ ap (λ n. REGISTERS * n) (sym as_many);
    mutators = (length-map mutators (λ (x : Mutator). x.queue.words) ∙ sym as_many, length-map mutators (λ (x : Mutator). x.serial) ∙ sym as_many);
    held = held;
    queued = queued;
    next = next;
  }

pub roots_left : RootsAreLeft
roots_left o words v mutators done h all = roots o words v mutators done h all
