-- A heap at rest opens a round: its mutators' registers, queues and serials represent the world's.
use Rattle.nmgc_collector_laws.proofs.Vocabulary.{◌≡◌, ℕ, ◌<◌, List, [], length, get_or, refl, sym, ap, subst, ◌∙◌, arith, inl, Contains, false≢true, length-map, length-replicate, get_or_from_slice_get, World, state_of, nursery_place, Segments, Place, item_map, item, Opening, no_hand, IsOpening, old_stacks, HandStands, CanOpen, Mutator, IsAtRest, hand_of, opening_at, HaveAll, own_mean, none_owed}
use Rattle.nmgc_collector_laws.specs.Turn.{RestOpens}

module _ (s : Segments) (places : List Place) (w : World) (words : List ℕ) (mutators : List Mutator) (h : IsAtRest s places w words mutators) where
  abbrev o : Opening
  o = opening_at s.layout w places mutators

  as_many : length w.mutators ≡ s.layout.mutators
  as_many = sym h.roots.mutators.0 ∙ length-map mutators (λ (m : Mutator). m.queue.words) ∙ h.count

  all_whole : HaveAll mutators
  all_whole k m e = (h.mutators_are k m e).whole.size

  -- a place is below every nursery
  below : (p : Place) → Contains places p → (m : ℕ) → p.at < nursery_place s.layout m
  below p c m = let low = h.low p c in omega arith

  is_opening : IsOpening o
  is_opening = record {
    layout = h.sound.layout;
    not_closed = refl;
    mutators = as_many;
    owed = length-replicate (length w.mutators) [] ∙ as_many;
    snapshot = λ m. omega arith;
    wide = λ on x old there. absurd (false≢true on);
    in_segments = λ p c m lt. inl (below p c m);
  }

  -- `REGISTERS` words of the one list are the mutator's own
  hand_at : (m : ℕ) → m < s.layout.mutators → HandStands o m (get_or o.hands m no_hand)
  hand_at m lt =
      let many = h.count in
      let n = item mutators m (omega arith) in
      let is : get_or o.hands m no_hand ≡ hand_of w places n.0 =
      get_or_from_slice_get o.hands m (hand_of w places n.0) no_hand (item_map (hand_of w places) mutators m n.0 n.1) in
      let exists : m < length w.mutators = subst (λ (k : ℕ). m < k) (sym as_many) lt in
      rw is (record {
        registers = own_mean (Contains places) mutators all_whole m n.0 n.1 (state_of w m).registers (h.world.registers m exists) (h.roots.held m exists);
        queue = h.roots.queued m n.0.queue.words (item_map (λ (x : Mutator). x.queue.words) mutators m n.0 n.1);
        serial = h.roots.next m n.0.serial (item_map (λ (x : Mutator). x.serial) mutators m n.0 n.1);
        stacks = ap (λ (k : ℕ). old_stacks places w k) (h.mutators_are m n.0 n.1).number_is;
      })

  opens : CanOpen o words
  opens = record {
    is = is_opening;
    world = h.world;
    unmarked_is = λ off. refl;
    represents = h.represents;
    count = length-map mutators (hand_of w places) ∙ h.count;
    hands = hand_at;
    older = λ x before was now. absurd (false≢true was.marking);
    owed = none_owed (length w.mutators);
    queued = λ entry c. absurd (let lt = c.1 in omega arith);
  }

pub rest_opens : RestOpens
rest_opens s places w words mutators h = opens s places w words mutators h
