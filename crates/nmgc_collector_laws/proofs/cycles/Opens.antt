-- A heap at rest beside a cycle opens a round.
use Rattle.nmgc_collector_laws.proofs.Vocabulary.{◌≡◌, ℕ, ◌<◌, List, [], ◌∷◌, length, get_or, map, refl, sym, ap, subst, ◌∙◌, arith, inl, inr, IsSome, Contains, length-map, get_or_from_slice_get, World, IsWorld, node_of, state_of, contains_cases, is_some_of, nothing_in, item_map, item, nursery_place, Entry, State, Segments, Place, Represents, NoNode, RepresentsRoots, Opening, no_hand, IsOpening, IsQueued, old_stacks, HandStands, CanOpen, Mutator, hand_of, queues_of, HaveAll, own_mean, AreAt, Cycle, IsAtRestMarking, opening_beside, RestOpens, each_empty}
use Rattle.nmgc_collector_laws.specs.Worked.{registers_of, serials_of}
use Rattle.nmgc_collector_laws.proofs.cycles.Snapshots.{IsReachedBy, reached_by, tracked_wide, marked_there, marked_tracked, queued_marked, are_earlier, node_later, fresh_at}

-- an entry that waits is at a place
pub at_found : (places : List Place) (ats : List ℕ) (entries : List Entry) (entry : Entry) →
    AreAt places ats (map (λ (e : Entry). e.name) entries) → Contains entries entry → (at : ℕ) × Contains places (record { at = at; name = entry.name })
at_found places ats [] entry h c = absurd (nothing_in entry c)
at_found places [] (first ∷ entries) entry h c = absurd h
at_found places (at ∷ ats) (first ∷ entries) entry h c = elim (contains_cases first entries entry c) [
  | inl is ↦ (at, subst (λ (e : Entry). Contains places (record { at = at; name = e.name })) is h.0)
  | inr d ↦ at_found places ats entries entry h.1 d
]

module _ (c : Cycle) (core : State) (s : Segments) (places : List Place) (w : World) (words : List ℕ) (mutators : List Mutator) (queue : List ℕ)
    (h : IsAtRestMarking c core s places w words mutators queue) where
  abbrev o : Opening
  o = opening_beside s.layout core places mutators

  reached : IsReachedBy c.snapshot c.rows core
  reached = reached_by c w core h.machine

  world_is : w ≡ core.world
  world_is = sym h.machine.machine.world_is

  snapshot_is : c.snapshot ≡ core.snapshot
  snapshot_is = sym reached.marking.snapshot

  world : IsWorld core.world
  world = subst IsWorld world_is h.world

  roots : RepresentsRoots places core.world (registers_of mutators) (queues_of mutators) (serials_of mutators)
  roots = subst (λ (x : World). RepresentsRoots places x (registers_of mutators) (queues_of mutators) (serials_of mutators)) world_is h.roots

  represents : Represents s.layout (core.snapshot ∷ []) NoNode places core.world words
  represents = subst (λ (y : World × World). Represents s.layout (y.0 ∷ []) NoNode places y.1 words) (λ i. (snapshot_is i, world_is i)) h.represents

  as_many : length core.world.mutators ≡ s.layout.mutators
  as_many = sym roots.mutators.0 ∙ length-map mutators (λ (m : Mutator). m.queue.words) ∙ h.count

  all_whole : HaveAll mutators
  all_whole k m e = (h.mutators_are k m e).whole.size

  -- a place is below every nursery
  below : (p : Place) → Contains places p → (m : ℕ) → p.at < nursery_place s.layout m
  below p d m = let low = h.low p d in omega arith

  is_opening : IsOpening o
  is_opening = record {
    layout = h.sound.layout;
    not_closed = h.machine.machine.open_yet;
    mutators = as_many;
    owed = reached.facts.base.owed_lists ∙ as_many;
    snapshot = reached.facts.base.serials;
    wide = λ on x old there. tracked_wide c.snapshot c.rows core reached x.name old.tracked there;
    in_segments = λ p d m lt. inl (below p d m);
  }

  -- `REGISTERS` words of the one list are the mutator's own
  hand_at : (m : ℕ) → m < s.layout.mutators → HandStands o m (get_or o.hands m no_hand)
  hand_at m lt =
      let many = h.count in
      let n = item mutators m (omega arith) in
      let is : get_or o.hands m no_hand ≡ hand_of core.world places n.0 =
      get_or_from_slice_get o.hands m (hand_of core.world places n.0) no_hand (item_map (hand_of core.world places) mutators m n.0 n.1) in
      let exists : m < length core.world.mutators = subst (λ (k : ℕ). m < k) (sym as_many) lt in
      rw is (record {
        registers = own_mean (Contains places) mutators all_whole m n.0 n.1 (state_of core.world m).registers (world.registers m exists) (roots.held m exists);
        queue = roots.queued m n.0.queue.words (item_map (λ (x : Mutator). x.queue.words) mutators m n.0 n.1);
        serial = roots.next m n.0.serial (item_map (λ (x : Mutator). x.serial) mutators m n.0 n.1);
        stacks = ap (λ (k : ℕ). old_stacks places core.world k) (h.mutators_are m n.0 n.1).number_is;
      })

  -- an entry that waits has its object, and a node in the snapshot
  queued : (entry : Entry) → Contains core.queue entry → IsQueued o entry
  queued entry d =
      let marked = queued_marked c.snapshot c.rows core reached entry d in
      let place = at_found places queue core.queue entry h.waits d in
      let there : IsSome (node_of core.snapshot entry.name) =
      subst (λ (x : World). IsSome (node_of x entry.name)) snapshot_is (marked_there c.snapshot c.rows core reached entry.name marked) in
      let before = is_some_of (node_of core.snapshot entry.name) there in
      let later = reached.facts.base.later entry.name before.0 before.1 in
      let fresh = fresh_at core.queue h.machine.fresh entry d in
      record {
        marking = refl;
        object = record { at = place.0; name = entry.name; node = later.node };
        here = record { there = place.1; tracked = marked_tracked c.snapshot c.rows core reached entry.name marked; node = later.node_is };
        name = refl;
        node = before.0;
        there = before.1;
        within = omega arith;
        passed = λ two. absurd (omega arith);
      }

  opens : CanOpen o words
  opens = record {
    is = is_opening;
    world = world;
    unmarked_is = λ off. absurd cc;
    represents = represents;
    count = length-map mutators (hand_of core.world places) ∙ h.count;
    hands = hand_at;
    older = λ x before was now. node_later c.snapshot c.rows core reached x.name before x.node was.there now;
    owed = each_empty core.owed h.machine.machine.nothing_owed;
    queued = queued;
  }

pub rest_opens : RestOpens
rest_opens c core s places w words mutators queue h = (
  opens c core s places w words mutators queue h,
  are_earlier c.snapshot c.rows core (reached_by c w core h.machine),
)
